-- The steps that are logged of a level, chunk by chunk.
use Rattle.std.proofs.Common.{ℕ, ◌≡◌, ◌<◌, ◌+◌, ◌-◌, ◌↔◌, ◌/◌, ◌++◌, [], true, false, List, length, get_or, length-append, arith, inl, inr, refl, sym, ap, subst, ◌∙◌}
use Rattle.std.specs.List.{AllPairs, Contains}
use Rattle.std.proofs.lemmas.Bool.{cases_Bool, cases_lt, true≢false}
use Rattle.std.proofs.lemmas.List.{append-nil, append_assoc, get_or-append_right, get_or_append_left}
use Rattle.std.proofs.lemmas.List.Elements.{Contains-append_cases, Contains-append_left, Contains-append_right, Contains-get_or}
use Rattle.sr_model.specs.declared.cells.Lit.{Lit}
use Rattle.sr_model.specs.declared.cells.Place.{Place}
use Rattle.sr_model.specs.Closure.{ForcesAt, lit}
use Rattle.sr_model.specs.Order.{PlaceLe}
use Rattle.sr_model.specs.Room.{WithRoom}
use Rattle.sr_model.proofs.lemmas.Members.{All-from_Contains, not_in_nil}
use Rattle.unroll.specs.Problem.{Unrolling, chunks_in, unrolled}
use Rattle.unroll.proofs.lemmas.Laws.{cycle-chunk}
use Rattle.unroll.proofs.lemmas.Tasks.{cell-in_time}
use Rattle.known_planes.specs.Planes.{PlaneSet, has, lits}
use Rattle.plain_close.specs.declared.changes.Change.{Change}
use Rattle.plain_close.specs.declared.log.Step.{Step}
use Rattle.plain_close.specs.Changes.{changes_in}
use Rattle.plain_close.specs.Levels.{AreListed, AreStepsIn, LogsListed}
use Rattle.plain_close.specs.Log.{AreNextSteps, LitLt}
use Rattle.plain_close.specs.Steps.{AreLeastSteps, Finds, HasStepFor, IsDueBy, IsForcedAt, IsNewStep}
use Rattle.plain_close.specs.Wavefront.{level_of}
use Rattle.plain_close.proofs.ListedLevels.{due-listed}
use Rattle.plain_close.proofs.Stepping.{forced-role, forces-along}

place-onward : (a b c : Place) → PlaceLe a b → PlaceLe b c → PlaceLe a c
place-onward a b c first second =
    elim first [
      | inl less ↦ elim second [ inl more ↦ inl (omega (arith, less, more)) | inr (same, any) ↦ inl (omega (arith, less, same)) ]
      | inr (one, le) ↦ elim second [ inl more ↦ inl (omega (arith, one, more)) | inr (same, next) ↦ inr (one ∙ same, omega (arith, le, next)) ]
    ]

pub pairs-append : {X : Type 0} (R : X → X → Type 0) (xs ys : List X) → AllPairs R xs → AllPairs R ys → ((x y : X) → Contains xs x → Contains ys y → R x y) → AllPairs R (xs ++ ys)
pairs-append R xs ys first second across i j d before within =
    elim (cases_lt j (length xs)) [
      | inl early ↦ subst (R (get_or (xs ++ ys) i d)) (sym (get_or_append_left xs ys d j early)) (subst (λ x. R x (get_or xs j d)) (sym (get_or_append_left xs ys d i (omega (arith, before, early)))) (first i j d before early))
      | inr late ↦
          let few : j - length xs < length ys = omega (arith, within, late, length-append xs ys) in
          subst (R (get_or (xs ++ ys) i d)) (sym (get_or-append_right xs ys (length xs) j d refl late)) (elim (cases_lt i (length xs)) [
            | inl early ↦ subst (λ x. R x (get_or ys (j - length xs) d)) (sym (get_or_append_left xs ys d i early)) (across (get_or xs i d) (get_or ys (j - length xs) d) (Contains-get_or xs i d early) (Contains-get_or ys (j - length xs) d few))
            | inr past ↦ subst (λ x. R x (get_or ys (j - length xs) d)) (sym (get_or-append_right xs ys (length xs) i d refl past)) (second (i - length xs) (j - length xs) d (omega (arith, before, past)) few)
          ])
    ]

module _ (u : Unrolling) (planes : PlaneSet) (lists : List (WithRoom Change)) (are : AreListed u planes lists) (n : ℕ) where
  -- the steps of a chunk
  chunk-steps : (found ascending least : List Step) → Finds u planes n (IsDueBy n (changes_in lists n)) [] found → ((step : Step) → Contains found step ↔ Contains ascending step) → AreLeastSteps ascending least
      → AreStepsIn u planes (λ chunk. chunk ≡ n) least
  chunk-steps found ascending least finds same are_least = record {
    all = λ l q at unknown f.
        let h = step-for l q at unknown f in
        let one = are_least.all h.step ((same h.step).0 h.listed) in
        (one.0, one.1, one.2 ∙ h.lit_is);
    inside = λ step h. (new step h).in_chunk;
    unknown = λ step h. (new step h).unknown;
    forced = λ step h. (new step h).forces;
    least = λ step h q f.
        let other = step-for step.lit q (new step h).in_chunk (new step h).unknown f in
        place-onward step.place other.step.place q (are_least.below step other.step h ((same other.step).0 other.listed) (sym other.lit_is)) other.least;
    ordered = are_least.ordered;
  }
    where
      step-for : (l : Lit) (q : Place) → l.cell.cycle / 64 ≡ n → has u planes l ≡ false → IsForcedAt u planes q l → HasStepFor found l q
      step-for l q at unknown f = finds.all l q (subst (λ k. IsDueBy k (changes_in lists k) q.target l) at (due-listed u planes lists are q l f unknown)) f

      new : (step : Step) → Contains least step → IsNewStep u planes n step
      new step h = elim (finds.only step ((same step).1 (are_least.only step h))) [ inl none ↦ absurd (not_in_nil step none) | inr is ↦ is ]

  -- those of one chunk more
  pub logs-chunk : (before mid after found ascending least : List Step) → LogsListed u planes n before mid → Finds u planes n (IsDueBy n (changes_in lists n)) [] found
      → ((step : Step) → Contains found step ↔ Contains ascending step) → AreLeastSteps ascending least → after ≡ mid ++ least → LogsListed u planes (n + 1) before after
  logs-chunk before mid after found ascending least (now, logged, first) finds same are_least more =
      let next = chunk-steps found ascending least finds same are_least in (
        now ++ least,
        more ∙ ap (λ xs. xs ++ least) logged ∙ append_assoc before now least,
        record {
          all = λ l q below unknown f. elim (cases_lt (l.cell.cycle / 64) n) [
            | inl early ↦ let one = first.all l q early unknown f in (one.0, Contains-append_left now least one.0 one.1, one.2)
            | inr late ↦ let one = next.all l q (omega (arith, below, late)) unknown f in (one.0, Contains-append_right now least one.0 one.1, one.2)
          ];
          inside = λ step h. elim (Contains-append_cases now least step h) [
            | inl was ↦ let early = first.inside step was in omega (arith, early)
            | inr new ↦ let here = next.inside step new in omega (arith, here)
          ];
          unknown = λ step h. elim (Contains-append_cases now least step h) [ inl was ↦ first.unknown step was | inr new ↦ next.unknown step new ];
          forced = λ step h. elim (Contains-append_cases now least step h) [ inl was ↦ first.forced step was | inr new ↦ next.forced step new ];
          least = λ step h. elim (Contains-append_cases now least step h) [ inl was ↦ first.least step was | inr new ↦ next.least step new ];
          ordered = pairs-append (λ (a b : Step). LitLt a.lit b.lit) now least first.ordered next.ordered
              (λ a b h k. inl (earlier a.lit.cell.cycle b.lit.cell.cycle (first.inside a h) (next.inside b k)));
        },
      )
    where
      earlier : (a b : ℕ) → a / 64 < n → b / 64 ≡ n → a < b
      earlier a b less same = omega (arith, less, same)

-- of no chunk yet
pub logs-none : (u : Unrolling) (planes : PlaneSet) (steps : List Step) → LogsListed u planes 0 steps steps
logs-none u planes steps = (
  [],
  sym (append-nil steps),
  record {
    all = λ l q below. absurd (omega (arith, below));
    inside = λ step h. absurd (not_in_nil step h);
    unknown = λ step h. absurd (not_in_nil step h);
    forced = λ step h. absurd (not_in_nil step h);
    least = λ step h. absurd (not_in_nil step h);
    ordered = λ i j d before within. absurd (omega (arith, within));
  },
)

-- of all chunks: the steps of the level that the planes have
pub next-steps : (u : Unrolling) (base : PlaneSet) (i : ℕ) (planes : PlaneSet) → ((l : Lit) → (has u planes l ≡ true) ↔ level_of u base i l) → (now : List Step) → AreStepsIn u planes (λ chunk. chunk < chunks_in u) now
    → AreNextSteps (unrolled u) (level_of u base i) now
next-steps u base i planes literals now are = record {
  exact = λ l. (
    λ (k, step, few, is, same).
        let h : Contains now step = (k, few, is) in (
          (step.place, subst (ForcesAt (unrolled u) (level_of u base i) step.place) same (to-level step.place step.lit (are.forced step h))),
          λ known. true≢false (sym ((literals l).1 known) ∙ sym (ap (has u planes) same) ∙ are.unknown step h),
        ),
    λ ((q, f), unknown).
        let g = from-level q l f in
        let early = cycle-chunk u l.cell.cycle (cell-in_time u q l.cell (forced-role u (lits u planes) q l g)) in
        elim (cases_Bool (has u planes l)) [
          | inl known ↦ absurd (unknown ((literals l).0 known))
          | inr none ↦ let one = are.all l q early none g in (one.1.0, one.0, one.1.1, one.1.2, one.2)
        ],
  );
  ordered = are.ordered;
  forced = All-from_Contains (λ step. ForcesAt (unrolled u) (level_of u base i) step.place step.lit) now (λ step h. to-level step.place step.lit (are.forced step h));
  least = All-from_Contains (λ step. (q : Place) → ForcesAt (unrolled u) (level_of u base i) q step.lit → PlaceLe step.place q) now (λ step h q f. are.least step h q (from-level q step.lit f));
}
  where
    to-level : (q : Place) (l : Lit) → IsForcedAt u planes q l → ForcesAt (unrolled u) (level_of u base i) q l
    to-level q l f = forces-along u (lits u planes) (level_of u base i) q l (λ c bit r h. (literals (lit c bit)).0 h) f

    from-level : (q : Place) (l : Lit) → ForcesAt (unrolled u) (level_of u base i) q l → IsForcedAt u planes q l
    from-level q l f = forces-along u (level_of u base i) (lits u planes) q l (λ c bit r h. (literals (lit c bit)).1 h) f
