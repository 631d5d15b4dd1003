-- Steps that are found, one after another.
use Rattle.std.proofs.Common.{ℕ, ◌≡◌, ◌<◌, ◌≤◌, ◌+◌, ◌*◌, ◌/◌, ◌%◌, ◌^◌, ◌⊎◌, ◌++◌, ◌∷◌, [], Bool, true, false, List, bit_and, eqb, arith, inl, inr, refl, sym, ap, subst, ◌∙◌}
use Rattle.std.specs.Int.{bit_not, trailing_zeros, w64}
use Rattle.std.proofs.lemmas.Bool.{cases_Bool, cases_eq, cases_lt, true≢false}
use Rattle.std.proofs.lemmas.List.Elements.{Contains-append_left, Contains-push, Contains-push_cases}
use Rattle.std.proofs.lemmas.Nat.{and_le_l}
use Rattle.std.proofs.lemmas.Nat.Bits.{bit_at-trailing_zeros, bit_at_clear_other, bit_at_clear_same}
use Rattle.sr_model.specs.declared.cells.Lit.{Lit}
use Rattle.sr_model.specs.declared.cells.Place.{Place}
use Rattle.sr_model.specs.declared.cells.Sig.{Sig}
use Rattle.sr_model.specs.Closure.{lit}
use Rattle.sr_model.specs.Netlist.{cell_at}
use Rattle.sr_model.specs.Order.{PlaceLe}
use Rattle.unroll.specs.Bits.{is_set, word_for}
use Rattle.unroll.specs.Problem.{Unrolling, bit_of}
use Rattle.unroll.proofs.lemmas.Laws.{bit-small}
use Rattle.unroll.proofs.lemmas.Tasks.{cell-in_time, lane-bit, lane-chunk}
use Rattle.unroll.proofs.lemmas.Words.{is_set_zero}
use Rattle.known_planes.specs.Planes.{PlaneSet, lits}
use Rattle.plain_close.specs.declared.changes.Change.{Change}
use Rattle.plain_close.specs.declared.log.Step.{Step}
use Rattle.plain_close.specs.Steps.{Finds, IsDue, IsDueBy, IsDueWith, IsForcedAt, IsLeastOf, IsLitOf, IsNewStep}
use Rattle.plain_close.proofs.Stepping.{forced-role}

module _ (u : Unrolling) (planes : PlaneSet) (chunk : ℕ) where
  -- none of them
  pub finds-none : (IsDueFor : Sig → Lit → Type 0) (steps : List Step) → ((cause : Sig) (l : Lit) → IsDueFor cause l → ⊥) → Finds u planes chunk IsDueFor steps steps
  finds-none IsDueFor steps none = record { kept = λ step h. h; only = λ step h. inl h; all = λ l q due f. absurd (none q.target l due) }

  -- some, and then others
  pub finds-both : (Some Others All : Sig → Lit → Type 0) (a b c : List Step) → ((cause : Sig) (l : Lit) → All cause l → Some cause l ⊎ Others cause l)
      → Finds u planes chunk Some a b → Finds u planes chunk Others b c → Finds u planes chunk All a c
  finds-both Some Others All a b c either first second = record {
    kept = λ step h. second.kept step (first.kept step h);
    only = λ step h. elim (second.only step h) [ inl before ↦ first.only step before | inr new ↦ inr new ];
    all = λ l q due f. elim (either q.target l due) [
      | inl some ↦ let h = first.all l q some f in record { step = h.step; listed = second.kept h.step h.listed; lit_is = h.lit_is; least = h.least }
      | inr others ↦ second.all l q others f
    ];
  }

  -- one
  pub finds-step : (cause : Sig) (step : Step) → IsNewStep u planes chunk step → IsLeastOf u planes cause step.lit step.place → (old new : List Step) → new ≡ old ++ step ∷ []
      → Finds u planes chunk (λ target l. (cause ≡ target) × (step.lit ≡ l)) old new
  finds-step cause step is least old new pushed =
      subst (Finds u planes chunk (λ target l. (cause ≡ target) × (step.lit ≡ l)) old) (sym pushed) (record {
        kept = λ other h. Contains-append_left old (step ∷ []) other h;
        only = λ other h. elim (Contains-push_cases old step other h) [ inl before ↦ inl before | inr e ↦ inr (subst (IsNewStep u planes chunk) e is) ];
        all = λ l q due f. record {
          step = step;
          listed = Contains-push old step;
          lit_is = due.1;
          least = in_order step.place q (least.least q (sym due.0) (subst (IsForcedAt u planes q) (sym due.1) f)) (ap (λ (s : Sig). s.0) (least.target_is ∙ due.0));
        };
      })
    where
      in_order : (p q : Place) → p.cycle ≤ q.cycle → p.target.0 ≡ q.target.0 → PlaceLe p q
      in_order p q le same = elim (cases_lt p.cycle q.cycle) [ inl less ↦ inl less | inr more ↦ inr (omega (arith, le, more), omega (arith, same)) ]

-- the lowest bit of a word, which is cleared
module _ (left : ℕ) (some : 0 < left) (fits : left < 2 ^ 64) where
  abbrev pub lowest : ℕ
  lowest = trailing_zeros w64 left

  abbrev pub rest : ℕ
  rest = bit_and left (bit_not w64 (1 * 2 ^ lowest % 2 ^ 64))

  pub lowest-small : lowest < 64
  lowest-small = (bit_at-trailing_zeros w64 left some fits).0

  pub lowest-set : is_set left lowest ≡ true
  unfolding is_set
  lowest-set = ap (λ n. eqb n 1) (bit_at-trailing_zeros w64 left some fits).1

  rest-without : is_set rest lowest ≡ false
  unfolding is_set
  rest-without = ap (λ n. eqb n 1) (bit_at_clear_same w64 left lowest lowest-small)

  rest-others : (i : ℕ) → i < 64 → (i ≡ lowest → ⊥) → is_set rest i ≡ is_set left i
  unfolding is_set
  rest-others i few other = ap (λ n. eqb n 1) (bit_at_clear_other w64 left lowest lowest-small i few other)

  -- its other bits are left
  pub rest-set : (i : ℕ) → i < 64 → is_set rest i ≡ true → is_set left i ≡ true
  rest-set i few set =
      elim (cases_eq i lowest) [
        | inl same ↦ absurd (true≢false (sym set ∙ ap (is_set rest) same ∙ rest-without))
        | inr other ↦ sym (rest-others i few other) ∙ set
      ]

  pub lowest-or_rest : (i : ℕ) → i < 64 → is_set left i ≡ true → is_set rest i ≡ false → i ≡ lowest
  lowest-or_rest i few set gone =
      elim (cases_eq i lowest) [ inl same ↦ same | inr other ↦ absurd (true≢false (sym set ∙ sym (rest-others i few other) ∙ gone)) ]

  pub rest-less : rest < left
  rest-less =
      elim (cases_lt rest left) [
        | inl less ↦ less
        | inr more ↦
            let same : rest ≡ left = omega (arith, more, and_le_l left (bit_not w64 (1 * 2 ^ lowest % 2 ^ 64))) in
            absurd (true≢false (sym lowest-set ∙ sym (ap (λ n. is_set n lowest) same) ∙ rest-without))
      ]

-- the literal of a bit of a chunk
pub lit-at : (chunk i : ℕ) (l : Lit) → l.cell.cycle / 64 ≡ chunk → bit_of l.cell ≡ i → lit (cell_at (64 * chunk + i) l.cell.sig) l.bit ≡ l
lit-at chunk i l over under = ap (λ n. lit (cell_at n l.cell.sig) l.bit) (whole l.cell.cycle chunk i over under)
  where
    whole : (m n k : ℕ) → m / 64 ≡ n → m % 64 ≡ k → 64 * n + k ≡ m
    whole m n k over under = omega (arith, over, under)

-- the literals with one bit of a change but those whose bits are left, and that these are of the change
abbrev pub IsGone : ℕ → Change → Bool → ℕ → Sig → Lit → Type 0
IsGone chunk change bit left cause l = IsDueWith chunk change bit cause l × (is_set left (bit_of l.cell) ≡ false)

abbrev pub IsPart : Change → Bool → ℕ → Type 0
IsPart change bit left = (i : ℕ) → i < 64 → is_set left i ≡ true → is_set (word_for bit change.words) i ≡ true

abbrev pub lit_for : ℕ → Change → Bool → ℕ → Lit
lit_for chunk change bit i = lit (cell_at (64 * chunk + i) change.sig) bit

-- their steps
module _ (u : Unrolling) (planes : PlaneSet) (chunk : ℕ) (change : Change) (bit : Bool) (due : IsDue u planes chunk change) where
  pub is-lit : (i : ℕ) → i < 64 → is_set (word_for bit change.words) i ≡ true → IsLitOf chunk change (lit_for chunk change bit i)
  is-lit i few set = record { signal = refl; in_chunk = lane-chunk chunk i few; set = ap (is_set (word_for bit change.words)) (lane-bit chunk i few) ∙ set }

  pub lit-early : (l : Lit) → IsLitOf chunk change l → l.cell.cycle < u.cycles
  lit-early l of = let f = due.forced l of in cell-in_time u f.0 l.cell (forced-role u (lits u planes) f.0 l f.2)

  pub gone-none : (steps : List Step) (word : ℕ) → word ≡ word_for bit change.words → Finds u planes chunk (IsGone chunk change bit word) steps steps
  gone-none steps word is =
      finds-none u planes chunk (IsGone chunk change bit word) steps
      (λ cause l gone. true≢false (sym gone.0.2.set ∙ ap (λ b. is_set (word_for b change.words) (bit_of l.cell)) gone.0.1 ∙ sym (ap (λ w. is_set w (bit_of l.cell)) is) ∙ gone.1))

  pub gone-all : (old new : List Step) (left : ℕ) → left ≡ 0 → Finds u planes chunk (IsGone chunk change bit left) old new → Finds u planes chunk (IsDueWith chunk change bit) old new
  gone-all old new left none finds =
      finds-both u planes chunk (IsGone chunk change bit left) (IsGone chunk change bit left) (IsDueWith chunk change bit) old new new (λ cause l due. inl (due, ap (λ w. is_set w (bit_of l.cell)) none ∙ is_set_zero (bit_of l.cell))) finds
      (record { kept = λ step h. h; only = λ step h. inl h; all = λ l q gone f. finds.all l q gone f })

  pub gone-more : (left : ℕ) (some : 0 < left) (fits : left < 2 ^ 64) → IsPart change bit left → (place : Place) → IsLeastOf u planes change.cause (lit_for chunk change bit (lowest left some fits)) place
      → (old mid new : List Step) → new ≡ mid ++ record { lit = lit_for chunk change bit (lowest left some fits); place = place } ∷ [] → Finds u planes chunk (IsGone chunk change bit left) old mid → Finds u planes chunk (IsGone chunk change bit (rest left some fits)) old new
  gone-more left some fits part place least old mid new pushed before =
      let i : ℕ = lowest left some fits in
      let of : IsLitOf chunk change (lit_for chunk change bit i) = is-lit i (lowest-small left some fits) (part i (lowest-small left some fits) (lowest-set left some fits)) in
      finds-both u planes chunk (IsGone chunk change bit left) (λ target l. (change.cause ≡ target) × (lit_for chunk change bit i ≡ l)) (IsGone chunk change bit (rest left some fits)) old mid new either before
      (finds-step u planes chunk change.cause (record { lit = lit_for chunk change bit i; place = place }) (record { in_chunk = of.in_chunk; unknown = due.unknown (lit_for chunk change bit i) of; forces = least.forces }) least mid new pushed)
    where
      either : (cause : Sig) (l : Lit) → IsGone chunk change bit (rest left some fits) cause l → IsGone chunk change bit left cause l ⊎ ((change.cause ≡ cause) × (lit_for chunk change bit (lowest left some fits) ≡ l))
      either cause l gone =
          elim (cases_Bool (is_set left (bit_of l.cell))) [
            | inr clear ↦ inl (gone.0, clear)
            | inl set ↦ inr (
              gone.0.0,
              ap (λ s. lit (cell_at (64 * chunk + lowest left some fits) s) bit) gone.0.2.signal ∙ ap (lit (cell_at (64 * chunk + lowest left some fits) l.cell.sig)) (sym gone.0.1)
                  ∙ lit-at chunk (lowest left some fits) l gone.0.2.in_chunk (lowest-or_rest left some fits (bit_of l.cell) (bit-small l.cell) set gone.1),
            )
          ]

-- one change more
pub due-more : (chunk : ℕ) (changes : List Change) (change : Change) (cause : Sig) (l : Lit) → IsDueBy chunk (changes ++ change ∷ []) cause l
    → (IsDueBy chunk changes cause l ⊎ IsDueWith chunk change false cause l) ⊎ IsDueWith chunk change true cause l
due-more chunk changes change cause l (one, listed, by, of) =
    elim (Contains-push_cases changes change one listed) [
      | inl before ↦ inl (inl (one, before, by, of))
      | inr e ↦
          let here : change.cause ≡ cause = ap (λ (c : Change). c.cause) e ∙ by in
          let of_it : IsLitOf chunk change l = subst (λ c. IsLitOf chunk c l) (sym e) of in
          elim (cases_Bool l.bit) [ inl is ↦ inr (here, is, of_it) | inr is ↦ inl (inr (here, is, of_it)) ]
    ]
