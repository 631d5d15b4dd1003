-- The literals of a dump have a log: at each level the steps are found literal by literal, in their order.
use Rattle.std.proofs.Common.{◌≡◌, ◌≢◌, ◌⊎◌, ℕ, ◌+◌, ◌<◌, zero, suc, Bool, true, false, List, [], ◌∷◌, ◌++◌, Option, Some, None, arith, inl, inr, refl, sym, ap, subst, ◌∙◌}
use Rattle.std.specs.List.{AllPairs, Contains}
use Rattle.std.proofs.lemmas.Bool.{cases_lt}
use Rattle.std.proofs.lemmas.List.Elements.{Contains-append_cases, Contains-append_left, Contains-append_right}
use Rattle.sr_model.specs.declared.cells.Cell.{Cell}
use Rattle.sr_model.specs.declared.cells.Lit.{Lit}
use Rattle.sr_model.specs.declared.cells.Place.{Place}
use Rattle.sr_model.specs.Netlist.{Unrolled, cell_at}
use Rattle.sr_model.specs.Closure.{Closure, ForcesAt, IsLeastClash, LitSet, level, lit, passing}
use Rattle.sr_model.specs.Dump.{dump_has}
use Rattle.sr_model.specs.Order.{PlaceLe}
use Rattle.sr_model.proofs.lemmas.Decisions.{Decided, IsAdded, IsLeastPlace, decided_added, dump_level_clash, last_level, level_place, within_bounds}
use Rattle.sr_model.proofs.lemmas.Laws.{ForcesSomewhere-more, closed}
use Rattle.sr_model.proofs.lemmas.Members.{All-from_Contains, Contains-cases, Contains-here, not_in_nil}
use Rattle.plain_close.specs.declared.log.Step.{Step}
use Rattle.plain_close.specs.Log.{AreNextSteps, HasNoClash, IsLogFrom, LitLt, clashes, ends, goes_on}
use Rattle.plain_close.specs.LogLaws.{DumpHasLog}
use Rattle.plain_close.proofs.LoggedLevels.{pairs-append}

module _ (u : Unrolled) (base : Lit → Bool) (i : ℕ) where
  abbrev Here : LitSet
  Here = level u (passing base) i

  -- a step for a literal that the level adds, with the least place
  abbrev IsNext : Step → Type 0
  IsNext step = IsAdded u Here step.lit × IsLeastPlace u Here step.lit step.place

  -- the steps for the literals of which this holds
  record AreOf (P : Lit → Type 0) (steps : List Step) : Type 0 where
    each : (step : Step) → Contains steps step → P step.lit × IsNext step
    all : (l : Lit) → P l → IsAdded u Here l → (step : Step) × Contains steps step × (step.lit ≡ l)
    ordered : AllPairs (λ a b. LitLt a.lit b.lit) steps

  none_of : (P : Lit → Type 0) → ((l : Lit) → P l → IsAdded u Here l → ⊥) → AreOf P []
  none_of P none = record {
    each = λ step h. absurd (not_in_nil step h);
    all = λ l p added. absurd (none l p added);
    ordered = λ k j d less within. absurd (omega (arith, within));
  }

  both_of : (P Q R : Lit → Type 0) (xs ys : List Step) → ((a b : Lit) → P a → Q b → LitLt a b) → ((l : Lit) → P l → R l) → ((l : Lit) → Q l → R l) → ((l : Lit) → R l → P l ⊎ Q l) → AreOf P xs → AreOf Q ys → AreOf R (xs ++ ys)
  both_of P Q R xs ys before left right either first second = record {
    each = λ step h.
        elim (Contains-append_cases xs ys step h) [
          | inl here ↦ let is = first.each step here in (left step.lit is.0, is.1)
          | inr there ↦ let is = second.each step there in (right step.lit is.0, is.1)
        ];
    all = λ l r added.
        elim (either l r) [
          | inl p ↦ let found = first.all l p added in (found.0, Contains-append_left xs ys found.0 found.1, found.2)
          | inr q ↦ let found = second.all l q added in (found.0, Contains-append_right xs ys found.0 found.1, found.2)
        ];
    ordered = pairs-append (λ (a b : Step). LitLt a.lit b.lit) xs ys first.ordered second.ordered (λ x y hx hy. before x.lit y.lit (first.each x hx).0 (second.each y hy).0);
  }

  step_for : (l : Lit) → Decided (IsAdded u Here l) → List Step
  step_for l (inl added) = record { lit = l; place = (level_place u base i l added.0).0 } ∷ []
  step_for l (inr none) = []

  of_literal : (l : Lit) (d : Decided (IsAdded u Here l)) → AreOf (λ x. x ≡ l) (step_for l d)
  unfolding step_for
  of_literal l (inl added) =
      let step : Step = record { lit = l; place = (level_place u base i l added.0).0 } in record {
        each = λ s h. elim (Contains-cases step [] s h) [
          | inl same ↦ subst (λ (x : Step). (x.lit ≡ l) × IsNext x) same (refl, (added, (level_place u base i l added.0).1))
          | inr later ↦ absurd (not_in_nil s later)
        ];
        all = λ x same new. (step, Contains-here step [], sym same);
        ordered = λ k j d less within. let inside : j < 1 = within in absurd (omega (arith, less, inside));
      }
  of_literal l (inr none) = none_of (λ x. x ≡ l) (λ x same added. none (subst (IsAdded u Here) same added))

  literal : (l : Lit) → List Step
  literal l = step_for l (decided_added u base i l)

  -- both literals of a cell
  in_cell : Cell → List Step
  in_cell c = literal (lit c false) ++ literal (lit c true)

  of_cell : (c : Cell) → AreOf (λ l. l.cell ≡ c) (in_cell c)
  unfolding in_cell literal
  of_cell c =
      both_of (λ l. l ≡ lit c false) (λ l. l ≡ lit c true) (λ l. l.cell ≡ c) (literal (lit c false)) (literal (lit c true))
      (λ a b zero_bit one_bit. subst (λ x. LitLt x b) (sym zero_bit) (subst (LitLt (lit c false)) (sym one_bit) (inr (refl, inr (refl, refl, refl)))))
      (λ l same. ap (λ (x : Lit). x.cell) same) (λ l same. ap (λ (x : Lit). x.cell) same) (λ l same. by_bit l l.bit refl same)
      (of_literal (lit c false) (decided_added u base i (lit c false))) (of_literal (lit c true) (decided_added u base i (lit c true)))
    where
      by_bit : (l : Lit) (bit : Bool) → l.bit ≡ bit → l.cell ≡ c → (l ≡ lit c false) ⊎ (l ≡ lit c true)
      by_bit l false is same = inl (ap (λ b. lit l.cell b) is ∙ ap (λ d. lit d false) same)
      by_bit l true is same = inr (ap (λ b. lit l.cell b) is ∙ ap (λ d. lit d true) same)

  -- the cells of a cycle
  in_cycle : ℕ → ℕ → List Step
  in_cycle cycle zero = []
  in_cycle cycle (suc n) = in_cycle cycle n ++ in_cell (cell_at cycle (record { 0 = n }))

  of_cycle : (cycle n : ℕ) → AreOf (λ l. (l.cell.cycle ≡ cycle) × (l.cell.sig.0 < n)) (in_cycle cycle n)
  unfolding in_cycle
  of_cycle cycle zero = none_of (λ l. (l.cell.cycle ≡ cycle) × (l.cell.sig.0 < 0)) (λ l p added. absurd (omega (arith, p.1)))
  of_cycle cycle (suc n) =
      both_of (λ l. (l.cell.cycle ≡ cycle) × (l.cell.sig.0 < n)) (λ l. l.cell ≡ cell_at cycle (record { 0 = n })) (λ l. (l.cell.cycle ≡ cycle) × (l.cell.sig.0 < suc n))
      (in_cycle cycle n) (in_cell (cell_at cycle (record { 0 = n })))
      (λ a b p same. inr (p.0 ∙ sym (ap (λ (c : Cell). c.cycle) same), inl (omega (arith, p.1, ap (λ (c : Cell). c.sig.0) same))))
      (λ l p. (p.0, omega (arith, p.1))) (λ l same. (ap (λ (c : Cell). c.cycle) same, omega (arith, ap (λ (c : Cell). c.sig.0) same)))
      (λ l p. elim (cases_lt l.cell.sig.0 n) [
        | inl less ↦ inl (p.0, less)
        | inr more ↦ let last : l.cell.sig.0 ≡ n = omega (arith, more, p.1) in inr (ap (λ m. cell_at m l.cell.sig) p.0 ∙ ap (λ m. cell_at cycle (record { 0 = m })) last)
      ])
      (of_cycle cycle n) (of_cell (cell_at cycle (record { 0 = n })))

  in_cycles : ℕ → ℕ → List Step
  in_cycles signals zero = []
  in_cycles signals (suc m) = in_cycles signals m ++ in_cycle m signals

  of_cycles : (signals m : ℕ) → AreOf (λ l. (l.cell.cycle < m) × (l.cell.sig.0 < signals)) (in_cycles signals m)
  unfolding in_cycles
  of_cycles signals zero = none_of (λ l. (l.cell.cycle < 0) × (l.cell.sig.0 < signals)) (λ l p added. absurd (omega (arith, p.0)))
  of_cycles signals (suc m) =
      both_of (λ l. (l.cell.cycle < m) × (l.cell.sig.0 < signals)) (λ l. (l.cell.cycle ≡ m) × (l.cell.sig.0 < signals)) (λ l. (l.cell.cycle < suc m) × (l.cell.sig.0 < signals))
      (in_cycles signals m) (in_cycle m signals)
      (λ a b p q. inl (omega (arith, p.0, q.0))) (λ l p. (omega (arith, p.0), p.1)) (λ l q. (omega (arith, q.0), q.1))
      (λ l r. elim (cases_lt l.cell.cycle m) [ inl less ↦ inl (less, r.1) | inr more ↦ inr (omega (arith, more, r.0), r.1) ])
      (of_cycles signals m) (of_cycle m signals)

  -- so a level has next steps
  pub next_steps : (steps : List Step) × AreNextSteps u (level u (passing base) i) steps
  next_steps =
      let (cycles, signals, within) = within_bounds u in
      let are = of_cycles signals cycles in (
        in_cycles signals cycles,
        record {
          exact = λ l. (
            λ (k, step, inside, at, same). subst (IsAdded u Here) same (are.each step (k, inside, at)).1.0,
            λ added. let (step, (k, inside, at), same) = are.all l (within Here l added.0) added in (k, step, inside, at, same),
          );
          ordered = are.ordered;
          forced = All-from_Contains (λ step. ForcesAt u Here step.place step.lit) (in_cycles signals cycles) (λ step h. (are.each step h).1.1.0);
          least = All-from_Contains (λ step. (q : Place) → ForcesAt u Here q step.lit → PlaceLe step.place q) (in_cycles signals cycles) (λ step h. (are.each step h).1.1.1);
        },
      )

-- ---- level by level

abbrev SomeLog : Unrolled → LitSet → ℕ → Type 0
SomeLog u base i = (steps : List Step) × (clash : Option Cell) × IsLogFrom u base i steps clash

module _ (u : Unrolled) (base : Lit → Bool) (clash_or_none : (i : ℕ) → HasNoClash (level u (passing base) i) ⊎ ((c : Cell) × IsLeastClash (level u (passing base) i) c)) where
  -- the steps of a level, and those behind it
  with_steps : (i : ℕ) → HasNoClash (level u (passing base) i) → (steps : List Step) → AreNextSteps u (level u (passing base) i) steps → (steps ≢ [] → SomeLog u (passing base) (suc i)) → SomeLog u (passing base) i
  with_steps i none [] next later = ([], None, ends i none next)
  with_steps i none (step ∷ steps) next later =
      let rest = later (λ e. absurd cc) in ((step ∷ steps) ++ rest.0, rest.1, goes_on i (step ∷ steps) rest.0 rest.1 none next (λ e. absurd cc) rest.2)

  from_level : (i : ℕ) → ((steps : List Step) → AreNextSteps u (level u (passing base) i) steps → steps ≢ [] → SomeLog u (passing base) (suc i)) → SomeLog u (passing base) i
  from_level i later =
      elim (clash_or_none i) [
        | inr clash ↦ ([], Some clash.0, clashes i clash.0 clash.1)
        | inl none ↦ let next = next_steps u base i in with_steps i none next.0 next.1 (later next.0 next.1)
      ]

  -- the level that is the closure adds nothing
  none_at_last : (steps : List Step) → AreNextSteps u (level u (passing base) (last_level u base).0) steps → steps ≡ []
  none_at_last [] next = refl
  none_at_last (step ∷ steps) next =
      let same = (last_level u base).1 in
      let added = (next.exact step.lit).0 (0, step, omega arith, refl, refl) in
      absurd (added.1 (same.1 step.lit (closed u (passing base) step.lit (ForcesSomewhere-more u (level u (passing base) (last_level u base).0) (Closure u (passing base)) same.0 step.lit added.0))))

  log_from : (n i : ℕ) → i + n ≡ (last_level u base).0 → SomeLog u (passing base) i
  log_from zero i last =
      from_level i (λ steps next some. absurd (some (none_at_last steps (subst (λ k. AreNextSteps u (level u (passing base) k) steps) (let same : i ≡ (last_level u base).0 = omega (arith, last) in same) next))))
  log_from (suc n) i before = from_level i (λ steps next some. log_from n (suc i) (omega (arith, before)))

pub log_exists : DumpHasLog
log_exists u rows = log_from u (dump_has rows) (dump_level_clash u rows) (last_level u (dump_has rows)).0 0 (omega arith)
