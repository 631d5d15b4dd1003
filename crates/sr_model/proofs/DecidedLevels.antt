-- Each level is decided, and one of them is closed: a level that is not adds one of finitely many literals.
use Rattle.std.proofs.Common.{◌≡◌, ◌⊎◌, ℕ, zero, suc, ◌+◌, ◌<◌, ◌≤◌, Bool, true, false, cond, List, [], ◌∷◌, ◌++◌, length, Option, Some, None, arith, inl, inr, sym, subst, refl}
use Rattle.std.specs.List.{Contains, count_by}
use Rattle.std.proofs.lemmas.Bool.{true≢false, cases_lt, false_from_ne_true}
use Rattle.std.proofs.lemmas.List.Sums.{sum_by-cons}
use Rattle.std.proofs.lemmas.List.Elements.{Contains-append_left, Contains-append_right}
use Rattle.sr_model.specs.declared.cells.Cell.{Cell}
use Rattle.sr_model.specs.declared.cells.Lit.{Lit}
use Rattle.sr_model.specs.Netlist.{Unrolled, Instance, instance_at, cells_of}
use Rattle.sr_model.specs.Closure.{LitSet, Closure, ForcesSomewhere, IsWithin, SameLits, level, passing, lit}
use Rattle.sr_model.proofs.lemmas.Members.{not_in_nil, Contains-here, Contains-there, Contains-cases}
use Rattle.sr_model.proofs.ClosureLaws.{ForcesSomewhere-more, stable_level}
use Rattle.sr_model.proofs.Decided.{Decided, decided_both, decided_either, decided_not, decided_as, decided_bit, decided_some, test_of, test_of-true, test_of-holds}
use Rattle.sr_model.proofs.DecidedForcing.{place, place_within, decided_somewhere}

-- the lists of the numbers below n, joined
pub joined_below : {X : Type 0} → (ℕ → List X) → ℕ → List X
joined_below f zero = []
joined_below f (suc n) = f n ++ joined_below f n

pub joined_below-has : {X : Type 0} (f : ℕ → List X) (n k : ℕ) → k < n → (x : X) → Contains (f k) x → Contains (joined_below f n) x
unfolding joined_below
joined_below-has f zero k below x h = let wrong : ⊥ = omega arith in absurd wrong
joined_below-has f (suc n) k below x h =
    elim (cases_lt k n) [
      | inl earlier ↦ Contains-append_right (f n) (joined_below f n) x (joined_below-has f n k earlier x h)
      | inr last ↦
          let e : k ≡ n = omega arith in
          Contains-append_left (f n) (joined_below f n) x (subst (λ j. Contains (f j) x) e h)
    ]

cells_in : Option Instance → List Cell
cells_in None = []
cells_in (Some i) = cells_of i

-- the cells of all instances
pub instance_cells : Unrolled → List Cell
instance_cells u = joined_below (λ cycle. joined_below (λ target. cells_in (instance_at u (place cycle target))) (length u.drivers)) u.cycles

pub forced-cell : (u : Unrolled) (known : LitSet) (l : Lit) → ForcesSomewhere u known l → Contains (instance_cells u) l.cell
unfolding cells_in instance_cells
forced-cell u known l (p, f) =
    let within : (p.cycle < u.cycles) × (p.target.0 < length u.drivers) = place_within u p f.instance f.stands in
    joined_below-has (λ cycle. joined_below (λ target. cells_in (instance_at u (place cycle target))) (length u.drivers)) u.cycles p.cycle within.0 l.cell
    (joined_below-has (λ target. cells_in (instance_at u (place p.cycle target))) (length u.drivers) p.target.0 within.1 l.cell
    (subst (λ o. Contains (cells_in o) l.cell) (sym f.stands) f.forces.on_cells))

-- both literals of each cell
lits_of : List Cell → List Lit
lits_of [] = []
lits_of (c ∷ cells) = lit c false ∷ lit c true ∷ lits_of cells

both_here : (c : Cell) (rest : List Lit) (bit : Bool) → Contains (lit c false ∷ lit c true ∷ rest) (lit c bit)
both_here c rest false = Contains-here (lit c false) (lit c true ∷ rest)
both_here c rest true = Contains-there (lit c false) (lit c true ∷ rest) (lit c true) (Contains-here (lit c true) rest)

lits_of-has : (cells : List Cell) (l : Lit) → Contains cells l.cell → Contains (lits_of cells) l
unfolding lits_of
lits_of-has [] l h = absurd (not_in_nil l.cell h)
lits_of-has (c ∷ cells) l h =
    elim (Contains-cases c cells l.cell h) [
      | inl e ↦ subst (λ d. Contains (lit c false ∷ lit c true ∷ lits_of cells) (lit d l.bit)) e (both_here c (lits_of cells) l.bit)
      | inr later ↦
          let rest : Contains (lits_of cells) l = lits_of-has cells l later in
          Contains-there (lit c false) (lit c true ∷ lits_of cells) l (Contains-there (lit c true) (lits_of cells) l rest)
    ]

weight-le : (a b : Bool) → (a ≡ true → b ≡ true) → cond a 1 0 ≤ cond b 1 0
weight-le true true h = omega arith
weight-le true false h = absurd (true≢false (sym (h refl)))
weight-le false b h = omega arith

weight-less : (a b : Bool) → a ≡ false → b ≡ true → cond a 1 0 < cond b 1 0
weight-less true b h k = absurd (true≢false h)
weight-less false true h k = omega arith
weight-less false false h k = absurd (true≢false (sym k))

count-cons : (test : Lit → Bool) (x : Lit) (xs : List Lit) → count_by test (x ∷ xs) ≡ cond (test x) 1 0 + count_by test xs
count-cons test x xs = sum_by-cons (λ y. cond (test y) 1 0) x xs

module _ (few many : Lit → Bool) (within : (x : Lit) → few x ≡ true → many x ≡ true) where
  count-le : (xs : List Lit) → count_by few xs ≤ count_by many xs
  count-le [] = omega arith
  count-le (x ∷ xs) = omega (arith, count-cons few x xs, count-cons many x xs, weight-le (few x) (many x) (within x), count-le xs)

  -- a member that only the one test passes
  count-less : (xs : List Lit) (x : Lit) → Contains xs x → few x ≡ false → many x ≡ true → count_by few xs < count_by many xs
  count-less [] x h fails passes = absurd (not_in_nil x h)
  count-less (y ∷ xs) x h fails passes =
      elim (Contains-cases y xs x h) [
        | inl e ↦
            let here : cond (few y) 1 0 < cond (many y) 1 0 = weight-less (few y) (many y) (subst (λ z. few z ≡ false) (sym e) fails) (subst (λ z. many z ≡ true) (sym e) passes) in
            omega (arith, count-cons few y xs, count-cons many y xs, here, count-le xs)
        | inr later ↦ omega (arith, count-cons few y xs, count-cons many y xs, weight-le (few y) (many y) (within y), count-less xs x later fails passes)
      ]

module _ (u : Unrolled) (base : Lit → Bool) where
  pub decided_level : (i : ℕ) (l : Lit) → Decided (level u (passing base) i l)
  decided_level zero l = decided_bit (base l) true
  decided_level (suc i) l =
      let before : (x : Lit) → Decided (level u (passing base) i x) = λ x. decided_level i x in
      let known : Lit → Bool = λ x. test_of (level u (passing base) i x) (before x) in
      decided_either (level u (passing base) i l) (ForcesSomewhere u (level u (passing base) i) l) (before l)
      (decided_as (ForcesSomewhere u (passing known) l) (ForcesSomewhere u (level u (passing base) i) l)
      (ForcesSomewhere-more u (passing known) (level u (passing base) i) (λ x h. test_of-holds (level u (passing base) i x) (before x) h) l)
      (ForcesSomewhere-more u (level u (passing base) i) (passing known) (λ x h. test_of-true (level u (passing base) i x) (before x) h) l)
      (decided_somewhere u known l))

  -- whether level i lacks the literal
  lacks : ℕ → Lit → Bool
  lacks i l = test_of (level u (passing base) i l → ⊥) (decided_not (level u (passing base) i l) (decided_level i l))

  lacks-fewer : (i : ℕ) (l : Lit) → lacks (suc i) l ≡ true → lacks i l ≡ true
  unfolding lacks
  lacks-fewer i l h =
      test_of-true (level u (passing base) i l → ⊥) (decided_not (level u (passing base) i l) (decided_level i l))
      (λ at. test_of-holds (level u (passing base) (suc i) l → ⊥) (decided_not (level u (passing base) (suc i) l) (decided_level (suc i) l)) h (inl at))

  lacks-not : (i : ℕ) (l : Lit) → level u (passing base) i l → lacks i l ≡ false
  unfolding lacks
  lacks-not i l at =
      false_from_ne_true (lacks i l) (λ h. test_of-holds (level u (passing base) i l → ⊥) (decided_not (level u (passing base) i l) (decided_level i l)) h at)

  -- the next level adds the literal
  abbrev IsNew : ℕ → Lit → Type 0
  IsNew i l = level u (passing base) (suc i) l × (level u (passing base) i l → ⊥)

  lacks-new : (i : ℕ) (l : Lit) → IsNew i l → lacks i l ≡ true
  unfolding lacks
  lacks-new i l new = test_of-true (level u (passing base) i l → ⊥) (decided_not (level u (passing base) i l) (decided_level i l)) new.1

  abbrev IsStable : ℕ → Type 0
  IsStable i = IsWithin (level u (passing base) (suc i)) (level u (passing base) i)

  all_lits : List Lit
  all_lits = lits_of (instance_cells u)

  stable-or_new : (i : ℕ) → IsStable i ⊎ ((l : Lit) × Contains all_lits l × IsNew i l)
  unfolding all_lits
  stable-or_new i =
      elim (decided_some Lit (IsNew i)
      (λ l. decided_both (level u (passing base) (suc i) l) (level u (passing base) i l → ⊥) (decided_level (suc i) l)
      (decided_not (level u (passing base) i l) (decided_level i l))) (lits_of (instance_cells u))) [
        | inl new ↦ inr new
        | inr none ↦ inl (λ l at. elim at [
          | inl before ↦ before
          | inr forced ↦ elim (decided_level i l) [
            | inl before ↦ before
            | inr new ↦ absurd (none (l, lits_of-has (instance_cells u) l (forced-cell u (level u (passing base) i) l forced), (inr forced, new)))
          ]
        ])
      ]

  stable_from : (n i : ℕ) → count_by (lacks i) all_lits ≤ n → (j : ℕ) × IsStable j
  stable_from zero i few =
      elim (stable-or_new i) [
        | inl stable ↦ (i, stable)
        | inr new ↦
            let less : count_by (lacks (suc i)) all_lits < count_by (lacks i) all_lits =
            count-less (lacks (suc i)) (lacks i) (lacks-fewer i) all_lits new.0 new.1 (lacks-not (suc i) new.0 new.2.0) (lacks-new i new.0 new.2) in
            let wrong : ⊥ = omega arith in absurd wrong
      ]
  stable_from (suc n) i few =
      elim (stable-or_new i) [
        | inl stable ↦ (i, stable)
        | inr new ↦
            let less : count_by (lacks (suc i)) all_lits < count_by (lacks i) all_lits =
            count-less (lacks (suc i)) (lacks i) (lacks-fewer i) all_lits new.0 new.1 (lacks-not (suc i) new.0 new.2.0) (lacks-new i new.0 new.2) in
            stable_from n (suc i) (omega arith)
      ]

  -- a level that is the closure
  pub last_level : (i : ℕ) × SameLits (level u (passing base) i) (Closure u (passing base))
  last_level =
      let last : (j : ℕ) × IsStable j = stable_from (count_by (lacks 0) all_lits) 0 (omega arith) in
      (last.0, stable_level u (passing base) last.0 last.1)

  pub closure_test : (known : Lit → Bool) × SameLits (passing known) (Closure u (passing base))
  closure_test =
      let i : ℕ = last_level.0 in
      let same : SameLits (level u (passing base) i) (Closure u (passing base)) = last_level.1 in (
        λ l. test_of (level u (passing base) i l) (decided_level i l),
        (
          λ l h. same.0 l (test_of-holds (level u (passing base) i l) (decided_level i l) h),
          λ l h. test_of-true (level u (passing base) i l) (decided_level i l) (same.1 l h),
        ),
      )
