-- What the known literals settle at a parity gate, by counts over all cells that stand an odd number of times.
use Rattle.std.proofs.Common.{◌≡◌, ◌≢◌, ◌⊎◌, ◌↔◌, ℕ, suc, ◌+◌, ◌<◌, ◌≤◌, Bool, true, false, not, cond, List, [], ◌∷◌, arith, inl, inr, sym, subst, refl, ap, ◌∙◌}
use Rattle.std.specs.List.{Contains, AllPairs, count_by, filter, list_all, list_any}
use Rattle.std.proofs.lemmas.Bool.{cases_Bool, and_parts, and_from, or_cases, or_left, or_right, true≢false, false≢true, cond-true, cond-false}
use Rattle.std.proofs.lemmas.List.Sums.{sum_by-cons}
use Rattle.sr_model.specs.declared.cells.Cell.{Cell}
use Rattle.sr_model.specs.declared.cells.Lit.{Lit}
use Rattle.sr_model.specs.Netlist.{cell_eq, Instance, Valuation}
use Rattle.sr_model.specs.XorLike.{plus, parity}
use Rattle.sr_model.proofs.lemmas.Members.{not_in_nil, Contains-here, Contains-there}
use Rattle.sr_model.proofs.Rows.{cell_cases, cell_eq-itself}
use Rattle.sr_model.proofs.Parity.{plus_swap}
use Rattle.sr_model.proofs.OddCells.{Contains-later, AreOdd, others_of}
use Rattle.sr_model.specs.RuleLaws.{XorForces}
use Rattle.sr_model.proofs.XorChoice.{some_known, both_known, known_bit, OthersForce, xor_choice}

count_one : (test : Cell → Bool) (x : Cell) (xs : List Cell) → test x ≡ true → count_by test (x ∷ xs) ≡ 1 + count_by test xs
count_one test x xs e = sum_by-cons (λ y. cond (test y) 1 0) x xs ∙ ap (λ b. cond b 1 0 + count_by test xs) e

count_other : (test : Cell → Bool) (x : Cell) (xs : List Cell) → test x ≡ false → count_by test (x ∷ xs) ≡ count_by test xs
count_other test x xs e =
    let none : cond {A = ℕ} (test x) 1 0 ≡ 0 = ap (λ b. cond {A = ℕ} b 1 0) e in
    let more : count_by test (x ∷ xs) ≡ cond (test x) 1 0 + count_by test xs = sum_by-cons (λ y. cond (test y) 1 0) x xs in
    omega arith

-- all pass the test: none is counted that fails it
pub count-all : (test : Cell → Bool) (xs : List Cell) → list_all test xs ≡ true → count_by (λ x. not (test x)) xs ≡ 0
count-all test [] all = refl
count-all test (x ∷ xs) all =
    let parts : (test x ≡ true) × (list_all test xs ≡ true) = and_parts (test x) (list_all test xs) all in
    count_other (λ x. not (test x)) x xs (ap not parts.0) ∙ count-all test xs parts.1

pub all_from_count : (test : Cell → Bool) (xs : List Cell) → count_by (λ x. not (test x)) xs ≡ 0 → list_all test xs ≡ true
all_from_count test [] none = refl
all_from_count test (x ∷ xs) none =
    elim (cases_Bool (test x)) [
      | inl holds ↦ and_from (test x) (list_all test xs) holds (all_from_count test xs (sym (count_other (λ x. not (test x)) x xs (ap not holds)) ∙ none))
      | inr fails ↦
          let more : count_by (λ x. not (test x)) (x ∷ xs) ≡ 1 + count_by (λ x. not (test x)) xs = count_one (λ x. not (test x)) x xs (ap not fails) in
          let wrong : ⊥ = omega arith in
          absurd wrong
    ]

-- some pass the test: one is counted
pub count-any : (test : Cell → Bool) (xs : List Cell) → list_any test xs ≡ true → 1 ≤ count_by test xs
count-any test [] some = absurd (false≢true some)
count-any test (x ∷ xs) some =
    elim (cases_Bool (test x)) [
      | inl holds ↦ let more : count_by test (x ∷ xs) ≡ 1 + count_by test xs = count_one test x xs holds in omega arith
      | inr fails ↦
          let same : count_by test (x ∷ xs) ≡ count_by test xs = count_other test x xs fails in
          let rest : 1 ≤ count_by test xs = elim (or_cases (test x) (list_any test xs) some) [
            | inl holds ↦ absurd (true≢false (sym holds ∙ fails))
            | inr later ↦ count-any test xs later
          ] in
          omega arith
    ]

pub any_from_count : (test : Cell → Bool) (xs : List Cell) → 1 ≤ count_by test xs → list_any test xs ≡ true
any_from_count test [] some = let wrong : ⊥ = omega arith in absurd wrong
any_from_count test (x ∷ xs) some =
    elim (cases_Bool (test x)) [
      | inl holds ↦ or_left (test x) (list_any test xs) holds
      | inr fails ↦
          let same : count_by test (x ∷ xs) ≡ count_by test xs = count_other test x xs fails in
          or_right (test x) (list_any test xs) (any_from_count test xs (omega arith))
    ]

-- the list without a cell
abbrev pub without : Cell → List Cell → List Cell
without c cs = filter (λ d. not (cell_eq d c)) cs

without_same : (c x : Cell) (cs : List Cell) → x ≡ c → without c (x ∷ cs) ≡ without c cs
without_same c x cs e = cond-false (not (cell_eq x c)) (x ∷ without c cs) (without c cs) (ap not (ap (cell_eq x) (sym e) ∙ cell_eq-itself x))

without_other : (c x : Cell) (cs : List Cell) → cell_eq x c ≡ false → without c (x ∷ cs) ≡ x ∷ without c cs
without_other c x cs apart = cond-true (not (cell_eq x c)) (x ∷ without c cs) (without c cs) (ap not apart)

without_absent : (c : Cell) (cs : List Cell) → (Contains cs c → ⊥) → without c cs ≡ cs
without_absent c [] absent = refl
without_absent c (x ∷ cs) absent =
    elim (cell_cases x c) [
      | inl e ↦ absurd (absent (subst (Contains (x ∷ cs)) e (Contains-here x cs)))
      | inr apart ↦ without_other c x cs apart ∙ ap (λ (zs : List Cell). x ∷ zs) (without_absent c cs (λ h. absent (Contains-there x cs c h)))
    ]

once_tail : (x : Cell) (cs : List Cell) → AllPairs (λ a b. a ≢ b) (x ∷ cs) → AllPairs (λ a b. a ≢ b) cs
once_tail x cs once = λ i j y lt within. once (suc i) (suc j) y (omega arith) (omega arith)

once_head : (c x : Cell) (cs : List Cell) → AllPairs (λ a b. a ≢ b) (x ∷ cs) → x ≡ c → without c (x ∷ cs) ≡ cs
once_head c x cs once e =
    let absent : (Contains cs c → ⊥) = λ k. once 0 (suc k.0) c (omega arith) (omega (arith, k.1)) (e ∙ sym k.2) in
    without_same c x cs e ∙ without_absent c cs absent

-- a sum over a list without repetition, by one of its cells and the rest
pub count_without : (test : Cell → Bool) (cs : List Cell) → AllPairs (λ a b. a ≢ b) cs → (c : Cell) → Contains cs c → count_by test cs ≡ cond (test c) 1 0 + count_by test (without c cs)
count_without test [] once c h = absurd (not_in_nil c h)
count_without test (x ∷ cs) once c h =
    let here : count_by test (x ∷ cs) ≡ cond (test x) 1 0 + count_by test cs = sum_by-cons (λ y. cond (test y) 1 0) x cs in
    elim (cell_cases x c) [
      | inl e ↦ here ∙ ap (λ y. cond (test y) 1 0 + count_by test cs) e ∙ ap (λ (zs : List Cell). cond (test c) 1 0 + count_by test zs) (sym (once_head c x cs once e))
      | inr apart ↦
          let rest : count_by test cs ≡ cond (test c) 1 0 + count_by test (without c cs) = count_without test cs (once_tail x cs once) c (Contains-later x cs c apart h) in
          let kept : count_by test (without c (x ∷ cs)) ≡ cond (test x) 1 0 + count_by test (without c cs) =
          ap (count_by test) (without_other c x cs apart) ∙ sum_by-cons (λ y. cond (test y) 1 0) x (without c cs) in
          omega arith
    ]

plus_twice : (a r : Bool) → plus a (plus a r) ≡ r
plus_twice true true = refl
plus_twice true false = refl
plus_twice false r = refl

pub parity_without : (v : Valuation) (cs : List Cell) → AllPairs (λ a b. a ≢ b) cs → (c : Cell) → Contains cs c → parity v (without c cs) ≡ plus (v c) (parity v cs)
parity_without v [] once c h = absurd (not_in_nil c h)
parity_without v (x ∷ cs) once c h =
    elim (cell_cases x c) [
      | inl e ↦ ap (parity v) (once_head c x cs once e) ∙ sym (plus_twice (v c) (parity v cs)) ∙ ap (λ y. plus (v c) (plus (v y) (parity v cs))) (sym e)
      | inr apart ↦
          ap (parity v) (without_other c x cs apart) ∙ ap (plus (v x)) (parity_without v cs (once_tail x cs once) c (Contains-later x cs c apart h)) ∙ plus_swap (v x) (v c) (parity v cs)
    ]

-- no literal of the cell is known
abbrev pub is_open : (Lit → Bool) → Cell → Bool
is_open known d = not (some_known known d)

-- No cell but c is open, and one but c has both literals known or the known bits of those but c settle the bit.
abbrev pub CountsForce : Bool → List Cell → (Lit → Bool) → Cell → Bool → Type 0
CountsForce inverted odds known c bit =
    (count_by (is_open known) odds ≡ cond (is_open known c) 1 0)
    × ((cond (both_known known c) 1 0 < count_by (both_known known) odds) ⊎ (plus inverted (plus (known_bit known c) (parity (known_bit known) odds)) ≡ bit))

module _ (inverted : Bool) (odds : List Cell) (known : Lit → Bool) (c : Cell) (bit : Bool) (once : AllPairs (λ a b. a ≢ b) odds) (is : Contains odds c) where
  open_count : count_by (is_open known) odds ≡ cond (is_open known c) 1 0 + count_by (is_open known) (without c odds)
  open_count = count_without (is_open known) odds once c is

  both_count : count_by (both_known known) odds ≡ cond (both_known known c) 1 0 + count_by (both_known known) (without c odds)
  both_count = count_without (both_known known) odds once c is

  rest_parity : parity (known_bit known) (without c odds) ≡ plus (known_bit known c) (parity (known_bit known) odds)
  rest_parity = parity_without (known_bit known) odds once c is

  counts_force : OthersForce inverted (without c odds) known bit → CountsForce inverted odds known c bit
  counts_force h =
      let none : count_by (is_open known) (without c odds) ≡ 0 = count-all (some_known known) (without c odds) h.0 in
      let opens : count_by (is_open known) odds ≡ cond (is_open known c) 1 0 + count_by (is_open known) (without c odds) = open_count in
      let boths : count_by (both_known known) odds ≡ cond (both_known known c) 1 0 + count_by (both_known known) (without c odds) = both_count in (
        omega arith,
        elim h.1 [
          | inl some ↦ let one : 1 ≤ count_by (both_known known) (without c odds) = count-any (both_known known) (without c odds) some in inl (omega arith)
          | inr e ↦ inr (ap (plus inverted) (sym rest_parity) ∙ e)
        ],
      )

  force_counts : CountsForce inverted odds known c bit → OthersForce inverted (without c odds) known bit
  force_counts h =
      let opens : count_by (is_open known) odds ≡ cond (is_open known c) 1 0 + count_by (is_open known) (without c odds) = open_count in
      let boths : count_by (both_known known) odds ≡ cond (both_known known c) 1 0 + count_by (both_known known) (without c odds) = both_count in
      let own : count_by (is_open known) odds ≡ cond (is_open known c) 1 0 = h.0 in (
        all_from_count (some_known known) (without c odds) (omega arith),
        elim h.1 [
          | inl less ↦ inl (any_from_count (both_known known) (without c odds) (omega arith))
          | inr e ↦ inr (ap (plus inverted) rest_parity ∙ e)
        ],
      )

-- the choice at a parity gate, by counts over all its cells that stand an odd number of times
pub xor_counts : (inverted : Bool) (i : Instance) (known : Lit → Bool) (l : Lit) (odds : List Cell) → AreOdd i odds → Contains odds l.cell
    → XorForces inverted i known l ↔ CountsForce inverted odds known l.cell l.bit
xor_counts inverted i known l odds are is =
    let choice : XorForces inverted i known l ↔ OthersForce inverted (without l.cell odds) known l.bit =
    xor_choice inverted i known l (without l.cell odds) (others_of i odds are l.cell) (are.odd l.cell is) in
    (λ x. counts_force inverted odds known l.cell l.bit are.once is (choice.0 x), λ h. choice.1 (force_counts inverted odds known l.cell l.bit are.once is h))
