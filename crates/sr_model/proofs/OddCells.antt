-- The cells that stand an odd number of times in a list, and the parity that they alone settle.
use Rattle.std.proofs.Common.{◌≡◌, ◌≢◌, suc, Bool, true, false, not, List, [], ◌∷◌, ◌++◌, arith, inl, inr, sym, subst, refl, ap, ◌∙◌}
use Rattle.std.specs.List.{Contains, AllPairs, filter}
use Rattle.std.proofs.lemmas.Bool.{cases_Bool, true≢false, not-true, not_from_false}
use Rattle.std.proofs.lemmas.List.Kept.{AllPairs-filter}
use Rattle.sr_model.specs.declared.cells.Cell.{Cell}
use Rattle.sr_model.specs.Netlist.{cell_eq, Instance, cells_of, Valuation}
use Rattle.sr_model.specs.XorLike.{plus, parity, is_odd}
use Rattle.sr_model.proofs.lemmas.Members.{not_in_nil, Contains-cases, filter-member, filter-passes, filter-has}
use Rattle.sr_model.proofs.Rows.{cell_cases, cell_eq-itself, cell_eq-swap}
use Rattle.sr_model.proofs.Parity.{plus_same, plus_itself, parity-none}
use Rattle.sr_model.proofs.XorLike.{is_odd-member}

pub plus_assoc : (a b c : Bool) → plus a (plus b c) ≡ plus (plus a b) c
plus_assoc true true true = refl
plus_assoc true true false = refl
plus_assoc true false c = refl
plus_assoc false b c = refl

pub plus_false : (a : Bool) → plus a false ≡ a
plus_false true = refl
plus_false false = refl

pub parity-append : (v : Valuation) (xs ys : List Cell) → parity v (xs ++ ys) ≡ plus (parity v xs) (parity v ys)
parity-append v [] ys = refl
parity-append v (x ∷ xs) ys = ap (plus (v x)) (parity-append v xs ys) ∙ plus_assoc (v x) (parity v xs) (parity v ys)

-- lists in which the same cells stand an odd number of times have one parity
pub parity-same_odd : (v : Valuation) (xs ys : List Cell) → ((d : Cell) → is_odd d xs ≡ is_odd d ys) → parity v xs ≡ parity v ys
parity-same_odd v xs ys same =
    let even : (d : Cell) → is_odd d (xs ++ ys) ≡ false = λ d.
    parity-append (λ e. cell_eq e d) xs ys ∙ ap (λ b. plus b (is_odd d ys)) (same d) ∙ plus_itself (is_odd d ys) in
    let none : parity v (xs ++ ys) ≡ false = parity-none (xs ++ ys) v (λ d odd. absurd (true≢false (sym odd ∙ even d))) in
    plus_same (parity v xs) (parity v ys) (sym (parity-append v xs ys) ∙ none)

pub is_odd-absent : (d : Cell) (cs : List Cell) → (Contains cs d → ⊥) → is_odd d cs ≡ false
is_odd-absent d cs absent = elim (cases_Bool (is_odd d cs)) [ inl odd ↦ absurd (absent (is_odd-member d cs odd)) | inr even ↦ even ]

pub is_odd-same : (c d : Cell) (cs : List Cell) → c ≡ d → is_odd d (c ∷ cs) ≡ not (is_odd d cs)
is_odd-same c d cs e = ap (λ b. plus b (is_odd d cs)) (ap (cell_eq c) (sym e) ∙ cell_eq-itself c)

pub is_odd-other : (c d : Cell) (cs : List Cell) → cell_eq c d ≡ false → is_odd d (c ∷ cs) ≡ is_odd d cs
is_odd-other c d cs apart = ap (λ b. plus b (is_odd d cs)) apart

-- a member that is not the head
pub Contains-later : (c : Cell) (cs : List Cell) (d : Cell) → cell_eq c d ≡ false → Contains (c ∷ cs) d → Contains cs d
Contains-later c cs d apart h =
    elim (Contains-cases c cs d h) [ inl e ↦ absurd (true≢false (sym (cell_eq-itself c) ∙ ap (cell_eq c) e ∙ apart)) | inr later ↦ later ]

-- each cell of a list without repetition stands an odd number of times
pub once_odd : (cs : List Cell) → AllPairs (λ a b. a ≢ b) cs → (d : Cell) → Contains cs d → is_odd d cs ≡ true
once_odd [] once d h = absurd (not_in_nil d h)
once_odd (c ∷ cs) once d h =
    let rest : AllPairs (λ a b. a ≢ b) cs = λ i j x lt within. once (suc i) (suc j) x (omega arith) (omega arith) in
    elim (cell_cases c d) [
      | inl e ↦
          let absent : (Contains cs d → ⊥) = λ k. once 0 (suc k.0) d (omega arith) (omega (arith, k.1)) (e ∙ sym k.2) in
          is_odd-same c d cs e ∙ ap not (is_odd-absent d cs absent)
      | inr apart ↦ is_odd-other c d cs apart ∙ once_odd cs rest d (Contains-later c cs d apart h)
    ]

-- the target is no pin, so it stands once
pub target_odd : (i : Instance) → (Contains i.pins i.target → ⊥) → is_odd i.target (cells_of i) ≡ true
target_odd i apart = is_odd-same i.target i.target i.pins refl ∙ ap not (is_odd-absent i.target i.pins apart)

-- another cell stands as often among the cells as among the pins
pub pin_odd : (i : Instance) (c : Cell) → cell_eq i.target c ≡ false → is_odd c (cells_of i) ≡ is_odd c i.pins
pin_odd i c apart = is_odd-other i.target c i.pins apart

-- The list has, without repetition, the cells but for c that stand an odd number of times among the instance's.
pub record AreOthers (i : Instance) (c : Cell) (others : List Cell) : Type 0 where
  pub once : AllPairs (λ a b. a ≢ b) others
  pub odd : (d : Cell) → Contains others d → is_odd d (cells_of i) ≡ true
  pub differs : (d : Cell) → Contains others d → cell_eq d c ≡ false
  pub each : (d : Cell) → is_odd d (cells_of i) ≡ true → cell_eq d c ≡ false → Contains others d

-- The list has, without repetition, the cells that stand an odd number of times among the instance's.
pub record AreOdd (i : Instance) (odds : List Cell) : Type 0 where
  pub once : AllPairs (λ a b. a ≢ b) odds
  pub odd : (d : Cell) → Contains odds d → is_odd d (cells_of i) ≡ true
  pub each : (d : Cell) → is_odd d (cells_of i) ≡ true → Contains odds d

pub others_of : (i : Instance) (odds : List Cell) → AreOdd i odds → (c : Cell) → AreOthers i c (filter (λ d. not (cell_eq d c)) odds)
others_of i odds are c = record {
  once = AllPairs-filter (λ a b. a ≢ b) (λ d. not (cell_eq d c)) odds are.once;
  odd = λ d h. are.odd d (filter-member (λ d. not (cell_eq d c)) odds d h);
  differs = λ d h. not-true (cell_eq d c) (filter-passes (λ d. not (cell_eq d c)) odds d h);
  each = λ d odd apart. filter-has (λ d. not (cell_eq d c)) odds d (are.each d odd) (not_from_false (cell_eq d c) apart);
}

module _ (i : Instance) (c : Cell) (others : List Cell) (are : AreOthers i c others) (odd : is_odd c (cells_of i) ≡ true) where
  same_odd : (d : Cell) → is_odd d (cells_of i) ≡ is_odd d (c ∷ others)
  same_odd d =
      elim (cell_cases c d) [
        | inl e ↦
            let absent : (Contains others d → ⊥) = λ h. true≢false (sym (cell_eq-itself d) ∙ ap (cell_eq d) (sym e) ∙ are.differs d h) in
            subst (λ x. is_odd x (cells_of i) ≡ true) e odd ∙ sym (is_odd-same c d others e ∙ ap not (is_odd-absent d others absent))
        | inr apart ↦ elim (cases_Bool (is_odd d (cells_of i))) [
          | inl is ↦ is ∙ sym (is_odd-other c d others apart ∙ once_odd others are.once d (are.each d is (cell_eq-swap c d apart)))
          | inr even ↦
              let absent : (Contains others d → ⊥) = λ h. true≢false (sym (are.odd d h) ∙ even) in
              even ∙ sym (is_odd-other c d others apart ∙ is_odd-absent d others absent)
        ]
      ]

  -- the parity of the instance's cells is that of c and the others
  pub parity-others : (v : Valuation) → parity v (cells_of i) ≡ plus (v c) (parity v others)
  parity-others v = parity-same_odd v (cells_of i) (c ∷ others) same_odd
