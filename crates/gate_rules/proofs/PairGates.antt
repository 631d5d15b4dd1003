-- What a gate with one pin or with two forces, by what is known of each of its cells.
use Rattle.std.proofs.Common.{◌≡◌, ◌≢◌, ◌⊎◌, ◌↔◌, ◌&&◌, ◌||◌, Bool, true, false, not, cond, [], ◌∷◌, inl, inr, sym, subst, refl, ap, ◌∙◌}
use Rattle.std.specs.Prelude.{IsTrue}
use Rattle.std.specs.List.{Contains}
use Rattle.std.proofs.lemmas.Bool.{or_cases, or_left, or_right, and_parts, and_from, true≢false}
use mathlib.Core.Bool.{beq}
use Rattle.sr_model.specs.declared.gates.Kind.{Kind}
use Rattle.sr_model.specs.declared.cells.Cell.{Cell}
use Rattle.sr_model.specs.declared.cells.Lit.{Lit}
use Rattle.sr_model.specs.AndLike.{IsAndLike}
use Rattle.sr_model.specs.Netlist.{Instance}
use Rattle.sr_model.specs.Closure.{Forces, passing, lit}
use Rattle.sr_model.specs.XorLike.{plus, IsXorLike}
use Rattle.sr_model.proofs.lemmas.AndRules.{target_t-exact, target_other-exact, pin_p-exact, pin_other-exact}
use Rattle.sr_model.proofs.lemmas.Cells.{cell_eq, cell_cases, cell_eq-itself}
use Rattle.sr_model.proofs.lemmas.Members.{not_in_nil, Contains-here, Contains-there, Contains-cases}

-- one of two things, where each stands for a bit
pub either : (a b : Bool) (F P Q : Type 0) → F ↔ (P ⊎ Q) → (a ≡ true) ↔ P → (b ≡ true) ↔ Q → IsTrue (a || b) ↔ F
either a b F P Q exact first second = (
  λ set. exact.1 (elim (or_cases a b set) [ inl h ↦ inl (first.0 h) | inr h ↦ inr (second.0 h) ]),
  λ f. elim (exact.0 f) [ inl p ↦ or_left a b (first.1 p) | inr q ↦ or_right a b (second.1 q) ],
)

pub same_bit : (a b : Bool) → a ≡ b → (a ≡ true) ↔ (b ≡ true)
same_bit a b e = (λ h. sym e ∙ h, λ h. e ∙ h)

pub differ : (c d : Cell) → c ≢ d → cell_eq c d ≡ false
differ c d apart = elim (cell_cases c d) [ inl e ↦ absurd (apart e) | inr differs ↦ differs ]

-- a bit or the other one
pub by_bit : (P : Bool → Type 0) (b : Bool) → P b → P (not b) → (bit : Bool) → P bit
by_bit P true own other true = own
by_bit P true own other false = other
by_bit P false own other true = other
by_bit P false own other false = own

-- a gate with one pin that has the pin's bit or the other one is and-like
pub inverts_and_like : (kind : Kind) (t x : Cell) (p b : Bool) → IsAndLike p b (record { kind = kind; target = t; pins = x ∷ [] }) → IsAndLike true (not (plus p b)) (record { kind = kind; target = t; pins = x ∷ [] })
inverts_and_like kind t x p b rule w = rule w ∙ turn (w x) p b where
  turn : (a p b : Bool) → cond (beq a p && true) b (not b) ≡ cond (beq a true && true) (not (plus p b)) (not (not (plus p b)))
  turn true true true = refl
  turn true true false = refl
  turn true false true = refl
  turn true false false = refl
  turn false true true = refl
  turn false true false = refl
  turn false false true = refl
  turn false false false = refl

pub inverts_parity : (kind : Kind) (t x : Cell) (inverted : Bool) → IsXorLike inverted (record { kind = kind; target = t; pins = x ∷ [] }) → IsAndLike true (not inverted) (record { kind = kind; target = t; pins = x ∷ [] })
inverts_parity kind t x inverted rule w = rule w ∙ turn (w x) inverted where
  turn : (a i : Bool) → plus i (plus a false) ≡ cond (beq a true && true) (not i) (not (not i))
  turn true true = refl
  turn true false = refl
  turn false true = refl
  turn false false = refl

module _ (kind : Kind) (t x : Cell) (apart : x ≢ t) (known : Lit → Bool) (has_t has_x : Bool → Bool)
    (says_t : (bit : Bool) → has_t bit ≡ known (lit t bit)) (says_x : (bit : Bool) → has_x bit ≡ known (lit x bit)) where
  abbrev lone : Instance
  lone = record { kind = kind; target = t; pins = x ∷ [] }

  the-pin : (c : Cell) → Contains (x ∷ []) c → x ≡ c
  the-pin c h = elim (Contains-cases x [] c h) [ inl e ↦ e | inr none ↦ absurd (not_in_nil c none) ]

  unread : Contains (x ∷ []) t → ⊥
  unread h = apart (the-pin t h)

  here : Contains (x ∷ []) x
  here = Contains-here x []

  module _ (p b : Bool) (rule : IsAndLike p b lone) where
    target-own : IsTrue (has_t b || has_x p) ↔ Forces lone (passing known) (lit t b)
    target-own =
        either (has_t b) (has_x p) (Forces lone (passing known) (lit t b)) (known (lit t b) ≡ true) ((c : Cell) → Contains (x ∷ []) c → known (lit c p) ≡ true)
        (target_t-exact p b lone rule known unread) (same_bit (has_t b) (known (lit t b)) (says_t b))
        (λ h c among. subst (λ d. known (lit d p) ≡ true) (the-pin c among) (sym (says_x p) ∙ h), λ all. says_x p ∙ all x here)

    target-other : IsTrue (has_t (not b) || has_x (not p)) ↔ Forces lone (passing known) (lit t (not b))
    target-other =
        either (has_t (not b)) (has_x (not p)) (Forces lone (passing known) (lit t (not b))) (known (lit t (not b)) ≡ true) ((c : Cell) × Contains (x ∷ []) c × (known (lit c (not p)) ≡ true))
        (target_other-exact p b lone rule known unread x here) (same_bit (has_t (not b)) (known (lit t (not b))) (says_t (not b)))
        (λ h. (x, here, sym (says_x (not p)) ∙ h), λ some. says_x (not p) ∙ subst (λ d. known (lit d (not p)) ≡ true) (sym (the-pin some.0 some.1)) some.2)

    pin-own : IsTrue (has_x p || has_t b) ↔ Forces lone (passing known) (lit x p)
    pin-own =
        either (has_x p) (has_t b) (Forces lone (passing known) (lit x p)) (known (lit x p) ≡ true) (known (lit t b) ≡ true)
        (pin_p-exact p b lone rule known unread x here) (same_bit (has_x p) (known (lit x p)) (says_x p)) (same_bit (has_t b) (known (lit t b)) (says_t b))

    pin-other : IsTrue (has_x (not p) || has_t (not b)) ↔ Forces lone (passing known) (lit x (not p))
    pin-other =
        either (has_x (not p)) (has_t (not b)) (Forces lone (passing known) (lit x (not p))) (known (lit x (not p)) ≡ true)
        ((known (lit t (not b)) ≡ true) × ((d : Cell) → Contains (x ∷ []) d → cell_eq x d ≡ false → known (lit d p) ≡ true))
        (pin_other-exact p b lone rule known unread x here) (same_bit (has_x (not p)) (known (lit x (not p))) (says_x (not p)))
        (λ h. (sym (says_t (not b)) ∙ h, λ d among differs. absurd (true≢false (sym (cell_eq-itself x) ∙ ap (cell_eq x) (the-pin d among) ∙ differs))), λ both. says_t (not b) ∙ both.0)

  -- each literal of the one cell, and of the other the same one or the other
  pub lone_target : (inverting : Bool) → IsAndLike true (not inverting) lone → (bit : Bool) → IsTrue (has_t bit || has_x (plus inverting bit)) ↔ Forces lone (passing known) (lit t bit)
  lone_target true rule true = target-other true false rule
  lone_target true rule false = target-own true false rule
  lone_target false rule true = target-own true true rule
  lone_target false rule false = target-other true true rule

  pub lone_pin : (inverting : Bool) → IsAndLike true (not inverting) lone → (bit : Bool) → IsTrue (has_x bit || has_t (plus inverting bit)) ↔ Forces lone (passing known) (lit x bit)
  lone_pin true rule true = pin-own true false rule
  lone_pin true rule false = pin-other true false rule
  lone_pin false rule true = pin-own true true rule
  lone_pin false rule false = pin-other true true rule

-- what an and-like gate with two pins forces, by what is there of each of its cells
pub record PairForces (i : Instance) (known : Lit → Bool) (t x y : Cell) (p b : Bool) (has_t has_x has_y : Bool → Bool) : Type 0 where
  pub target_own : IsTrue (has_t b || (has_x p && has_y p)) ↔ Forces i (passing known) (lit t b)
  pub target_other : IsTrue (has_t (not b) || (has_x (not p) || has_y (not p))) ↔ Forces i (passing known) (lit t (not b))
  pub first_own : IsTrue (has_x p || has_t b) ↔ Forces i (passing known) (lit x p)
  pub first_other : IsTrue (has_x (not p) || (has_t (not b) && has_y p)) ↔ Forces i (passing known) (lit x (not p))
  pub second_own : IsTrue (has_y p || has_t b) ↔ Forces i (passing known) (lit y p)
  pub second_other : IsTrue (has_y (not p) || (has_t (not b) && has_x p)) ↔ Forces i (passing known) (lit y (not p))

module _ (kind : Kind) (t x y : Cell) (x_t : x ≢ t) (y_t : y ≢ t) (x_y : x ≢ y) (known : Lit → Bool) (p b : Bool) (rule : IsAndLike p b (record { kind = kind; target = t; pins = x ∷ y ∷ [] }))
    (has_t : Bool → Bool) (says_t : (bit : Bool) → has_t bit ≡ known (lit t bit)) where
  abbrev pair : Instance
  pair = record { kind = kind; target = t; pins = x ∷ y ∷ [] }

  which : (c : Cell) → Contains (x ∷ y ∷ []) c → (x ≡ c) ⊎ (y ≡ c)
  which c h = elim (Contains-cases x (y ∷ []) c h) [
    | inl e ↦ inl e
    | inr later ↦ elim (Contains-cases y [] c later) [ inl e ↦ inr e | inr none ↦ absurd (not_in_nil c none) ]
  ]

  pair_unread : Contains (x ∷ y ∷ []) t → ⊥
  pair_unread h = elim (which t h) [ inl e ↦ x_t e | inr e ↦ y_t e ]

  first : Contains (x ∷ y ∷ []) x
  first = Contains-here x (y ∷ [])

  second : Contains (x ∷ y ∷ []) y
  second = Contains-there x (y ∷ []) y (Contains-here y [])

  module _ (has_x has_y : Bool → Bool) (says_x : (bit : Bool) → has_x bit ≡ known (lit x bit)) (says_y : (bit : Bool) → has_y bit ≡ known (lit y bit)) where
    pair_target_own : IsTrue (has_t b || (has_x p && has_y p)) ↔ Forces pair (passing known) (lit t b)
    pair_target_own =
        either (has_t b) (has_x p && has_y p) (Forces pair (passing known) (lit t b)) (known (lit t b) ≡ true) ((c : Cell) → Contains (x ∷ y ∷ []) c → known (lit c p) ≡ true)
        (target_t-exact p b pair rule known pair_unread) (same_bit (has_t b) (known (lit t b)) (says_t b)) (
          λ h c among.
              let both : (has_x p ≡ true) × (has_y p ≡ true) = and_parts (has_x p) (has_y p) h in
              elim (which c among) [
                | inl e ↦ subst (λ d. known (lit d p) ≡ true) e (sym (says_x p) ∙ both.0)
                | inr e ↦ subst (λ d. known (lit d p) ≡ true) e (sym (says_y p) ∙ both.1)
              ],
          λ all. and_from (has_x p) (has_y p) (says_x p ∙ all x first) (says_y p ∙ all y second),
        )

    pair_target_other : IsTrue (has_t (not b) || (has_x (not p) || has_y (not p))) ↔ Forces pair (passing known) (lit t (not b))
    pair_target_other =
        either (has_t (not b)) (has_x (not p) || has_y (not p)) (Forces pair (passing known) (lit t (not b))) (known (lit t (not b)) ≡ true)
        ((c : Cell) × Contains (x ∷ y ∷ []) c × (known (lit c (not p)) ≡ true))
        (target_other-exact p b pair rule known pair_unread x first) (same_bit (has_t (not b)) (known (lit t (not b))) (says_t (not b))) (
          λ h. elim (or_cases (has_x (not p)) (has_y (not p)) h) [ inl one ↦ (x, first, sym (says_x (not p)) ∙ one) | inr one ↦ (y, second, sym (says_y (not p)) ∙ one) ],
          λ some. elim (which some.0 some.1) [
            | inl e ↦ or_left (has_x (not p)) (has_y (not p)) (says_x (not p) ∙ subst (λ d. known (lit d (not p)) ≡ true) (sym e) some.2)
            | inr e ↦ or_right (has_x (not p)) (has_y (not p)) (says_y (not p) ∙ subst (λ d. known (lit d (not p)) ≡ true) (sym e) some.2)
          ],
        )

  -- a pin, and the other one
  module _ (c o : Cell) (is_pin : Contains (x ∷ y ∷ []) c) (other_pin : Contains (x ∷ y ∷ []) o) (apart : cell_eq c o ≡ false) (rest : (d : Cell) → Contains (x ∷ y ∷ []) d → cell_eq c d ≡ false → o ≡ d)
      (has_c has_o : Bool → Bool) (says_c : (bit : Bool) → has_c bit ≡ known (lit c bit)) (says_o : (bit : Bool) → has_o bit ≡ known (lit o bit)) where
    pin_own : IsTrue (has_c p || has_t b) ↔ Forces pair (passing known) (lit c p)
    pin_own =
        either (has_c p) (has_t b) (Forces pair (passing known) (lit c p)) (known (lit c p) ≡ true) (known (lit t b) ≡ true)
        (pin_p-exact p b pair rule known pair_unread c is_pin) (same_bit (has_c p) (known (lit c p)) (says_c p)) (same_bit (has_t b) (known (lit t b)) (says_t b))

    pin_other : IsTrue (has_c (not p) || (has_t (not b) && has_o p)) ↔ Forces pair (passing known) (lit c (not p))
    pin_other =
        either (has_c (not p)) (has_t (not b) && has_o p) (Forces pair (passing known) (lit c (not p))) (known (lit c (not p)) ≡ true)
        ((known (lit t (not b)) ≡ true) × ((d : Cell) → Contains (x ∷ y ∷ []) d → cell_eq c d ≡ false → known (lit d p) ≡ true))
        (pin_other-exact p b pair rule known pair_unread c is_pin) (same_bit (has_c (not p)) (known (lit c (not p))) (says_c (not p))) (
          λ h.
              let both : (has_t (not b) ≡ true) × (has_o p ≡ true) = and_parts (has_t (not b)) (has_o p) h in
              (sym (says_t (not b)) ∙ both.0, λ d among differs. subst (λ e. known (lit e p) ≡ true) (rest d among differs) (sym (says_o p) ∙ both.1)),
          λ both. and_from (has_t (not b)) (has_o p) (says_t (not b) ∙ both.0) (says_o p ∙ both.1 o other_pin apart),
        )

  module _ (has_x has_y : Bool → Bool) (says_x : (bit : Bool) → has_x bit ≡ known (lit x bit)) (says_y : (bit : Bool) → has_y bit ≡ known (lit y bit)) where
    after_first : (d : Cell) → Contains (x ∷ y ∷ []) d → cell_eq x d ≡ false → y ≡ d
    after_first d h differs = elim (which d h) [ inl e ↦ absurd (true≢false (sym (cell_eq-itself x) ∙ ap (cell_eq x) e ∙ differs)) | inr e ↦ e ]

    after_second : (d : Cell) → Contains (x ∷ y ∷ []) d → cell_eq y d ≡ false → x ≡ d
    after_second d h differs = elim (which d h) [ inl e ↦ e | inr e ↦ absurd (true≢false (sym (cell_eq-itself y) ∙ ap (cell_eq y) e ∙ differs)) ]

    pub pair_forces : PairForces pair known t x y p b has_t has_x has_y
    pair_forces = record {
      target_own = pair_target_own has_x has_y says_x says_y;
      target_other = pair_target_other has_x has_y says_x says_y;
      first_own = pin_own x y first second (differ x y x_y) after_first has_x has_y says_x says_y;
      first_other = pin_other x y first second (differ x y x_y) after_first has_x has_y says_x says_y;
      second_own = pin_own y x second first (differ y x (λ e. x_y (sym e))) after_second has_y has_x says_y says_x;
      second_other = pin_other y x second first (differ y x (λ e. x_y (sym e))) after_second has_y has_x says_y says_x;
    }
