-- What a gate with two pins forces whose target has the sum of their bits, or the other bit.
use Rattle.std.proofs.Common.{◌≡◌, ◌≢◌, ◌⊎◌, ◌↔◌, ◌&&◌, ◌||◌, Bool, true, false, not, cond, [], ◌∷◌, inl, inr, sym, subst, refl, ap, ◌∙◌}
use Rattle.std.specs.Prelude.{IsTrue}
use Rattle.std.specs.List.{Contains}
use Rattle.std.proofs.lemmas.Bool.{cond-true, cond-false, or_cases, or_left, or_right, and_parts, and_from, true≢false}
use Rattle.sr_model.specs.declared.gates.Kind.{Kind}
use Rattle.sr_model.specs.declared.cells.Cell.{Cell}
use Rattle.sr_model.specs.declared.cells.Lit.{Lit}
use Rattle.sr_model.specs.Netlist.{Instance, Valuation, cells_of}
use Rattle.sr_model.specs.Closure.{Forces, passing, lit}
use Rattle.sr_model.specs.XorLike.{plus, parity, is_odd, IsXorLike}
use Rattle.sr_model.proofs.lemmas.Cells.{cell_eq, cell_eq-itself}
use Rattle.sr_model.proofs.lemmas.Members.{not_in_nil, Contains-cases}
use Rattle.sr_model.proofs.lemmas.ParityRules.{XorForces, is_odd-member, xor_odd-exact}
use Rattle.gate_rules.specs.FewPinBits.{sum_has}
use Rattle.gate_rules.proofs.PairGates.{either, same_bit, differ}

-- sums of bits
plus_back : (a s : Bool) → s ≡ plus (plus a s) a
plus_back true true = refl
plus_back true false = refl
plus_back false true = refl
plus_back false false = refl

pub plus_twice : (i b : Bool) → plus i (plus i b) ≡ b
plus_twice true true = refl
plus_twice true false = refl
plus_twice false b = refl

plus_between : (b i : Bool) → plus b (plus i b) ≡ i
plus_between true true = refl
plus_between true false = refl
plus_between false true = refl
plus_between false false = refl

first_of : (a b c : Bool) → plus a (plus b (plus c false)) ≡ plus a (plus b c)
first_of a b true = refl
first_of a b false = refl

second_of : (a b c : Bool) → plus a (plus b (plus c false)) ≡ plus b (plus a c)
second_of true true c = first_of true true c
second_of true false true = refl
second_of true false false = refl
second_of false true true = refl
second_of false true false = refl
second_of false false c = first_of false false c

third_of : (a b c : Bool) → plus a (plus b (plus c false)) ≡ plus c (plus a b)
third_of true true true = refl
third_of true true false = refl
third_of true false true = refl
third_of true false false = refl
third_of false true true = refl
third_of false true false = refl
third_of false false true = refl
third_of false false false = refl

-- literals that have a sum
sum_found : (has_a has_b : Bool → Bool) (sum : Bool) → sum_has has_a has_b sum ≡ true → (a b : Bool) × (has_a a ≡ true) × (has_b b ≡ true) × (plus a b ≡ sum)
sum_found has_a has_b sum h =
    elim (or_cases (has_a false && has_b sum) (has_a true && has_b (not sum)) h) [
      | inl zero ↦ let both : (has_a false ≡ true) × (has_b sum ≡ true) = and_parts (has_a false) (has_b sum) zero in (false, sum, both.0, both.1, refl)
      | inr one ↦ let both : (has_a true ≡ true) × (has_b (not sum) ≡ true) = and_parts (has_a true) (has_b (not sum)) one in (true, not sum, both.0, both.1, twice sum)
    ]
  where
    twice : (b : Bool) → not (not b) ≡ b
    twice true = refl
    twice false = refl

sum_given : (has_a has_b : Bool → Bool) (a b : Bool) → has_a a ≡ true → has_b b ≡ true → sum_has has_a has_b (plus a b) ≡ true
sum_given has_a has_b false b first second = or_left (has_a false && has_b b) (has_a true && has_b (not b)) (and_from (has_a false) (has_b b) first second)
sum_given has_a has_b true true first second = or_right (has_a false && has_b false) (has_a true && has_b true) (and_from (has_a true) (has_b true) first second)
sum_given has_a has_b true false first second = or_right (has_a false && has_b true) (has_a true && has_b false) (and_from (has_a true) (has_b false) first second)

-- with the literals of the one turned
pub or_swap : (a b : Bool) → (a || b) ≡ (b || a)
or_swap true true = refl
or_swap true false = refl
or_swap false true = refl
or_swap false false = refl

pub turned_sum : (inverted : Bool) (has_a has_b : Bool → Bool) (bit : Bool) → sum_has (λ b. has_a (plus inverted b)) has_b bit ≡ sum_has has_a has_b (plus inverted bit)
turned_sum false has_a has_b bit = refl
turned_sum true has_a has_b true = or_swap (has_a true && has_b true) (has_a false && has_b false)
turned_sum true has_a has_b false = or_swap (has_a true && has_b false) (has_a false && has_b true)

module _ (inverted : Bool) (i : Instance) (rule : IsXorLike inverted i) (known : Lit → Bool) where
  -- one of three cells, and the other two
  module _ (a b c : Cell) (b_a : b ≢ a) (c_a : c ≢ a) (c_b : c ≢ b) (sums : (v : Valuation) → parity v (cells_of i) ≡ plus (v a) (plus (v b) (v c)))
      (which : (d : Cell) → Contains (cells_of i) d → (a ≡ d) ⊎ ((b ≡ d) ⊎ (c ≡ d))) where
    odd_a : is_odd a (cells_of i) ≡ true
    odd_a =
        sums (λ d. cell_eq d a) ∙ ap (λ x. plus x (plus (cell_eq b a) (cell_eq c a))) (cell_eq-itself a) ∙ ap (λ x. not (plus x (cell_eq c a))) (differ b a b_a)
        ∙ ap not (differ c a c_a)

    odd_b : is_odd b (cells_of i) ≡ true
    odd_b =
        sums (λ d. cell_eq d b) ∙ ap (λ x. plus x (plus (cell_eq b b) (cell_eq c b))) (differ a b (λ e. b_a (sym e))) ∙ ap (λ x. plus x (cell_eq c b)) (cell_eq-itself b)
        ∙ ap not (differ c b c_b)

    odd_c : is_odd c (cells_of i) ≡ true
    odd_c =
        sums (λ d. cell_eq d c) ∙ ap (λ x. plus x (plus (cell_eq b c) (cell_eq c c))) (differ a c (λ e. c_a (sym e))) ∙ ap (λ x. plus x (cell_eq c c)) (differ b c (λ e. c_b (sym e)))
        ∙ cell_eq-itself c

    -- a bit for each
    choice : Bool → Bool → Bool → Valuation
    choice x y z d = cond (cell_eq d a) x (cond (cell_eq d b) y z)

    choice_a : (x y z : Bool) → choice x y z a ≡ x
    unfolding choice
    choice_a x y z = cond-true (cell_eq a a) x (cond (cell_eq a b) y z) (cell_eq-itself a)

    choice_b : (x y z : Bool) → choice x y z b ≡ y
    unfolding choice
    choice_b x y z = cond-false (cell_eq b a) x (cond (cell_eq b b) y z) (differ b a b_a) ∙ cond-true (cell_eq b b) y z (cell_eq-itself b)

    choice_c : (x y z : Bool) → choice x y z c ≡ z
    unfolding choice
    choice_c x y z = cond-false (cell_eq c a) x (cond (cell_eq c b) y z) (differ c a c_a) ∙ cond-false (cell_eq c b) y z (differ c b c_b)

    module _ (has_a has_b has_c : Bool → Bool) (says_a : (bit : Bool) → has_a bit ≡ known (lit a bit)) (says_b : (bit : Bool) → has_b bit ≡ known (lit b bit))
        (says_c : (bit : Bool) → has_c bit ≡ known (lit c bit)) (bit : Bool) where
      sum_from : XorForces inverted i known (lit a bit) → sum_has has_b has_c (plus inverted bit) ≡ true
      sum_from x =
          let v : Valuation = x.choice in
          let left : plus (x.choice b) (x.choice c) ≡ plus inverted bit =
          plus_back (x.choice a) (plus (x.choice b) (x.choice c)) ∙ ap (λ s. plus s (x.choice a)) (sym (sums x.choice) ∙ x.balanced) ∙ ap (plus inverted) x.chosen in
          subst (λ s. sum_has has_b has_c s ≡ true) left
          (sum_given has_b has_c (x.choice b) (x.choice c) (says_b (x.choice b) ∙ x.others b odd_b (differ b a b_a)) (says_c (x.choice c) ∙ x.others c odd_c (differ c a c_a)))

      from_sum : sum_has has_b has_c (plus inverted bit) ≡ true → XorForces inverted i known (lit a bit)
      from_sum h =
          let found : (y z : Bool) × (has_b y ≡ true) × (has_c z ≡ true) × (plus y z ≡ plus inverted bit) = sum_found has_b has_c (plus inverted bit) h in
          let v : Valuation = choice bit found.0 found.1 in
          let in_b : known (lit b (choice bit found.0 found.1 b)) ≡ true = ap (λ x. known (lit b x)) (choice_b bit found.0 found.1) ∙ sym (says_b found.0) ∙ found.2 in
          let in_c : known (lit c (choice bit found.0 found.1 c)) ≡ true = ap (λ x. known (lit c x)) (choice_c bit found.0 found.1) ∙ sym (says_c found.1) ∙ found.3 in
          record {
            on_cells = is_odd-member a (cells_of i) odd_a;
            odd = odd_a;
            choice = choice bit found.0 found.1;
            balanced = sums (choice bit found.0 found.1) ∙ ap (λ x. plus x (plus (choice bit found.0 found.1 b) (choice bit found.0 found.1 c))) (choice_a bit found.0 found.1)
                ∙ ap (λ x. plus bit (plus x (choice bit found.0 found.1 c))) (choice_b bit found.0 found.1) ∙ ap (λ x. plus bit (plus found.0 x)) (choice_c bit found.0 found.1)
                ∙ ap (plus bit) found.4 ∙ plus_between bit inverted;
            chosen = choice_a bit found.0 found.1;
            others = λ d odd apart. elim (which d (is_odd-member d (cells_of i) odd)) [
              | inl e ↦ absurd (true≢false (sym (cell_eq-itself a) ∙ ap (λ x. cell_eq x a) e ∙ apart))
              | inr later ↦ elim later [
                | inl e ↦ subst (λ x. known (lit x (choice bit found.0 found.1 x)) ≡ true) e in_b
                | inr e ↦ subst (λ x. known (lit x (choice bit found.0 found.1 x)) ≡ true) e in_c
              ]
            ];
          }

      of_three : IsTrue (has_a bit || sum_has has_b has_c (plus inverted bit)) ↔ Forces i (passing known) (lit a bit)
      of_three =
          either (has_a bit) (sum_has has_b has_c (plus inverted bit)) (Forces i (passing known) (lit a bit)) (known (lit a bit) ≡ true) (XorForces inverted i known (lit a bit))
          (xor_odd-exact inverted i rule known (lit a bit) b odd_a odd_b (differ b a b_a)) (same_bit (has_a bit) (known (lit a bit)) (says_a bit)) (from_sum, sum_from)

module _ (inverted : Bool) (kind : Kind) (t x y : Cell) (x_t : x ≢ t) (y_t : y ≢ t) (x_y : x ≢ y) (rule : IsXorLike inverted (record { kind = kind; target = t; pins = x ∷ y ∷ [] })) (known : Lit → Bool)
    (has_t has_x has_y : Bool → Bool) (says_t : (bit : Bool) → has_t bit ≡ known (lit t bit)) (says_x : (bit : Bool) → has_x bit ≡ known (lit x bit))
    (says_y : (bit : Bool) → has_y bit ≡ known (lit y bit)) (bit : Bool) where
  abbrev pair : Instance
  pair = record { kind = kind; target = t; pins = x ∷ y ∷ [] }

  which : (d : Cell) → Contains (t ∷ x ∷ y ∷ []) d → (t ≡ d) ⊎ ((x ≡ d) ⊎ (y ≡ d))
  which d h = elim (Contains-cases t (x ∷ y ∷ []) d h) [
    | inl e ↦ inl e
    | inr later ↦ elim (Contains-cases x (y ∷ []) d later) [
      | inl e ↦ inr (inl e)
      | inr last ↦ elim (Contains-cases y [] d last) [ inl e ↦ inr (inr e) | inr none ↦ absurd (not_in_nil d none) ]
    ]
  ]

  pub parity_target : IsTrue (has_t bit || sum_has has_x has_y (plus inverted bit)) ↔ Forces pair (passing known) (lit t bit)
  parity_target =
      of_three inverted pair rule known t x y x_t y_t (λ e. x_y (sym e)) (λ v. first_of (v t) (v x) (v y)) which
      has_t has_x has_y says_t says_x says_y bit

  pub parity_first : IsTrue (has_x bit || sum_has has_t has_y (plus inverted bit)) ↔ Forces pair (passing known) (lit x bit)
  parity_first =
      of_three inverted pair rule known x t y (λ e. x_t (sym e)) (λ e. x_y (sym e)) y_t (λ v. second_of (v t) (v x) (v y))
      (λ d h. elim (which d h) [ inl e ↦ inr (inl e) | inr rest ↦ elim rest [ inl e ↦ inl e | inr e ↦ inr (inr e) ] ])
      has_x has_t has_y says_x says_t says_y bit

  pub parity_second : IsTrue (has_y bit || sum_has has_t has_x (plus inverted bit)) ↔ Forces pair (passing known) (lit y bit)
  parity_second =
      of_three inverted pair rule known y t x (λ e. y_t (sym e)) x_y x_t (λ v. third_of (v t) (v x) (v y))
      (λ d h. elim (which d h) [ inl e ↦ inr (inl e) | inr rest ↦ elim rest [ inl e ↦ inr (inr e) | inr e ↦ inl e ] ])
      has_y has_t has_x says_y says_t says_x bit
