-- What is counted of an and-like gate's words in one of 64 cycles says what the gate forces there.
use Rattle.std.proofs.Common.{ℕ, ◌≡◌, ◌≢◌, ◌<◌, ◌≤◌, ◌⊎◌, ◌↔◌, ◌&&◌, ◌||◌, Bool, true, false, not, List, length, get_or, inl, inr, sym, subst, ap, ◌∙◌, arith}
use Rattle.std.specs.Prelude.{IsTrue}
use Rattle.std.specs.List.{Contains}
use Rattle.std.proofs.lemmas.Bool.{cases_Bool, cases_eq, cases_order, or_cases, or_left, or_right, and_parts, and_from, not-true, not_from_false, true≢false}
use Rattle.std.proofs.lemmas.List.{get_or_default}
use Rattle.sr_model.specs.declared.cells.Cell.{Cell}
use Rattle.sr_model.specs.declared.cells.Lit.{Lit}
use Rattle.sr_model.specs.AndLike.{IsAndLike}
use Rattle.sr_model.specs.Netlist.{Instance}
use Rattle.sr_model.specs.Closure.{Forces, passing, lit}
use Rattle.sr_model.proofs.lemmas.Cells.{cell_eq, cell_cases, cell_eq-itself}
use Rattle.sr_model.proofs.lemmas.AndRules.{bit_cases, target_t-exact, target_other-exact, pin_p-exact, pin_other-exact}
use Rattle.unroll.specs.declared.words.PinWord.{PinWord}
use Rattle.unroll.specs.Bits.{is_set, word_for}
use Rattle.gate_rules.specs.Lanes.{IsLane}
use Rattle.gate_rules.specs.AndLikeBits.{has_literal, ArePinBits}

-- a bit that says that a literal is known or that something holds, where the literal is forced in these cases alone
pub known_or_new : (bit has new valid is_known : Bool) (F New : Type 0) → bit ≡ ((has || new) && valid) → valid ≡ true → has ≡ is_known
    → F ↔ ((is_known ≡ true) ⊎ New) → (new ≡ true) ↔ New → IsTrue bit ↔ F
known_or_new bit has new valid is_known F New is is_valid says exact follows = (
  λ set. exact.1 (elim (or_cases has new (and_parts (has || new) valid (sym is ∙ set)).0) [ inl h ↦ inl (sym says ∙ h) | inr n ↦ inr (follows.0 n) ]),
  λ f. is ∙ and_from (has || new) valid (elim (exact.0 f) [ inl k ↦ or_left has new (says ∙ k) | inr n ↦ or_right has new (follows.1 n) ]) is_valid,
)

module _ (p t : Bool) (target : ℕ) (words : List PinWord) (lane : ℕ) (i : Instance) (cells : List Cell) (known : Lit → Bool) (and_like : IsAndLike p t i)
    (two_cells : 2 ≤ length cells) (at : IsLane i cells target known lane words) where
  places_apart : (j k : ℕ) (d : Cell) → j < length cells → k < length cells → j ≢ k → get_or cells j d ≡ get_or cells k d → ⊥
  places_apart j k d hj hk other same =
      elim (cases_order j k) [
        | inl e ↦ other e
        | inr differ ↦ elim differ [ inl less ↦ at.distinct j k d less hk same | inr more ↦ at.distinct k j d more hj (sym same) ]
      ]

  apart : Contains i.pins i.target → ⊥
  apart h =
      let place : (j : ℕ) × (j < length cells) × (j ≢ target) × (get_or cells j i.target ≡ i.target) = at.each_pin i.target h in
      places_apart place.0 target i.target place.1 at.target_within place.2 (place.3 ∙ sym at.target_is)

  target_cell : (d : Cell) → get_or cells target d ≡ i.target
  target_cell d = get_or_default cells target d i.target at.target_within ∙ at.target_is

  target_says : (bit : Bool) → has_literal words lane bit target ≡ known (lit i.target bit)
  target_says bit = at.says target i.target bit at.target_within ∙ ap (λ c. known (lit c bit)) at.target_is

  -- each place but the target's has a pin, and there is one
  pin_cell : (j : ℕ) (d : Cell) → j < length cells → j ≢ target → Contains i.pins (get_or cells j d)
  pin_cell j d h other = at.pins j d h other

  one_pin : (c : Cell) × Contains i.pins c
  one_pin =
      elim (cases_eq target 0) [
        | inl first ↦ (get_or cells 1 i.target, pin_cell 1 i.target (omega arith) (λ e. absurd (omega arith)))
        | inr later ↦ (get_or cells 0 i.target, pin_cell 0 i.target (omega arith) (λ e. later (sym e)))
      ]

  -- the literal is known of a pin where it is known at its place
  known_at : (c : Cell) → Contains i.pins c → (bit : Bool) → (j : ℕ) × (j < length cells) × (j ≢ target) × (get_or cells j c ≡ c) × (has_literal words lane bit j ≡ known (lit c bit))
  known_at c h bit =
      let place : (j : ℕ) × (j < length cells) × (j ≢ target) × (get_or cells j c ≡ c) = at.each_pin c h in
      (place.0, place.1, place.2, place.3, at.says place.0 c bit place.1 ∙ ap (λ x. known (lit x bit)) place.3)

  module _ (lacking lacking_two other valid : Bool) (counted : ArePinBits (has_literal words lane p) (has_literal words lane (not p)) target (length words) lacking lacking_two other)
      (is_valid : valid ≡ true) where
    all_pins : (not lacking ≡ true) ↔ ((c : Cell) → Contains i.pins c → known (lit c p) ≡ true)
    all_pins = (
      λ none c h.
          let place = known_at c h p in
          sym place.4 ∙ counted.none_lacks (not-true lacking none) place.0 (omega (arith, place.1)) place.2,
      λ all. elim (cases_Bool lacking) [
        | inl one ↦
            let place : (j : ℕ) × (j < length words) × (j ≢ target) × (has_literal words lane p j ≡ false) = counted.one_lacks one in
            let within : place.0 < length cells = omega (arith, place.1) in
            absurd (true≢false (sym (at.says place.0 i.target p within ∙ all (get_or cells place.0 i.target) (pin_cell place.0 i.target within place.2)) ∙ place.3))
        | inr none ↦ not_from_false lacking none
      ],
    )

    some_pin : (other ≡ true) ↔ ((c : Cell) × Contains i.pins c × (known (lit c (not p)) ≡ true))
    some_pin = (
      λ one.
          let place : (j : ℕ) × (j < length words) × (j ≢ target) × (has_literal words lane (not p) j ≡ true) = counted.one_other one in
          let within : place.0 < length cells = omega (arith, place.1) in
          (get_or cells place.0 i.target, pin_cell place.0 i.target within place.2, sym (at.says place.0 i.target (not p) within) ∙ place.3),
      λ some. elim (cases_Bool other) [
        | inl one ↦ one
        | inr none ↦
            let place = known_at some.0 some.1 (not p) in
            absurd (true≢false (sym (place.4 ∙ some.2) ∙ counted.none_other none place.0 (omega (arith, place.1)) place.2))
      ],
    )

    -- the target's words
    pub target_forced : (word : PinWord) → is_set (word_for t word) lane ≡ ((has_literal words lane t target || not lacking) && valid)
        → is_set (word_for (not t) word) lane ≡ ((has_literal words lane (not t) target || other) && valid)
        → (d : Cell) (bit : Bool) → IsTrue (is_set (word_for bit word) lane) ↔ Forces i (passing known) (lit (get_or cells target d) bit)
    target_forced word own_set other_set d bit =
        let own : IsTrue (is_set (word_for t word) lane) ↔ Forces i (passing known) (lit i.target t) =
        known_or_new (is_set (word_for t word) lane) (has_literal words lane t target) (not lacking) valid (known (lit i.target t)) (Forces i (passing known) (lit i.target t))
        ((c : Cell) → Contains i.pins c → known (lit c p) ≡ true) own_set is_valid (target_says t) (target_t-exact p t i and_like known apart) all_pins in
        let opposite : IsTrue (is_set (word_for (not t) word) lane) ↔ Forces i (passing known) (lit i.target (not t)) =
        known_or_new (is_set (word_for (not t) word) lane) (has_literal words lane (not t) target) other valid (known (lit i.target (not t))) (Forces i (passing known) (lit i.target (not t)))
        ((c : Cell) × Contains i.pins c × (known (lit c (not p)) ≡ true)) other_set is_valid (target_says (not t))
        (target_other-exact p t i and_like known apart one_pin.0 one_pin.1) some_pin in
        subst (λ c. IsTrue (is_set (word_for bit word) lane) ↔ Forces i (passing known) (lit c bit)) (sym (target_cell d))
        (elim (bit_cases bit t) [
          | inl same ↦ subst (λ b. IsTrue (is_set (word_for b word) lane) ↔ Forces i (passing known) (lit i.target b)) (sym same) own
          | inr differs ↦ subst (λ b. IsTrue (is_set (word_for b word) lane) ↔ Forces i (passing known) (lit i.target b)) (sym differs) opposite
        ])

    module _ (j : ℕ) (within : j < length cells) (is_pin : j ≢ target) (d : Cell) where
      cell : Cell
      cell = get_or cells j d

      has_p : Bool
      has_p = has_literal words lane p j

      others : Bool
      others = not lacking_two && (not lacking || not has_p)

      -- each other pin has p
      others_have : others ≡ true → (c : Cell) → Contains i.pins c → cell_eq cell c ≡ false → known (lit c p) ≡ true
      unfolding others has_p cell
      others_have e c h differ =
          let place = known_at c h p in
          let parts : (not lacking_two ≡ true) × ((not lacking || not (has_literal words lane p j)) ≡ true) =
          and_parts (not lacking_two) (not lacking || not (has_literal words lane p j)) e in
          sym place.4 ∙ elim (or_cases (not lacking) (not (has_literal words lane p j)) parts.1) [
            | inl none ↦ counted.none_lacks (not-true lacking none) place.0 (omega (arith, place.1)) place.2
            | inr lacks ↦
                elim (cases_Bool (has_literal words lane p place.0)) [
                  | inl holds ↦ holds
                  | inr fails ↦
                      let same : j ≡ place.0 =
                      counted.one_alone (not-true lacking_two parts.0) j place.0 (omega arith) is_pin (not-true (has_literal words lane p j) lacks) (omega (arith, place.1)) place.2 fails in
                      let same_cell : get_or cells j d ≡ c = get_or_default cells j d c within ∙ ap (λ n. get_or cells n c) same ∙ place.3 in
                      absurd (true≢false (sym (cell_eq-itself (get_or cells j d)) ∙ ap (cell_eq (get_or cells j d)) same_cell ∙ differ))
                ]
          ]

      others_lack : ((c : Cell) → Contains i.pins c → cell_eq cell c ≡ false → known (lit c p) ≡ true) → (k : ℕ) → k < length words → k ≢ target → k ≢ j → has_literal words lane p k ≡ true
      unfolding cell
      others_lack all k h pin differs =
          let k_within : k < length cells = omega arith in
          at.says k d p k_within ∙ all (get_or cells k d) (pin_cell k d k_within pin) (elim (cell_cases (get_or cells j d) (get_or cells k d)) [
            | inl same ↦ absurd (places_apart j k d within k_within (λ e. differs (sym e)) same)
            | inr apart_cells ↦ apart_cells
          ])

      from_others : ((c : Cell) → Contains i.pins c → cell_eq cell c ≡ false → known (lit c p) ≡ true) → others ≡ true
      unfolding others has_p
      from_others all =
          and_from (not lacking_two) (not lacking || not (has_literal words lane p j)) (elim (cases_Bool lacking_two) [
            | inl two ↦
                let w : (m k : ℕ) × (m < length words) × (m ≢ target) × (has_literal words lane p m ≡ false) × (k < length words) × (k ≢ target) × (has_literal words lane p k ≡ false) × (m ≢ k) =
                counted.two_lack two in
                elim (cases_eq w.0 j) [
                  | inl same ↦ absurd (true≢false (sym (others_lack all w.1 w.5 w.6 (λ e. w.8 (same ∙ sym e))) ∙ w.7))
                  | inr differs ↦ absurd (true≢false (sym (others_lack all w.0 w.2 w.3 differs) ∙ w.4))
                ]
            | inr none ↦ not_from_false lacking_two none
          ])
          (elim (cases_Bool lacking) [
            | inl one ↦
                let w : (k : ℕ) × (k < length words) × (k ≢ target) × (has_literal words lane p k ≡ false) = counted.one_lacks one in
                or_right (not lacking) (not (has_literal words lane p j)) (elim (cases_eq w.0 j) [
                  | inl same ↦ not_from_false (has_literal words lane p j) (ap (has_literal words lane p) (sym same) ∙ w.3)
                  | inr differs ↦ absurd (true≢false (sym (others_lack all w.0 w.1 w.2 differs) ∙ w.3))
                ])
            | inr none ↦ or_left (not lacking) (not (has_literal words lane p j)) (not_from_false lacking none)
          ])

      others_known : Type 0
      others_known = (known (lit i.target (not t)) ≡ true) × ((c : Cell) → Contains i.pins c → cell_eq cell c ≡ false → known (lit c p) ≡ true)

      pin_follows : ((has_literal words lane (not t) target && others) ≡ true) ↔ others_known
      unfolding others_known
      pin_follows = (
        λ e.
            let parts : (has_literal words lane (not t) target ≡ true) × (others ≡ true) = and_parts (has_literal words lane (not t) target) others e in
            (sym (target_says (not t)) ∙ parts.0, others_have parts.1),
        λ all. and_from (has_literal words lane (not t) target) others (target_says (not t) ∙ all.0) (from_others all.1),
      )

      -- a pin's words
      pub pin_forced : (word : PinWord) → is_set (word_for p word) lane ≡ ((has_literal words lane p j || has_literal words lane t target) && valid)
          → is_set (word_for (not p) word) lane
          ≡ ((has_literal words lane (not p) j || (has_literal words lane (not t) target && (not lacking_two && (not lacking || not (has_literal words lane p j))))) && valid)
          → (bit : Bool) → IsTrue (is_set (word_for bit word) lane) ↔ Forces i (passing known) (lit (get_or cells j d) bit)
      unfolding cell others has_p others_known
      pin_forced word own_set other_set bit =
          let pin : Contains i.pins (get_or cells j d) = pin_cell j d within is_pin in
          let own : IsTrue (is_set (word_for p word) lane) ↔ Forces i (passing known) (lit (get_or cells j d) p) =
          known_or_new (is_set (word_for p word) lane) (has_literal words lane p j) (has_literal words lane t target) valid (known (lit (get_or cells j d) p))
          (Forces i (passing known) (lit (get_or cells j d) p)) (known (lit i.target t) ≡ true) own_set is_valid (at.says j d p within)
          (pin_p-exact p t i and_like known apart (get_or cells j d) pin) (λ e. sym (target_says t) ∙ e, λ e. target_says t ∙ e) in
          let opposite : IsTrue (is_set (word_for (not p) word) lane) ↔ Forces i (passing known) (lit (get_or cells j d) (not p)) =
          known_or_new (is_set (word_for (not p) word) lane) (has_literal words lane (not p) j) (has_literal words lane (not t) target && others) valid (known (lit (get_or cells j d) (not p)))
          (Forces i (passing known) (lit (get_or cells j d) (not p))) others_known other_set is_valid (at.says j d (not p) within)
          (pin_other-exact p t i and_like known apart (get_or cells j d) pin) pin_follows in
          elim (bit_cases bit p) [
            | inl same ↦ subst (λ b. IsTrue (is_set (word_for b word) lane) ↔ Forces i (passing known) (lit (get_or cells j d) b)) (sym same) own
            | inr differs ↦ subst (λ b. IsTrue (is_set (word_for b word) lane) ↔ Forces i (passing known) (lit (get_or cells j d) b)) (sym differs) opposite
          ]
