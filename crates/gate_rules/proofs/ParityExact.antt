-- The literals that the rule gives at a parity gate are what it forces.
use Rattle.std.proofs.Common.{◌≡◌, ◌≢◌, ◌⊎◌, ◌↔◌, ℕ, zero, suc, ◌+◌, ◌<◌, ◌≤◌, ◌&&◌, ◌||◌, Bool, true, false, not, cond, eqb, List, [], ◌∷◌, length, map, get_or, arith, inl, inr, sym, subst, refl, ap, ◌∙◌}
use Rattle.std.specs.List.{Contains, AllPairs, count_by}
use Rattle.std.proofs.lemmas.Bool.{cases_Bool, cases_eq, cases_lt, eqb-true, eqb-false, eq-eqb, ne_eqb, leb-true, le-leb, ltb-true, lt-ltb, true≢false, and_parts, and_from, or_cases, or_left, or_right}
use Rattle.std.proofs.lemmas.List.{get_or_default}
use Rattle.std.proofs.lemmas.List.Kept.{AllPairs-cons}
use mathlib.Core.Bool.{beq}
use Rattle.sr_model.specs.declared.cells.Cell.{Cell}
use Rattle.sr_model.specs.declared.cells.Lit.{Lit}
use Rattle.sr_model.specs.Netlist.{Instance, cells_of}
use Rattle.sr_model.specs.Closure.{Forces, passing, lit}
use Rattle.sr_model.specs.XorLike.{plus, parity, is_odd, IsXorLike}
use Rattle.sr_model.proofs.lemmas.Members.{Contains-here, Contains-there, Contains-cases, Contains-map, map-member, All-from_Contains, list_all-at, list_all-fails}
use Rattle.sr_model.proofs.lemmas.Cells.{cell_eq, cell_cases, cell_eq-itself}
use Rattle.sr_model.proofs.lemmas.ParityRules.{target_odd, pin_odd, AreOdd, is_open, CountsForce, count_without, without, xor_counts, XorForces, is_odd-member, xor_even-exact, xor_odd-exact, both_known, known_bit, no_others, xor_lone-exact}
use Rattle.unroll.specs.declared.words.PinWord.{PinWord}
use Rattle.unroll.specs.Bits.{is_set, word_for}
use Rattle.gate_rules.specs.Lanes.{words_at_place, IsLane}
use Rattle.gate_rules.specs.OddPlaces.{has_none, has_both, counts, counting, counted, is_lone, ones_parity, others_known, others_both, others_value, settles, place_bit, parity_bit}
use Rattle.gate_rules.proofs.Counting.{count_same, counting_ind, counting_below, counting_counts, counting_has}

beq_is : (a b : Bool) → beq a b ≡ true → a ≡ b
beq_is true true e = refl
beq_is true false e = cc
beq_is false true e = cc
beq_is false false e = refl

is_beq : (a b : Bool) → a ≡ b → beq a b ≡ true
is_beq true true e = refl
is_beq true false e = cc
is_beq false true e = cc
is_beq false false e = refl

-- which of the three forms the literal has
place_even : (inverted : Bool) (lane : ℕ) (pins : List PinWord) (counts lone : Bool) (pin : PinWord) (bit : Bool) → counts ≡ false
    → place_bit inverted lane pins counts lone pin bit ≡ is_set (word_for bit pin) lane
place_even inverted lane pins counts lone pin bit e = ap (λ b. place_bit inverted lane pins b lone pin bit) e

place_lone : (inverted : Bool) (lane : ℕ) (pins : List PinWord) (counts lone : Bool) (pin : PinWord) (bit : Bool) → counts ≡ true → lone ≡ true
    → place_bit inverted lane pins counts lone pin bit ≡ beq inverted bit
place_lone inverted lane pins counts lone pin bit e f =
    ap (λ b. place_bit inverted lane pins b lone pin bit) e ∙ ap (λ b. place_bit inverted lane pins true b pin bit) f

place_settled : (inverted : Bool) (lane : ℕ) (pins : List PinWord) (counts lone : Bool) (pin : PinWord) (bit : Bool) → counts ≡ true → lone ≡ false
    → place_bit inverted lane pins counts lone pin bit ≡ (is_set (word_for bit pin) lane || settles inverted lane pins pin bit)
place_settled inverted lane pins counts lone pin bit e f =
    ap (λ b. place_bit inverted lane pins b lone pin bit) e ∙ ap (λ b. place_bit inverted lane pins true b pin bit) f

module _ (inverted : Bool) (target : ℕ) (odd : List Bool) (i : Instance) (cells : List Cell) (known : Lit → Bool) (lane : ℕ) (words : List PinWord)
    (xor_like : IsXorLike inverted i) (at : IsLane i cells target known lane words)
    (odd_is : (j : ℕ) (d : Cell) → j < length cells → j ≢ target → get_or odd j false ≡ is_odd (get_or cells j d) i.pins) (d : Cell) where
  target_cell : get_or cells target d ≡ i.target
  target_cell = get_or_default cells target d i.target at.target_within ∙ at.target_is

  cells_differ : (j k : ℕ) → j < length cells → k < length cells → j ≢ k → get_or cells j d ≢ get_or cells k d
  cells_differ j k hj hk other e =
      elim (cases_lt j k) [
        | inl before ↦ at.distinct j k d before hk e
        | inr after ↦ at.distinct k j d (omega arith) hj (sym e)
      ]

  apart_cells : (j k : ℕ) → j < length cells → k < length cells → j ≢ k → cell_eq (get_or cells j d) (get_or cells k d) ≡ false
  apart_cells j k hj hk other =
      elim (cell_cases (get_or cells j d) (get_or cells k d)) [
        | inl e ↦ absurd (cells_differ j k hj hk other e)
        | inr differ ↦ differ
      ]

  -- the target is no pin
  apart : Contains i.pins i.target → ⊥
  apart h =
      let found : (j : ℕ) × (j < length cells) × (j ≢ target) × (get_or cells j i.target ≡ i.target) = at.each_pin i.target h in
      cells_differ found.0 target found.1 at.target_within found.2 (get_or_default cells found.0 d i.target found.1 ∙ found.3 ∙ sym target_cell)

  is_place_odd : (j : ℕ) → j < length cells → is_odd (get_or cells j d) (cells_of i) ≡ counts target odd j
  is_place_odd j hj =
      elim (cases_eq j target) [
        | inl e ↦
            ap (λ c. is_odd c (cells_of i)) (ap (λ k. get_or cells k d) e ∙ target_cell) ∙ target_odd i apart
            ∙ sym (or_left (eqb j target) (get_or odd j false) (eq-eqb j target e))
        | inr other ↦
            pin_odd i (get_or cells j d) (subst (λ c. cell_eq c (get_or cells j d) ≡ false) target_cell (apart_cells target j at.target_within hj (λ e. other (sym e))))
            ∙ sym (odd_is j d hj other)
            ∙ sym (ap (λ b. b || get_or odd j false) (ne_eqb j target other))
      ]

  -- each cell that stands an odd number of times has a place that counts
  place_of : (c : Cell) → is_odd c (cells_of i) ≡ true → (j : ℕ) × (j < length cells) × (get_or cells j d ≡ c)
  place_of c is =
      elim (Contains-cases i.target i.pins c (is_odd-member c (cells_of i) is)) [
        | inl e ↦ (target, at.target_within, target_cell ∙ e)
        | inr pin ↦
            let found : (j : ℕ) × (j < length cells) × (j ≢ target) × (get_or cells j c ≡ c) = at.each_pin c pin in
            (found.0, found.1, get_or_default cells found.0 d c found.1 ∙ found.3)
      ]

  -- the cells at the places that count
  abbrev odds : List Cell
  odds = map (λ j. get_or cells j d) (counting target odd (length words))

  place_within : (j : ℕ) → Contains (counting target odd (length words)) j → j < length cells
  place_within j h = let b : j < length words = counting_below target odd (length words) j h in omega (arith, at.size)

  odds_once : (n : ℕ) → n ≤ length cells → AllPairs (λ a b. a ≢ b) (map (λ j. get_or cells j d) (counting target odd n))
  odds_once zero h = λ j k x lt within. omega arith
  odds_once (suc n) h =
      let rest : AllPairs (λ a b. a ≢ b) (map (λ j. get_or cells j d) (counting target odd n)) = odds_once n (omega arith) in
      counting_ind target odd (λ js. AllPairs (λ a b. a ≢ b) (map (λ j. get_or cells j d) js)) n rest
      (λ e. AllPairs-cons (λ a b. a ≢ b) (get_or cells n d) (map (λ j. get_or cells j d) (counting target odd n))
      (All-from_Contains (λ c. get_or cells n d ≢ c) (map (λ j. get_or cells j d) (counting target odd n)) (λ c member same.
      let found : (j : ℕ) × Contains (counting target odd n) j × (get_or cells j d ≡ c) = map-member (λ j. get_or cells j d) (counting target odd n) c member in
      let below : found.0 < n = counting_below target odd n found.0 found.1 in
      cells_differ found.0 n (omega arith) (omega arith) (λ e. omega arith) (found.2 ∙ sym same)))
      rest)

  are_odd : AreOdd i odds
  are_odd = record {
    once = odds_once (length words) (omega (arith, at.size));
    odd = λ c member.
        let found : (j : ℕ) × Contains (counting target odd (length words)) j × (get_or cells j d ≡ c) =
        map-member (λ j. get_or cells j d) (counting target odd (length words)) c member in
        ap (λ x. is_odd x (cells_of i)) (sym found.2) ∙ is_place_odd found.0 (place_within found.0 found.1) ∙ counting_counts target odd (length words) found.0 found.1;
    each = λ c is.
        let found : (j : ℕ) × (j < length cells) × (get_or cells j d ≡ c) = place_of c is in
        let count : counts target odd found.0 ≡ true = sym (is_place_odd found.0 found.1) ∙ ap (λ x. is_odd x (cells_of i)) found.2 ∙ is in
        let within : found.0 < length words = omega (arith, at.size, found.1) in
        subst (Contains odds) found.2
        (Contains-map (λ j. get_or cells j d) (counting target odd (length words)) found.0 (counting_has target odd (length words) found.0 within count));
  }

  none_is : (j : ℕ) → j < length cells → has_none lane (words_at_place words j) ≡ is_open known (get_or cells j d)
  none_is j hj =
      ap (λ b. not (b || is_set (word_for true (words_at_place words j)) lane)) (at.says j d false hj)
      ∙ ap (λ b. not (known (lit (get_or cells j d) false) || b)) (at.says j d true hj)

  both_is : (j : ℕ) → j < length cells → has_both lane (words_at_place words j) ≡ both_known known (get_or cells j d)
  both_is j hj =
      ap (λ b. b && is_set (word_for true (words_at_place words j)) lane) (at.says j d false hj)
      ∙ ap (λ b. known (lit (get_or cells j d) false) && b) (at.says j d true hj)

  parity_is : (js : List ℕ) → ((j : ℕ) → Contains js j → j < length cells) → ones_parity lane (map (words_at_place words) js) ≡ parity (known_bit known) (map (λ j. get_or cells j d) js)
  parity_is [] within = refl
  parity_is (j ∷ js) within =
      ap (λ b. plus b (ones_parity lane (map (words_at_place words) js))) (at.says j d true (within j (Contains-here j js)))
      ∙ ap (plus (known (lit (get_or cells j d) true))) (parity_is js (λ k h. within k (Contains-there j js k h)))

  module _ (j : ℕ) (hj : j < length cells) (bit : Bool) where
    nones_are : count_by (has_none lane) (counted target odd words) ≡ count_by (is_open known) odds
    nones_are = count_same (has_none lane) (is_open known) (words_at_place words) (λ j. get_or cells j d) (counting target odd (length words)) (λ k h. none_is k (place_within k h))

    boths_are : count_by (has_both lane) (counted target odd words) ≡ count_by (both_known known) odds
    boths_are = count_same (has_both lane) (both_known known) (words_at_place words) (λ j. get_or cells j d) (counting target odd (length words)) (λ k h. both_is k (place_within k h))

    value_is : others_value inverted lane (counted target odd words) (words_at_place words j)
        ≡ plus inverted (plus (known_bit known (get_or cells j d)) (parity (known_bit known) odds))
    value_is =
        ap (λ b. plus inverted (plus b (ones_parity lane (counted target odd words)))) (at.says j d true hj)
        ∙ ap (λ b. plus inverted (plus (known (lit (get_or cells j d) true)) b)) (parity_is (counting target odd (length words)) place_within)

    module _ (count : counts target odd j ≡ true) where
      is_odd_cell : is_odd (get_or cells j d) (cells_of i) ≡ true
      is_odd_cell = is_place_odd j hj ∙ count

      member : Contains odds (get_or cells j d)
      member = are_odd.each (get_or cells j d) is_odd_cell

      settles_counts : settles inverted lane (counted target odd words) (words_at_place words j) bit ≡ true
          → CountsForce inverted odds known (get_or cells j d) bit
      settles_counts e =
          let c : Cell = get_or cells j d in
          let pins : List PinWord = counted target odd words in
          let pin : PinWord = words_at_place words j in
          let parts : (others_known lane pins pin ≡ true) × ((others_both lane pins pin || beq (others_value inverted lane pins pin) bit) ≡ true) =
          and_parts (others_known lane pins pin) (others_both lane pins pin || beq (others_value inverted lane pins pin) bit) e in
          let few : count_by (has_none lane) pins ≤ cond (has_none lane pin) 1 0 = leb-true (count_by (has_none lane) pins) (cond (has_none lane pin) 1 0) parts.0 in
          let own : cond {A = ℕ} (has_none lane pin) 1 0 ≡ cond (is_open known c) 1 0 = ap (λ b. cond {A = ℕ} b 1 0) (none_is j hj) in
          let same : count_by (has_none lane) pins ≡ count_by (is_open known) odds = nones_are in
          let with_own : count_by (is_open known) odds ≡ cond (is_open known c) 1 0 + count_by (is_open known) (without c odds) =
          count_without (is_open known) odds are_odd.once c member in (
            omega arith,
            elim (or_cases (others_both lane pins pin) (beq (others_value inverted lane pins pin) bit) parts.1) [
              | inl both ↦
                  let some : cond (has_both lane pin) 1 0 < count_by (has_both lane) pins = ltb-true (cond (has_both lane pin) 1 0) (count_by (has_both lane) pins) both in
                  let own_both : cond {A = ℕ} (has_both lane pin) 1 0 ≡ cond (both_known known c) 1 0 = ap (λ b. cond {A = ℕ} b 1 0) (both_is j hj) in
                  let same_both : count_by (has_both lane) pins ≡ count_by (both_known known) odds = boths_are in
                  inl (omega arith)
              | inr value ↦ inr (sym value_is ∙ beq_is (others_value inverted lane pins pin) bit value)
            ],
          )

      counts_settle : CountsForce inverted odds known (get_or cells j d) bit
          → settles inverted lane (counted target odd words) (words_at_place words j) bit ≡ true
      counts_settle h =
          let c : Cell = get_or cells j d in
          let pins : List PinWord = counted target odd words in
          let pin : PinWord = words_at_place words j in
          let own : cond {A = ℕ} (has_none lane pin) 1 0 ≡ cond (is_open known c) 1 0 = ap (λ b. cond {A = ℕ} b 1 0) (none_is j hj) in
          let same : count_by (has_none lane) pins ≡ count_by (is_open known) odds = nones_are in
          let exact : count_by (is_open known) odds ≡ cond (is_open known c) 1 0 = h.0 in
          let few : count_by (has_none lane) pins ≤ cond (has_none lane pin) 1 0 = omega arith in
          and_from (others_known lane pins pin) (others_both lane pins pin || beq (others_value inverted lane pins pin) bit)
          (le-leb (count_by (has_none lane) pins) (cond (has_none lane pin) 1 0) few)
          (elim h.1 [
            | inl less ↦
                let own_both : cond {A = ℕ} (has_both lane pin) 1 0 ≡ cond (both_known known c) 1 0 = ap (λ b. cond {A = ℕ} b 1 0) (both_is j hj) in
                let same_both : count_by (has_both lane) pins ≡ count_by (both_known known) odds = boths_are in
                let less_both : cond (both_known known c) 1 0 < count_by (both_known known) odds = less in
                let some : cond (has_both lane pin) 1 0 < count_by (has_both lane) pins = omega arith in
                or_left (others_both lane pins pin) (beq (others_value inverted lane pins pin) bit) (lt-ltb (cond (has_both lane pin) 1 0) (count_by (has_both lane) pins) some)
            | inr e ↦ or_right (others_both lane pins pin) (beq (others_value inverted lane pins pin) bit) (is_beq (others_value inverted lane pins pin) bit (value_is ∙ e))
          ])

      -- another cell that counts, where some place but the target's does
      another : is_lone target odd (length words) ≡ false → (c : Cell) × (is_odd c (cells_of i) ≡ true) × (cell_eq c (get_or cells j d) ≡ false)
      another e =
          elim (cases_eq j target) [
            | inl same ↦
                let found : (k : ℕ) × Contains (counting target odd (length words)) k × (eqb k target ≡ false) =
                list_all-fails (λ k. eqb k target) (counting target odd (length words)) e in
                let within : found.0 < length cells = place_within found.0 found.1 in (
                  get_or cells found.0 d,
                  is_place_odd found.0 within ∙ counting_counts target odd (length words) found.0 found.1,
                  apart_cells found.0 j within hj (λ k. eqb-false found.0 target found.2 (k ∙ same)),
                )
            | inr other ↦ (
              get_or cells target d,
              is_place_odd target at.target_within ∙ or_left (eqb target target) (get_or odd target false) (eq-eqb target target refl),
              apart_cells target j at.target_within hj (λ e. other (sym e)),
            )
          ]

      settled : is_lone target odd (length words) ≡ false
          → ((is_set (word_for bit (words_at_place words j)) lane || settles inverted lane (counted target odd words) (words_at_place words j) bit) ≡ true) ↔ Forces i (passing known) (lit (get_or cells j d) bit)
      settled e =
          let l : Lit = lit (get_or cells j d) bit in
          let own : Bool = is_set (word_for bit (words_at_place words j)) lane in
          let others : Bool = settles inverted lane (counted target odd words) (words_at_place words j) bit in
          let x : (c : Cell) × (is_odd c (cells_of i) ≡ true) × (cell_eq c (get_or cells j d) ≡ false) = another e in
          let exact : Forces i (passing known) l ↔ ((known l ≡ true) ⊎ XorForces inverted i known l) = xor_odd-exact inverted i xor_like known l x.0 is_odd_cell x.1 x.2 in
          let choice : XorForces inverted i known l ↔ CountsForce inverted odds known (get_or cells j d) bit = xor_counts inverted i known l odds are_odd member in (
            λ h. elim (or_cases own others h) [
              | inl here ↦ exact.1 (inl (sym (at.says j d bit hj) ∙ here))
              | inr given ↦ exact.1 (inr (choice.1 (settles_counts given)))
            ],
            λ f. elim (exact.0 f) [
              | inl holds ↦ or_left own others (at.says j d bit hj ∙ holds)
              | inr given ↦ or_right own others (counts_settle (choice.0 given))
            ],
          )

      lone_cell : is_lone target odd (length words) ≡ true → (beq inverted bit ≡ true) ↔ Forces i (passing known) (lit (get_or cells j d) bit)
      lone_cell e =
          let l : Lit = lit (get_or cells j d) bit in
          let is_target : (k : ℕ) → k < length cells → counts target odd k ≡ true → k ≡ target = λ k hk count_k.
          eqb-true k target (list_all-at (λ k. eqb k target) (counting target odd (length words)) e k (counting_has target odd (length words) k (omega (arith, at.size)) count_k)) in
          let here : j ≡ target = is_target j hj count in
          let lone : (c : Cell) → is_odd c (cells_of i) ≡ true → cell_eq c (get_or cells j d) ≡ false → ⊥ = λ c is differ.
          let found : (k : ℕ) × (k < length cells) × (get_or cells k d ≡ c) = place_of c is in
          let there : found.0 ≡ target = is_target found.0 found.1 (sym (is_place_odd found.0 found.1) ∙ ap (λ x. is_odd x (cells_of i)) found.2 ∙ is) in
          let same : get_or cells j d ≡ c = ap (λ k. get_or cells k d) (here ∙ sym there) ∙ found.2 in
          true≢false (sym (cell_eq-itself c) ∙ ap (cell_eq c) (sym same) ∙ differ) in
          let exact : Forces i (passing known) l ↔ (bit ≡ inverted) = xor_lone-exact inverted i xor_like known l is_odd_cell (no_others i (get_or cells j d) lone) in
          (λ h. exact.1 (sym (beq_is inverted bit h)), λ f. is_beq inverted bit (sym (exact.0 f)))

    even_cell : counts target odd j ≡ false → (is_set (word_for bit (words_at_place words j)) lane ≡ true) ↔ Forces i (passing known) (lit (get_or cells j d) bit)
    even_cell even =
        let l : Lit = lit (get_or cells j d) bit in
        let other : j ≢ target = λ e. true≢false (sym (or_left (eqb j target) (get_or odd j false) (eq-eqb j target e)) ∙ even) in
        let on_cells : Contains (cells_of i) (get_or cells j d) = Contains-there i.target i.pins (get_or cells j d) (at.pins j d hj other) in
        let exact : Forces i (passing known) l ↔ (known l ≡ true) = xor_even-exact inverted i xor_like known apart l on_cells (is_place_odd j hj ∙ even) in
        (λ h. exact.1 (sym (at.says j d bit hj) ∙ h), λ f. at.says j d bit hj ∙ exact.0 f)

    pub parity_exact : (parity_bit inverted target odd words lane j bit ≡ true) ↔ Forces i (passing known) (lit (get_or cells j d) bit)
    parity_exact =
        let pins : List PinWord = counted target odd words in
        let pin : PinWord = words_at_place words j in
        let count : Bool = counts target odd j in
        let lone : Bool = is_lone target odd (length words) in
        elim (cases_Bool (counts target odd j)) [
          | inr even ↦
              let form : parity_bit inverted target odd words lane j bit ≡ is_set (word_for bit pin) lane = place_even inverted lane pins count lone pin bit even in
              (λ h. (even_cell even).0 (sym form ∙ h), λ f. form ∙ (even_cell even).1 f)
          | inl is ↦ elim (cases_Bool (is_lone target odd (length words))) [
            | inl e ↦
                let form : parity_bit inverted target odd words lane j bit ≡ beq inverted bit = place_lone inverted lane pins count lone pin bit is e in
                (λ h. (lone_cell is e).0 (sym form ∙ h), λ f. form ∙ (lone_cell is e).1 f)
            | inr e ↦
                let form : parity_bit inverted target odd words lane j bit ≡ (is_set (word_for bit pin) lane || settles inverted lane pins pin bit) = place_settled inverted lane pins count lone pin bit is e in
                (λ h. (settled is e).0 (sym form ∙ h), λ f. form ∙ (settled is e).1 f)
          ]
        ]
