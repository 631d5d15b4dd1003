-- What is forced at a gate whose target has the one bit t where each pin has the bit p, and the other bit elsewhere.
use Rattle.std.proofs.Common.{◌≡◌, ◌⊎◌, Bool, true, false, not, cond, List, [], ◌∷◌, map, inl, inr, sym, subst, refl, ap, ◌∙◌}
use mathlib.Core.Bool.{beq}
use Rattle.std.specs.List.{Contains, All, list_all, list_any, filter}
use Rattle.std.proofs.lemmas.Bool.{cases_Bool, true≢false, not-true, not-false, not_from_false, cond-true, cond-false}
use Rattle.std.proofs.lemmas.List.Elements.{All-contains, All-map, All-head, All-cons}
use Rattle.sr_model.specs.declared.cells.Cell.{Cell}
use Rattle.sr_model.specs.declared.cells.Lit.{Lit}
use Rattle.sr_model.specs.AndLike.{all_have, IsAndLike}
use Rattle.sr_model.specs.Gate.{value}
use Rattle.sr_model.specs.Netlist.{cell_eq, Instance, cells_of, Valuation, IsRow, Has}
use Rattle.sr_model.specs.Closure.{Forces, passing, lit}
use Rattle.sr_model.proofs.lemmas.Members.{Contains-here, Contains-there, Contains-map, All-one, filter-member, filter-passes, filter-has, list_all-at, list_all-from, list_all-fails, list_any-from, list_any-found, All-from_Contains}
use Rattle.sr_model.proofs.Rows.{cell_cases, cell_eq-true, cell_eq-itself, cell_eq-swap, put, put-at, put-other, Keeps, Keeps-itself, Keeps-put, Forces-row, row_with}

pub beq-same : (a b : Bool) → a ≡ b → beq a b ≡ true
beq-same true true e = refl
beq-same true false e = cc
beq-same false true e = cc
beq-same false false e = refl

pub beq-other : (a b : Bool) → a ≡ not b → beq a b ≡ false
beq-other true true e = cc
beq-other true false e = refl
beq-other false true e = refl
beq-other false false e = cc

pub not-itself : (a : Bool) → a ≡ not a → ⊥
not-itself true e = cc
not-itself false e = cc

pub bit_cases : (a b : Bool) → (a ≡ b) ⊎ (a ≡ not b)
bit_cases true true = inl refl
bit_cases true false = inr refl
bit_cases false true = inr refl
bit_cases false false = inl refl

module _ (p t : Bool) (i : Instance) (and_like : IsAndLike p t i) where
  all_p : (w : Valuation) → ((c : Cell) → Contains i.pins c → w c ≡ p) → value i.kind (map w i.pins) ≡ t
  all_p w all =
      let holds : all_have p w i.pins ≡ true = list_all-from (λ c. beq (w c) p) i.pins (λ c h. beq-same (w c) p (all c h)) in
      and_like w ∙ cond-true (all_have p w i.pins) t (not t) holds

  pub one_not_p : (w : Valuation) (c : Cell) → Contains i.pins c → w c ≡ not p → value i.kind (map w i.pins) ≡ not t
  one_not_p w c h other =
      elim (cases_Bool (all_have p w i.pins)) [
        | inl holds ↦ let e : beq (w c) p ≡ true = list_all-at (λ c. beq (w c) p) i.pins holds c h in absurd (true≢false (sym e ∙ beq-other (w c) p other))
        | inr fails ↦ and_like w ∙ cond-false (all_have p w i.pins) t (not t) fails
      ]

  -- a row whose target has t has p at each pin
  row_t : (v : Valuation) → IsRow i v → v i.target ≡ t → (c : Cell) → Contains i.pins c → v c ≡ p
  row_t v is_row e c h =
      elim (bit_cases (v c) p) [
        | inl same ↦ same
        | inr other ↦ absurd (not-itself t (sym e ∙ is_row ∙ one_not_p v c h other))
      ]

  module _ (known : Lit → Bool) (apart : Contains i.pins i.target → ⊥) where
    pub pin_apart : (c : Cell) → Contains i.pins c → cell_eq c i.target ≡ false
    pin_apart c h = elim (cell_cases c i.target) [ inl e ↦ absurd (apart (subst (Contains i.pins) e h)) | inr fails ↦ fails ]

    -- a target whose t is not known may become not t, and likewise a pin whose p is not known
    target_free : (r : Valuation) → known (lit i.target t) ≡ false → known (lit i.target (r i.target)) ≡ true → not t ≡ r i.target
    target_free r unknown k =
        elim (bit_cases (r i.target) t) [
          | inl e ↦ absurd (true≢false (sym k ∙ ap (λ b. known (lit i.target b)) e ∙ unknown))
          | inr e ↦ sym e
        ]

    not_p_free : (r : Valuation) (d : Cell) → known (lit d p) ≡ false → known (lit d (r d)) ≡ true → not p ≡ r d
    not_p_free r d unknown k =
        elim (bit_cases (r d) p) [
          | inl e ↦ absurd (true≢false (sym k ∙ ap (λ b. known (lit d b)) e ∙ unknown))
          | inr e ↦ sym e
        ]

    is_pin : Cell → Bool
    is_pin c = list_any (λ d. cell_eq d c) i.pins

    -- the valuation with p at each pin
    pins_p : Valuation → Valuation
    pins_p r c = cond (is_pin c) p (r c)

    pins_p_at : (r : Valuation) (c : Cell) → Contains i.pins c → pins_p r c ≡ p
    unfolding pins_p is_pin
    pins_p_at r c h = cond-true (is_pin c) p (r c) (list_any-from (λ d. cell_eq d c) i.pins c h (cell_eq-itself c))

    keeps_pins_p : (r : Valuation) → ((c : Cell) → Contains i.pins c → not (known (lit c (not p))) ≡ true) → Keeps known r (pins_p r)
    unfolding pins_p is_pin
    keeps_pins_p r none c k =
        elim (cases_Bool (is_pin c)) [
          | inl holds ↦
              let found : (d : Cell) × Contains i.pins d × (cell_eq d c ≡ true) = list_any-found (λ d. cell_eq d c) i.pins holds in
              let h : Contains i.pins c = subst (Contains i.pins) (cell_eq-true found.0 c found.2) found.1 in
              elim (bit_cases (r c) p) [
                | inl e ↦ cond-true (is_pin c) p (r c) holds ∙ sym e
                | inr e ↦ absurd (true≢false (sym k ∙ ap (λ b. known (lit c b)) e ∙ not-true (known (lit c (not p))) (none c h)))
              ]
          | inr fails ↦ cond-false (is_pin c) p (r c) fails
        ]

    -- the target has t, forced: each pin's p is known
    pub target_t : Forces i (passing known) (lit i.target t) → known (lit i.target t) ≡ false → (c : Cell) → Contains i.pins c → known (lit c p) ≡ true
    target_t f new c h =
        elim (cases_Bool (known (lit c p))) [
          | inl holds ↦ holds
          | inr unknown ↦
              let row_target : f.row i.target ≡ t = Forces-row known i (lit i.target t) f f.row f.is_row (Keeps-itself known f.row) in
              let row_pin : f.row c ≡ p = row_t f.row f.is_row row_target c h in
              let w : Valuation = put f.row c (not p) in
              let keeps_w : Keeps known f.row w = Keeps-put known f.row f.row c (not p) (Keeps-itself known f.row)
              (λ k. absurd (true≢false (sym k ∙ ap (λ b. known (lit c b)) row_pin ∙ unknown))) in
              let v : Valuation = put w i.target (not t) in
              let keeps_v : Keeps known f.row v = Keeps-put known f.row w i.target (not t) keeps_w
              (λ k. absurd (true≢false (sym k ∙ ap (λ b. known (lit i.target b)) row_target ∙ new))) in
              let is_row : IsRow i v = row_with i apart w (not t) (sym (one_not_p w c h (put-at f.row c (not p)))) in
              let e : v i.target ≡ t = Forces-row known i (lit i.target t) f v is_row keeps_v in
              absurd (not-itself t (sym e ∙ put-at w i.target (not t)))
        ]

    -- the target has not t, forced: some pin's not p is known
    pub target_other : Forces i (passing known) (lit i.target (not t)) → known (lit i.target (not t)) ≡ false
        → (c : Cell) × Contains i.pins c × (known (lit c (not p)) ≡ true)
    target_other f new =
        elim (cases_Bool (list_all (λ c. not (known (lit c (not p)))) i.pins)) [
          | inl none ↦
              let row_target : f.row i.target ≡ not t = Forces-row known i (lit i.target (not t)) f f.row f.is_row (Keeps-itself known f.row) in
              let w : Valuation = pins_p f.row in
              let v : Valuation = put w i.target t in
              let keeps_w : Keeps known f.row w = keeps_pins_p f.row (list_all-at (λ c. not (known (lit c (not p)))) i.pins none) in
              let keeps_v : Keeps known f.row v = Keeps-put known f.row w i.target t keeps_w
              (λ k. absurd (true≢false (sym k ∙ ap (λ b. known (lit i.target b)) row_target ∙ new))) in
              let is_row : IsRow i v = row_with i apart w t (sym (all_p w (pins_p_at f.row))) in
              let e : v i.target ≡ not t = Forces-row known i (lit i.target (not t)) f v is_row keeps_v in
              absurd (not-itself t (sym (put-at w i.target t) ∙ e))
          | inr some ↦
              let found : (c : Cell) × Contains i.pins c × (not (known (lit c (not p))) ≡ false) = list_all-fails (λ c. not (known (lit c (not p)))) i.pins some in
              (found.0, found.1, not-false (known (lit found.0 (not p))) found.2)
        ]

    -- a pin has p, forced: the target's t is known
    pub pin_p : (c : Cell) → Contains i.pins c → Forces i (passing known) (lit c p) → known (lit c p) ≡ false → known (lit i.target t) ≡ true
    pin_p c h f new =
        elim (cases_Bool (known (lit i.target t))) [
          | inl holds ↦ holds
          | inr unknown ↦
              let row_pin : f.row c ≡ p = Forces-row known i (lit c p) f f.row f.is_row (Keeps-itself known f.row) in
              let w : Valuation = put f.row c (not p) in
              let keeps_w : Keeps known f.row w = Keeps-put known f.row f.row c (not p) (Keeps-itself known f.row)
              (λ k. absurd (true≢false (sym k ∙ ap (λ b. known (lit c b)) row_pin ∙ new))) in
              let v : Valuation = put w i.target (not t) in
              let keeps_v : Keeps known f.row v = Keeps-put known f.row w i.target (not t) keeps_w (target_free f.row unknown) in
              let is_row : IsRow i v = row_with i apart w (not t) (sym (one_not_p w c h (put-at f.row c (not p)))) in
              let e : v c ≡ p = Forces-row known i (lit c p) f v is_row keeps_v in
              let e2 : v c ≡ not p = put-other w i.target (not t) c (pin_apart c h) ∙ put-at f.row c (not p) in
              absurd (not-itself p (sym e ∙ e2))
        ]

    -- a pin has not p, forced: the target's not t is known
    pub pin_other : (c : Cell) → Contains i.pins c → Forces i (passing known) (lit c (not p)) → known (lit c (not p)) ≡ false → known (lit i.target (not t)) ≡ true
    pin_other c h f new =
        elim (cases_Bool (known (lit i.target (not t)))) [
          | inl holds ↦ holds
          | inr unknown ↦
              let row_pin : f.row c ≡ not p = Forces-row known i (lit c (not p)) f f.row f.is_row (Keeps-itself known f.row) in
              let row_target : f.row i.target ≡ not t = f.is_row ∙ one_not_p f.row c h row_pin in
              let w : Valuation = put f.row c p in
              let keeps_w : Keeps known f.row w = Keeps-put known f.row f.row c p (Keeps-itself known f.row)
              (λ k. absurd (true≢false (sym k ∙ ap (λ b. known (lit c b)) row_pin ∙ new))) in
              let bit : Bool = value i.kind (map w i.pins) in
              let v : Valuation = put w i.target bit in
              let keeps_v : Keeps known f.row v = Keeps-put known f.row w i.target bit keeps_w
              (λ k. absurd (true≢false (sym k ∙ ap (λ b. known (lit i.target b)) row_target ∙ unknown))) in
              let is_row : IsRow i v = row_with i apart w bit refl in
              let e : v c ≡ not p = Forces-row known i (lit c (not p)) f v is_row keeps_v in
              let e2 : v c ≡ p = put-other w i.target bit c (pin_apart c h) ∙ put-at f.row c p in
              absurd (not-itself p (sym e2 ∙ e))
        ]

    -- and each other pin's p is
    pub pin_other-rest : (c : Cell) → Contains i.pins c → Forces i (passing known) (lit c (not p)) → known (lit c (not p)) ≡ false
        → (d : Cell) → Contains i.pins d → cell_eq c d ≡ false → known (lit d p) ≡ true
    pin_other-rest c h f new d hd differ =
        elim (cases_Bool (known (lit d p))) [
          | inl holds ↦ holds
          | inr unknown ↦
              let row_pin : f.row c ≡ not p = Forces-row known i (lit c (not p)) f f.row f.is_row (Keeps-itself known f.row) in
              let row_target : f.row i.target ≡ not t = f.is_row ∙ one_not_p f.row c h row_pin in
              let w1 : Valuation = put f.row c p in
              let keeps_w1 : Keeps known f.row w1 = Keeps-put known f.row f.row c p (Keeps-itself known f.row)
              (λ k. absurd (true≢false (sym k ∙ ap (λ b. known (lit c b)) row_pin ∙ new))) in
              let w : Valuation = put w1 d (not p) in
              let keeps_w : Keeps known f.row w = Keeps-put known f.row w1 d (not p) keeps_w1 (not_p_free f.row d unknown) in
              let v : Valuation = put w i.target (not t) in
              let keeps_v : Keeps known f.row v = Keeps-put known f.row w i.target (not t) keeps_w (λ k. sym row_target) in
              let is_row : IsRow i v = row_with i apart w (not t) (sym (one_not_p w d hd (put-at w1 d (not p)))) in
              let e : v c ≡ not p = Forces-row known i (lit c (not p)) f v is_row keeps_v in
              let e2 : v c ≡ p = put-other w i.target (not t) c (pin_apart c h) ∙ put-other w1 d (not p) c differ ∙ put-at f.row c p in
              absurd (not-itself p (sym e2 ∙ e))
        ]

    -- a valuation that has the bit p everywhere but at the target
    pub row_p : IsRow i (put (λ _. p) i.target t)
    row_p = row_with i apart (λ _. p) t (sym (all_p (λ _. p) (λ c h. refl)))

    pub p_at_pin : (c : Cell) → Contains i.pins c → put (λ _. p) i.target t c ≡ p
    p_at_pin c h = put-other (λ _. p) i.target t c (pin_apart c h)

    on_cells_pin : (c : Cell) → Contains i.pins c → Contains (cells_of i) c
    on_cells_pin c h = Contains-there i.target i.pins c h

    on_cells_target : Contains (cells_of i) i.target
    on_cells_target = Contains-here i.target i.pins

    all_pins : (P : Lit → Type 0) → ((c : Cell) → Contains i.pins c → P (lit c p)) → All P (map (λ c. lit c p) i.pins)
    all_pins P f = All-map P (λ c. lit c p) i.pins (All-from_Contains (λ c. P (lit c p)) i.pins f)

    -- conversely, each is forced by the literals named
    pub target_t-from : ((c : Cell) → Contains i.pins c → known (lit c p) ≡ true) → Forces i (passing known) (lit i.target t)
    target_t-from all = record {
      on_cells = on_cells_target;
      part = map (λ c. lit c p) i.pins;
      part_known = all_pins (passing known) all;
      part_on_cells = all_pins (λ x. Contains (cells_of i) x.cell) on_cells_pin;
      row = put (λ _. p) i.target t;
      is_row = row_p;
      row_agrees = all_pins (Has (put (λ _. p) i.target t)) p_at_pin;
      forced = λ v is_row agrees. is_row ∙ all_p v (λ c h. All-contains (Has v) (map (λ c. lit c p) i.pins) (lit c p) agrees (Contains-map (λ c. lit c p) i.pins c h));
    }

    pub target_other-from : (c : Cell) → Contains i.pins c → known (lit c (not p)) ≡ true → Forces i (passing known) (lit i.target (not t))
    target_other-from c h k = record {
      on_cells = on_cells_target;
      part = lit c (not p) ∷ [];
      part_known = All-one (passing known) (lit c (not p)) k;
      part_on_cells = All-one (λ x. Contains (cells_of i) x.cell) (lit c (not p)) (on_cells_pin c h);
      row = put (λ _. not p) i.target (not t);
      is_row = row_with i apart (λ _. not p) (not t) (sym (one_not_p (λ _. not p) c h refl));
      row_agrees = All-one (Has (put (λ _. not p) i.target (not t))) (lit c (not p)) (put-other (λ _. not p) i.target (not t) c (pin_apart c h));
      forced = λ v is_row agrees. is_row ∙ one_not_p v c h (All-head (Has v) (lit c (not p)) [] agrees);
    }

    pub pin_p-from : (c : Cell) → Contains i.pins c → known (lit i.target t) ≡ true → Forces i (passing known) (lit c p)
    pin_p-from c h k = record {
      on_cells = on_cells_pin c h;
      part = lit i.target t ∷ [];
      part_known = All-one (passing known) (lit i.target t) k;
      part_on_cells = All-one (λ x. Contains (cells_of i) x.cell) (lit i.target t) on_cells_target;
      row = put (λ _. p) i.target t;
      is_row = row_p;
      row_agrees = All-one (Has (put (λ _. p) i.target t)) (lit i.target t) (put-at (λ _. p) i.target t);
      forced = λ v is_row agrees. row_t v is_row (All-head (Has v) (lit i.target t) [] agrees) c h;
    }

    others : Cell → List Cell
    others c = filter (λ d. not (cell_eq c d)) i.pins

    pub pin_other-from : (c : Cell) → Contains i.pins c → known (lit i.target (not t)) ≡ true
        → ((d : Cell) → Contains i.pins d → cell_eq c d ≡ false → known (lit d p) ≡ true) → Forces i (passing known) (lit c (not p))
    unfolding others
    pin_other-from c h k rest =
        let other : Cell → Bool = λ d. not (cell_eq c d) in
        let part : List Lit = lit i.target (not t) ∷ map (λ d. lit d p) (filter other i.pins) in
        let row : Valuation = put (put (λ _. p) c (not p)) i.target (not t) in
        let all_others : (P : Lit → Type 0) → P (lit i.target (not t)) → ((d : Cell) → Contains i.pins d → cell_eq c d ≡ false → P (lit d p)) → All P part =
        λ P here f. All-cons P (lit i.target (not t)) (map (λ d. lit d p) (filter other i.pins)) here
        (All-map P (λ d. lit d p) (filter other i.pins) (All-from_Contains (λ d. P (lit d p)) (filter other i.pins)
        (λ d hd. f d (filter-member other i.pins d hd) (not-true (cell_eq c d) (filter-passes other i.pins d hd))))) in
        record {
          on_cells = on_cells_pin c h;
          part = part;
          part_known = all_others (passing known) k rest;
          part_on_cells = all_others (λ x. Contains (cells_of i) x.cell) on_cells_target (λ d hd differ. on_cells_pin d hd);
          row = row;
          is_row = row_with i apart (put (λ _. p) c (not p)) (not t) (sym (one_not_p (put (λ _. p) c (not p)) c h (put-at (λ _. p) c (not p))));
          row_agrees = all_others (Has row) (put-at (put (λ _. p) c (not p)) i.target (not t))
              (λ d hd differ. put-other (put (λ _. p) c (not p)) i.target (not t) d (pin_apart d hd) ∙ put-other (λ _. p) c (not p) d (cell_eq-swap c d differ));
          forced = λ v is_row agrees.
              elim (bit_cases (v c) p) [
                | inl same ↦
                    let each : (d : Cell) → Contains i.pins d → v d ≡ p = λ d hd. elim (cell_cases c d) [
                      | inl e ↦ subst (λ x. v x ≡ p) e same
                      | inr differ ↦ All-contains (Has v) part (lit d p) agrees
                          (Contains-there (lit i.target (not t)) (map (λ d. lit d p) (filter other i.pins)) (lit d p)
                          (Contains-map (λ d. lit d p) (filter other i.pins) d (filter-has other i.pins d hd (not_from_false (cell_eq c d) differ))))
                    ] in
                    let target_is : v i.target ≡ not t = All-head (Has v) (lit i.target (not t)) (map (λ d. lit d p) (filter other i.pins)) agrees in
                    absurd (not-itself t (sym (is_row ∙ all_p v each) ∙ target_is))
                | inr differs ↦ differs
              ];
        }
