-- What the known literals settle at a parity gate, by the other cells that stand an odd number of times.
use Rattle.std.proofs.Common.{◌≡◌, ◌⊎◌, ◌↔◌, ◌||◌, ◌&&◌, Bool, true, false, not, List, [], inl, inr, sym, subst, refl, ap, ◌∙◌, arith}
use Rattle.std.specs.List.{Contains, list_all, list_any}
use Rattle.std.proofs.lemmas.Bool.{cases_Bool, true≢false, and_parts, and_from, or_cases, or_left, or_right}
use Rattle.sr_model.specs.declared.cells.Cell.{Cell}
use Rattle.sr_model.specs.declared.cells.Lit.{Lit}
use Rattle.sr_model.specs.Netlist.{cell_eq, Instance, cells_of, Valuation}
use Rattle.sr_model.specs.Closure.{Forces, passing, lit}
use Rattle.sr_model.specs.XorLike.{plus, parity, is_odd, IsXorLike}
use Rattle.sr_model.proofs.lemmas.Members.{not_in_nil, list_all-at, list_all-from, list_any-from, list_any-found}
use Rattle.sr_model.proofs.Rows.{cell_cases, put, put-at, put-other, Keeps-itself, Forces-row}
use Rattle.sr_model.proofs.AndLike.{bit_cases}
use Rattle.sr_model.proofs.Parity.{parity-turn, parity-agree}
use Rattle.sr_model.proofs.OddCells.{plus_false, once_odd, AreOthers, parity-others}
use Rattle.sr_model.specs.RuleLaws.{XorForces}
use Rattle.sr_model.proofs.XorLike.{is_odd-member, twice, balanced_row, xor_forces-from}

-- some literal of the cell is known, and both are
abbrev pub some_known : (Lit → Bool) → Cell → Bool
some_known known d = known (lit d false) || known (lit d true)

abbrev pub both_known : (Lit → Bool) → Cell → Bool
both_known known d = known (lit d false) && known (lit d true)

-- the bit of a cell of which one literal is known
abbrev pub known_bit : (Lit → Bool) → Valuation
known_bit known d = known (lit d true)

-- each of the cells has a known literal, and there is a choice among them or their bits settle this one
abbrev pub OthersForce : Bool → List Cell → (Lit → Bool) → Bool → Type 0
OthersForce inverted others known bit =
    (list_all (some_known known) others ≡ true) × ((list_any (both_known known) others ≡ true) ⊎ (plus inverted (parity (known_bit known) others) ≡ bit))

move : (a b r : Bool) → plus a r ≡ b → plus b r ≡ a
move true true true e = cc
move true true false e = refl
move true false true e = refl
move true false false e = cc
move false true true e = refl
move false true false e = cc
move false false true e = cc
move false false false e = refl

plus_not : (a b : Bool) → plus a (not b) ≡ not (plus a b)
plus_not true b = refl
plus_not false b = refl

-- a known literal is one of its cell's
some_known-from : (known : Lit → Bool) (d : Cell) (bit : Bool) → known (lit d bit) ≡ true → some_known known d ≡ true
some_known-from known d true h = or_right (known (lit d false)) (known (lit d true)) h
some_known-from known d false h = or_left (known (lit d false)) (known (lit d true)) h

-- where only one literal is known, it is that of the known bit
known_bit-is : (known : Lit → Bool) (d : Cell) (bit : Bool) → known (lit d bit) ≡ true → both_known known d ≡ false → known_bit known d ≡ bit
known_bit-is known d true h one = h
known_bit-is known d false h one =
    elim (cases_Bool (known (lit d true))) [
      | inl holds ↦ absurd (true≢false (sym (and_from (known (lit d false)) (known (lit d true)) h holds) ∙ one))
      | inr fails ↦ fails
    ]

-- the known bit's literal is known, where one is
known_bit-known : (known : Lit → Bool) (d : Cell) → some_known known d ≡ true → known (lit d (known_bit known d)) ≡ true
known_bit-known known d some =
    elim (cases_Bool (known (lit d true))) [
      | inl holds ↦ ap (λ b. known (lit d b)) holds ∙ holds
      | inr fails ↦ elim (or_cases (known (lit d false)) (known (lit d true)) some) [
        | inl zero ↦ ap (λ b. known (lit d b)) fails ∙ zero
        | inr one ↦ absurd (true≢false (sym one ∙ fails))
      ]
    ]

both_known-each : (known : Lit → Bool) (d : Cell) (bit : Bool) → both_known known d ≡ true → known (lit d bit) ≡ true
both_known-each known d true both = let parts : (known (lit d false) ≡ true) × (known (lit d true) ≡ true) = and_parts (known (lit d false)) (known (lit d true)) both in parts.1
both_known-each known d false both = let parts : (known (lit d false) ≡ true) × (known (lit d true) ≡ true) = and_parts (known (lit d false)) (known (lit d true)) both in parts.0

parity-agree_on : (v w : Valuation) (cs : List Cell) → ((d : Cell) → Contains cs d → v d ≡ w d) → parity v cs ≡ parity w cs
parity-agree_on v w cs same = parity-agree v w cs (λ d odd. same d (is_odd-member d cs odd))

module _ (inverted : Bool) (i : Instance) (known : Lit → Bool) (l : Lit) (others : List Cell) (are : AreOthers i l.cell others) where
  others_force : XorForces inverted i known l → OthersForce inverted others known l.bit
  others_force x =
      let known_each : (d : Cell) → Contains others d → known (lit d (x.choice d)) ≡ true = λ d h. x.others d (are.odd d h) (are.differs d h) in (
        list_all-from (some_known known) others (λ d h. some_known-from known d (x.choice d) (known_each d h)),
        elim (cases_Bool (list_any (both_known known) others)) [
          | inl some ↦ inl some
          | inr none ↦
              let one : (d : Cell) → Contains others d → both_known known d ≡ false = λ d h. elim (cases_Bool (both_known known d)) [
                | inl both ↦ absurd (true≢false (sym (list_any-from (both_known known) others d h both) ∙ none))
                | inr one ↦ one
              ] in
              let same : parity (known_bit known) others ≡ parity x.choice others =
              parity-agree_on (known_bit known) x.choice others (λ d h. known_bit-is known d (x.choice d) (known_each d h) (one d h)) in
              let balanced : plus (x.choice l.cell) (parity x.choice others) ≡ inverted = sym (parity-others i l.cell others are x.odd x.choice) ∙ x.balanced in
              inr (ap (plus inverted) same ∙ move (x.choice l.cell) inverted (parity x.choice others) balanced ∙ x.chosen)
        ],
      )

  module _ (odd : is_odd l.cell (cells_of i) ≡ true) where
    -- bits that are known at the others, with which the literal is balanced
    choice_forces : (v : Valuation) → ((d : Cell) → Contains others d → known (lit d (v d)) ≡ true) → plus inverted (parity v others) ≡ l.bit → XorForces inverted i known l
    choice_forces v known_each e =
        let w : Valuation = put v l.cell l.bit in
        let kept : (d : Cell) → Contains others d → w d ≡ v d = λ d h. put-other v l.cell l.bit d (are.differs d h) in
        record {
          on_cells = is_odd-member l.cell (cells_of i) odd;
          odd = odd;
          choice = w;
          balanced = parity-others i l.cell others are odd w ∙ ap (λ b. plus b (parity w others)) (put-at v l.cell l.bit)
              ∙ ap (plus l.bit) (parity-agree_on w v others kept) ∙ move inverted l.bit (parity v others) e;
          chosen = put-at v l.cell l.bit;
          others = λ d odd_d apart. let h : Contains others d = are.each d odd_d apart in ap (λ b. known (lit d b)) (kept d h) ∙ known_each d h;
        }

    -- where both literals of one of the others are known, one of its bits balances the literal
    either_forces : (v : Valuation) → ((d : Cell) → Contains others d → known (lit d (v d)) ≡ true) → (e : Cell) → Contains others e → both_known known e ≡ true → XorForces inverted i known l
    either_forces v known_each e is both =
        let w : Valuation = put v e (not (v e)) in
        let turned : parity w others ≡ not (parity v others) = parity-turn v e others ∙ ap (λ b. plus b (parity v others)) (once_odd others are.once e is) in
        elim (bit_cases (plus inverted (parity v others)) l.bit) [
          | inl same ↦ choice_forces v known_each same
          | inr other ↦ choice_forces w (λ d h. elim (cell_cases d e) [
            | inl at ↦ subst (λ x. known (lit x (w x)) ≡ true) (sym at) (both_known-each known e (w e) both)
            | inr apart ↦ ap (λ b. known (lit d b)) (put-other v e (not (v e)) d apart) ∙ known_each d h
          ]) (ap (plus inverted) turned ∙ plus_not inverted (parity v others) ∙ ap not other ∙ twice l.bit)
        ]

    from_others : OthersForce inverted others known l.bit → XorForces inverted i known l
    from_others h =
        let known_each : (d : Cell) → Contains others d → known (lit d (known_bit known d)) ≡ true =
        λ d is. known_bit-known known d (list_all-at (some_known known) others h.0 d is) in
        elim h.1 [
          | inr e ↦ choice_forces (known_bit known) known_each e
          | inl some ↦ let found : (d : Cell) × Contains others d × (both_known known d ≡ true) = list_any-found (both_known known) others some in
              either_forces (known_bit known) known_each found.0 found.1 found.2
        ]

    -- the others' known bits leave the literal alone exactly if each has one, and some has both or they settle it
    pub xor_choice : XorForces inverted i known l ↔ OthersForce inverted others known l.bit
    xor_choice = (others_force, from_others)

-- no other cell stands an odd number of times
pub no_others : (i : Instance) (c : Cell) → ((d : Cell) → is_odd d (cells_of i) ≡ true → cell_eq d c ≡ false → ⊥) → AreOthers i c []
no_others i c lone = record {
  once = λ k j x lt within. omega arith;
  odd = λ d h. absurd (not_in_nil d h);
  differs = λ d h. absurd (not_in_nil d h);
  each = λ d odd apart. absurd (lone d odd apart);
}

-- the lone cell that stands an odd number of times has one bit in each row
pub xor_lone-exact : (inverted : Bool) (i : Instance) (xor_like : IsXorLike inverted i) (known : Lit → Bool) (l : Lit) → is_odd l.cell (cells_of i) ≡ true → AreOthers i l.cell []
    → Forces i (passing known) l ↔ (l.bit ≡ inverted)
xor_lone-exact inverted i xor_like known l odd are = (
  λ f.
      let has : f.row l.cell ≡ l.bit = Forces-row known i l f f.row f.is_row (Keeps-itself known f.row) in
      sym has ∙ sym (plus_false (f.row l.cell)) ∙ sym (parity-others i l.cell [] are odd f.row) ∙ balanced_row inverted i xor_like known f.row f.is_row,
  λ e. xor_forces-from inverted i xor_like known l (from_others inverted i known l [] are odd (refl, inr (plus_false inverted ∙ sym e))),
)
