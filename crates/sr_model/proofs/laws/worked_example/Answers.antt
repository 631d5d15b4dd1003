use Rattle.std.proofs.Common.{◌≡◌, ◌&&◌, Some, true, [], ◌∷◌, refl, sym, ◌∙◌, lit<}
use Rattle.std.specs.List.{Contains}
use Rattle.std.proofs.lemmas.List.Elements.{All-head}
use Rattle.std.proofs.lemmas.Bool.{and_parts}
use Rattle.sr_model.specs.declared.cells.Lit.{Lit}
use Rattle.sr_model.specs.declared.cells.Place.{Place}
use Rattle.sr_model.specs.Netlist.{Instance, instance_at, cells_of, Valuation, IsRow, Has}
use Rattle.sr_model.specs.Closure.{Closure, LitSet, ForcesSomewhere, lit, passing}
use Rattle.sr_model.specs.Dump.{dump_has}
use Rattle.sr_model.specs.Worked.{traced, sig, cell, worked}
use Rattle.sr_model.proofs.lemmas.Members.{All-one}
use Rattle.sr_model.proofs.ClosureLaws.{closed, has_base}
use Rattle.sr_model.proofs.laws.worked_example.Goals as goal

-- a literal forced by one other
by_one : (p : Place) (i : Instance) (from to : Lit) (known : LitSet) → instance_at worked p ≡ Some i → Contains (cells_of i) from.cell → Contains (cells_of i) to.cell → known from
    → IsRow i (λ _. true) → Has (λ _. true) from
    → ((v : Valuation) → IsRow i v → Has v from → Has v to) → ForcesSomewhere worked known to
by_one p i from to known stands on on2 has row row_has step = (
  p,
  record {
    instance = i;
    stands = stands;
    forces = record {
      on_cells = on2;
      part = from ∷ [];
      part_known = All-one known from has;
      part_on_cells = All-one (λ x. Contains (cells_of i) x.cell) from on;
      row = λ _. true;
      is_row = row;
      row_agrees = All-one (Has (λ _. true)) from row_has;
      forced = λ v is_row agrees. step v is_row (All-head (Has v) from [] agrees);
    };
  },
)

pub returns : goal.returns
returns c =
    let known : LitSet = Closure worked (passing (dump_has traced)) in
    let q1 : Lit = lit (cell 4 1) true in
    let g0 : Lit = lit (cell 3 0) true in
    let n0 : Lit = lit (cell 2 0) true in
    let r1 : Lit = lit (cell 5 1) true in
    let has_q1 : known q1 = has_base worked (passing (dump_has traced)) q1 refl in
    -- back through the flip-flop q
    let has_g0 : known g0 = closed worked (passing (dump_has traced)) g0
    (by_one (record { cycle = 0; target = sig 4 }) _ q1 g0 known refl (0, lit< tt, refl) (1, lit< tt, refl) has_q1 refl refl (λ v row has. sym row ∙ has)) in
    -- back through the gate g
    let has_n0 : known n0 = closed worked (passing (dump_has traced)) n0
    (by_one (record { cycle = 0; target = sig 3 }) _ g0 n0 known refl (0, lit< tt, refl) (1, lit< tt, refl) has_g0 refl refl
    (λ v row has. (and_parts (v n0.cell) (v (cell 1 0) && true) (sym row ∙ has)).0)) in
    -- forward through the flip-flop r
    closed worked (passing (dump_has traced)) r1
    (by_one (record { cycle = 0; target = sig 5 }) _ n0 r1 known refl (1, lit< tt, refl) (0, lit< tt, refl) has_n0 refl refl (λ v row has. row ∙ has))
