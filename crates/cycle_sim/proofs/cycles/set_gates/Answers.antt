use Rattle.std.proofs.Common.{ℕ, ◌≡◌, ◌<◌, ◌≤◌, true, false, set, List, [], length, length-set, map, get_or, inl, inr, sym, ap, subst, ◌∙◌}
use Rattle.std.proofs.lemmas.Bool.{cases_Bool}
use Rattle.std.proofs.lemmas.List.{get_or-map, length-map}
use Rattle.std.proofs.lemmas.List.Elements.{All-get_or, Contains-get_or}
use Rattle.sr_model.specs.declared.cells.Sig.{Sig}
use Rattle.sr_model.specs.Netlist.{Valuation, cell_at}
use Rattle.netlist.specs.Wiring.{driver_at, is_gate}
use Rattle.cycle_sim.specs.declared.gates.Gate.{Gate}
use Rattle.cycle_sim.specs.BitTable.{BitTable, bit_in}
use Rattle.cycle_sim.specs.Simulation.{IsSimulated}
use Rattle.cycle_sim.specs.Frames.{IsRight, IsGate, in_frame, value_by}
use Rattle.cycle_sim.proofs.FrameSteps.{rights-more, set-right, member-right, gate-right}
use Rattle.cycle_sim.proofs.cycles.set_gates.Invariants.{OthersRight}
use Rattle.cycle_sim.proofs.cycles.set_gates.Goals as goal

abbrev nowhere : Gate
nowhere = record { target = record { 0 = 0 }; first = record { 0 = 0 }; second = record { 0 = 0 }; outputs = []; wide = false }

abbrev targets : List Gate → List Sig
targets gates = map (λ (g : Gate). g.target) gates

pub loop-gate-preserved : goal.loop-gate-preserved
loop-gate-preserved c =
    let i = c.loop-gate.gate-index in
    let order : List Sig = targets c.args.gates.now in
    let s : Sig = (get_or c.args.gates.now i nowhere).target in
    let at : get_or order i (record { 0 = 0 }) ≡ s = get_or-map (λ (g : Gate). g.target) c.args.gates.now i nowhere (record { 0 = 0 }) c.loop-gate-test.true in
    let within : i < length order = subst (λ n. i < n) (sym (length-map c.args.gates.now (λ (g : Gate). g.target))) c.loop-gate-test.true in
    let gate : is_gate (driver_at c.args.n.now.drivers (get_or order i (record { 0 = 0 })).0) ≡ true =
    (c.requires.gates.ordered.gates (get_or order i (record { 0 = 0 }))).0 (Contains-get_or order i (record { 0 = 0 }) within) in
    let there : s.0 < length c.loop-gate.frame =
    subst (λ n. s.0 < n) (sym (c.loop-gate.auto.frame ∙ c.requires.frame)) (All-get_or (IsGate c.args.n.now) c.args.gates.now i nowhere c.loop-gate-test.true c.requires.gates.each).target in
    let right : (given : BitTable) (cycle : ℕ) → OthersRight c.args.n.now c.args.frame.now given cycle → (v : Valuation) → IsSimulated c.args.n.now given.count (bit_in given) v
    → c.gate_bit.result ≡ v (cell_at cycle (get_or order i (record { 0 = 0 }))) = λ given cycle others v sim.
    c.gate_bit.ensures ∙ ap (λ (x : Sig). value_by (driver_at c.args.n.now.drivers x.0) (in_frame c.loop-gate.frame)) (sym at)
    ∙ gate-right c.args.n.now c.requires.circuit given.count (bit_in given) v sim cycle others.0 order c.requires.gates.ordered i (record { 0 = 0 }) within c.loop-gate.frame
    (λ x x_within other. (c.loop-gate.invariant.1 given cycle others).0 v sim x (others.1 v sim x x_within other)) ((c.loop-gate.invariant.1 given cycle others).1 v sim) gate in (
      length-set c.loop-gate.frame s.0 c.gate_bit.result ∙ c.loop-gate.invariant.0,
      λ given cycle others. (
        λ v sim x before. set-right v cycle c.loop-gate.frame s c.gate_bit.result there (right given cycle others v sim ∙ ap (λ y. v (cell_at cycle y)) at) x
            ((c.loop-gate.invariant.1 given cycle others).0 v sim x before),
        λ v sim k h. subst (λ (x : Sig). IsRight v cycle (set c.loop-gate.frame x.0 c.gate_bit.result) (get_or order k (record { 0 = 0 }))) at
            (rights-more v cycle c.loop-gate.frame order i (record { 0 = 0 }) c.gate_bit.result (subst (λ (x : Sig). x.0 < length c.loop-gate.frame) (sym at) there) (right given cycle others v sim)
            ((c.loop-gate.invariant.1 given cycle others).1 v sim) k h),
      ),
    )

pub returns-clause-all : goal.returns-clause-all
returns-clause-all c given cycle early others v sim s within =
    let kept = c.loop-gate.invariant.1 given cycle (early, others) in
    elim (cases_Bool (is_gate (driver_at c.args.n.now.drivers s.0))) [
      | inl gate ↦
          member-right v cycle c.loop-gate.frame (targets c.args.gates.now) c.loop-gate.gate-index (record { 0 = 0 }) s
          (subst (λ n. n ≤ c.loop-gate.gate-index) (sym (length-map c.args.gates.now (λ (g : Gate). g.target))) c.loop-gate-test.false) (kept.1 v sim)
          ((c.requires.gates.ordered.gates s).1 gate)
      | inr other ↦ kept.0 v sim s (others v sim s within other)
    ]
