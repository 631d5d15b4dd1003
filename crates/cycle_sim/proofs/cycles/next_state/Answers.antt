use Rattle.std.proofs.Common.{◌<◌, ◌+◌, false, length, length-set, get_or, arith, sym, ap, subst, ◌∙◌}
use Rattle.sr_model.specs.declared.cells.Sig.{Sig}
use Rattle.sr_model.specs.Netlist.{cell_at}
use Rattle.cycle_sim.specs.BitTable.{bit_in}
use Rattle.cycle_sim.proofs.FrameSteps.{flip_flop-within, first-pin, flip_flop-value, states-more}
use Rattle.cycle_sim.proofs.cycles.next_state.Goals as goal

pub pins_of-requires : goal.pins_of-requires
pins_of-requires c = (flip_flop-within c.args.n.now.drivers c.flip_flops-flip_flops.result.now c.flip_flops-flip_flops.ensures c.loop-j.j _ c.loop-j-test.true).0

pub bounds-pins_of-0 : goal.bounds-pins_of-0
bounds-pins_of-0 c = (first-pin c.args.n.now c.requires.circuit c.flip_flops-flip_flops.result.now c.flip_flops-flip_flops.ensures c.loop-j.j _ c.loop-j-test.true c.pins_of.result.now c.pins_of.ensures).0

pub bounds-frame-pins_of : goal.bounds-frame-pins_of
bounds-frame-pins_of c =
    subst (λ n. (get_or c.pins_of.result.now 0 (record { 0 = 0 })).0 < n) (sym c.requires.frame)
    (first-pin c.args.n.now c.requires.circuit c.flip_flops-flip_flops.result.now c.flip_flops-flip_flops.ensures c.loop-j.j _ c.loop-j-test.true c.pins_of.result.now c.pins_of.ensures).1

pub loop-j-preserved : goal.loop-j-preserved
loop-j-preserved c = (
  length-set c.loop-j.state c.loop-j.j (get_or c.args.frame.now (get_or c.pins_of.result.now 0 (record { 0 = 0 })).0 false) ∙ c.loop-j.invariant.0,
  λ given cycle all later v sim.
      let q : Sig = get_or c.flip_flops-flip_flops.result.now c.loop-j.j (record { 0 = 0 }) in
      let pin : Sig = get_or c.pins_of.result.now 0 (record { 0 = 0 }) in
      let first : (0 < length c.pins_of.result.now) × (pin.0 < length c.args.n.now.drivers) = first-pin c.args.n.now c.requires.circuit c.flip_flops-flip_flops.result.now c.flip_flops-flip_flops.ensures c.loop-j.j _ c.loop-j-test.true c.pins_of.result.now c.pins_of.ensures in
      states-more v (cycle + 1) c.loop-j.state c.flip_flops-flip_flops.result.now c.loop-j.j (record { 0 = 0 }) (get_or c.args.frame.now pin.0 false)
      (subst (λ n. c.loop-j.j < n) (sym (c.loop-j.auto.state ∙ c.requires.size ∙ ap length (sym c.flip_flops-flip_flops.ensures))) c.loop-j-test.true)
      (all v sim pin first.1
      ∙ sym (flip_flop-value c.args.n.now given.count (bit_in given) v sim cycle q
      (flip_flop-within c.args.n.now.drivers c.flip_flops-flip_flops.result.now c.flip_flops-flip_flops.ensures c.loop-j.j _ c.loop-j-test.true).1 later c.pins_of.result.now c.pins_of.ensures first.0))
      (c.loop-j.invariant.1 given cycle all later v sim),
)

pub returns-clause-state : goal.returns-clause-state
returns-clause-state c given cycle all later v sim j h =
    c.loop-j.invariant.1 given cycle all later v sim j (omega (arith, h, c.loop-j-test.false, ap length c.flip_flops-flip_flops.ensures))
    ∙ ap (λ xs. v (cell_at (cycle + 1) (get_or xs j (record { 0 = 0 })))) c.flip_flops-flip_flops.ensures
