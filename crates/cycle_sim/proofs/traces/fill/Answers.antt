use Rattle.std.proofs.Common.{Some, ap, ◌∙◌}
use Rattle.cycle_sim.specs.BitTable.{bit_in}
use Rattle.cycle_sim.proofs.Tracing.{cells-more}
use Rattle.cycle_sim.proofs.traces.fill.Goals as goal

pub loop-cycle-preserved : goal.loop-cycle-preserved
loop-cycle-preserved c =
    cells-more (λ cycle. Some (bit_in c.args.bits.now cycle c.args.column)) c.loop-cycle.cells.items c.push.new.self.items c.loop-cycle.cycle c.tri.result c.in_ok-push.ensures.ok
    (c.tri.ensures ∙ ap Some c.bit.ensures) c.loop-cycle.invariant
