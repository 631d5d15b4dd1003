use Rattle.std.proofs.Common.{ap, arith}
use Rattle.sr_model.specs.Declaration.{InputNamed}
use Rattle.cycle_sim.specs.Load.{load_name}
use Rattle.cycle_sim.proofs.LoadSteps.{added-more, added-length}
use Rattle.cycle_sim.proofs.load.push_inputs.Goals as goal

pub push-requires : goal.push-requires
push-requires c = omega (arith, added-length (λ i. InputNamed (load_name i)) c.args.lines.now c.loop-i.lines c.loop-i.i c.loop-i.invariant)

pub loop-i-preserved : goal.loop-i-preserved
loop-i-preserved c = added-more (λ i. InputNamed (load_name i)) c.args.lines.now c.loop-i.lines c.loop-i.i c.push.new.self _ c.loop-i.invariant c.in_ok-push.ensures (ap InputNamed c.in_ok-to_name.ensures)
