use Rattle.std.proofs.Common.{arith}
use Rattle.cycle_sim.proofs.LoadSteps.{lines-pushed}
use Rattle.cycle_sim.proofs.load.Lines.push.Goals as goal

pub invariant_of-self : goal.invariant_of-self
invariant_of-self c = lines-pushed c.push.result c.self.inside.statements c.push.new.self _ c.self.invariant c.push.ensures.ok c.push.ensures.err (omega arith)
