use Rattle.std.proofs.Common.{arith}
use Rattle.std.proofs.lemmas.Grind.{common_steps}
use Rattle.sr_outside.proofs.Listed.{has_listed-from}
use Rattle.sr_outside.proofs.memory.MemInputsInputs.start.Goals as goal

pub returns-then-not-self-clause-cause : goal.returns-then-not-self-clause-cause
returns-then-not-self-clause-cause c =
    grind (arith, common_steps, has_listed-from c.args.self.now.failing c.args.name.now 0)
