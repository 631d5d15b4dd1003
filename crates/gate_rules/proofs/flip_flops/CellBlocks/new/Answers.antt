use Rattle.gate_rules.proofs.FlipFlopForced.{problem-driver}
use Rattle.gate_rules.proofs.flip_flops.CellBlocks.new.Goals as goal

pub returns-clause-driver : goal.returns-clause-driver
returns-clause-driver c = problem-driver c.args.p.now c.net.ensures.problem c.args.at.sig c.requires.inside.0 c.requires.flip_flop
