use Rattle.unroll.specs.Tasks.{task_in}
use Rattle.unroll.proofs.lemmas.Words.{all-set}
use Rattle.gate_rules.proofs.NewLiterals.{exactly-all}
use Rattle.gate_rules.proofs.rules.forced_in_chunk.Goals as goal

pub returns-clause-forced : goal.returns-clause-forced
returns-clause-forced c =
    exactly-all c.args.p.now (task_in c.args.p.now c.args.at) c.args.blocks.now.items c.args.view.now.items c.forced_in_cycles_in_chunk.new.out.items
    18446744073709551615 all-set c.forced_in_cycles_in_chunk.ensures.forced
