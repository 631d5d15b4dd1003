use Rattle.unroll.specs.Tasks.{task_in}
use Rattle.gate_rules.proofs.NewLiterals.{no_later}
use Rattle.gate_rules.proofs.rules.forced_in_cycles_in_chunk.Goals as goal

pub returns-then-is_flip_flop-clause-later : goal.returns-then-is_flip_flop-clause-later
returns-then-is_flip_flop-clause-later c =
    no_later c.args.p.now (task_in c.args.p.now c.args.at) c.args.blocks.now.items c.args.view.now.items c.force_flip_flop.new.out.items c.args.mask c.force_flip_flop.ensures.forced

pub returns-else-is_flip_flop-clause-later : goal.returns-else-is_flip_flop-clause-later
returns-else-is_flip_flop-clause-later c =
    no_later c.args.p.now (task_in c.args.p.now c.args.at) c.args.blocks.now.items c.args.view.now.items c.force_gate.new.out.items c.args.mask c.force_gate.ensures.forced
