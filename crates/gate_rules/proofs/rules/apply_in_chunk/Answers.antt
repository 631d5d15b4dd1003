use Rattle.std.proofs.Common.{◌<◌, sym, subst}
use Rattle.std.specs.List.{AllPairs}
use Rattle.unroll.specs.declared.problem.Block.{Block}
use Rattle.unroll.specs.Tasks.{task_in}
use Rattle.unroll.proofs.lemmas.Tasks.{blocks-ascend}
use Rattle.gate_rules.proofs.NewLiterals.{new_exactly}
use Rattle.gate_rules.proofs.rules.apply_in_chunk.Goals as goal

pub returns-clause-new : goal.returns-clause-new
returns-clause-new g c =
    let up = subst (AllPairs (λ (a b : Block). a.0 < b.0)) (sym c.requires.blocks) (blocks-ascend c.args.p.now c.args.at.sig c.args.at.chunk c.requires.task.early) in
    new_exactly c.args.p.now (task_in c.args.p.now c.args.at) c.args.blocks.now.items c.args.view.now.items c.forced_in_chunk.new.out.items c.take_out.new.out.items up
    c.requires.view c.forced_in_chunk.ensures.forced
    (λ j i bit within lane. c.take_out.ensures.taken j i bit (subst (λ n. j < n) (sym c.requires.view) within) lane)
