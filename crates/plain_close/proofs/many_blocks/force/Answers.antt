use Rattle.plain_close.proofs.Turning.{forced-seen}
use Rattle.plain_close.proofs.many_blocks.force.Goals as goal

pub returns-clause-forced : goal.returns-clause-forced
returns-clause-forced c =
    forced-seen c.args.p.now c.args.planes.now c.args.task c.see.new.buffers.in_chunks.items c.see.new.buffers.view.items c.see.new.buffers.out.items c.forced_in_chunk.new.out.items
    c.in_ok-see.ensures.problem c.requires.of c.requires.task c.in_ok-see.ensures.sees c.see.new.buffers.blocks.items c.in_ok-see.ensures.blocks c.forced_in_chunk.ensures.size c.forced_in_chunk.ensures.forced c.forced_in_chunk.ensures.later
