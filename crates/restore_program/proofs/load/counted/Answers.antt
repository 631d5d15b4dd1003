use Rattle.std.proofs.Common.{◌∙◌}
use Rattle.restore_program.proofs.LoadCounts.{counted_by}
use Rattle.restore_program.proofs.load.counted.Goals as goal

pub returns : goal.returns
returns g c =
    counted_by c.args.p.now c.args.trace.now.rows c.in_ok-base.base c.in_ok-known.known c.new.result c.requires.load_cycles c.in_ok-base.ensures.literals c.in_ok-known.ensures.closure
    (c.new.ensures.known ∙ c.count_known_flip_flops.ensures.count) (c.new.ensures.traced ∙ c.count_known_flip_flops-2.ensures.count)
