use Rattle.std.proofs.Common.{◌-◌}
use Rattle.unroll.proofs.WaitingWords.{masked}
use Rattle.unroll.proofs.waiting.WaitingTasks.last_row.Goals as goal

pub returns-then-marks-ne0 : goal.returns-then-marks-ne0
returns-then-marks-ne0 c =
    masked c.args.self.now c.args.chunk (c.loop-group.group - 1) c.marks_in.result c.low_bits-behind.result c.marks_in.ensures
    c.highest_bit.result c.highest_bit.ensures.within c.highest_bit.ensures.set
