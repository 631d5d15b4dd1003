use Rattle.std.proofs.Common.{ap, ◌-◌, ◌∙◌}
use Rattle.std.proofs.Common.{ltb, refl}
use Rattle.unroll.proofs.WaitingWords.{first-marked, none-marked}
use Rattle.unroll.proofs.waiting.WaitingTasks.first_row.Goals as goal

pub returns-then-marks-ne0-clause-some : goal.returns-then-marks-ne0-clause-some
returns-then-marks-ne0-clause-some c =
    first-marked c.args.self.now c.args.chunk c.loop-group.group c.marks_in.result (18446744073709551615 - c.low_bits-ahead.result) c.marks_in.ensures
    c.args.from c.low_bits-ahead.result c.low_bits-ahead.type_inv (λ i small. c.low_bits-ahead.ensures i small ∙ ap (ltb i) c.saturating_sub.ensures) refl
    c.lowest_bit.result c.loop-group.invariant c.lowest_bit.ensures.within c.lowest_bit.ensures.set c.lowest_bit.ensures.lowest

pub loop-group-preserved : goal.loop-group-preserved
loop-group-preserved c =
    none-marked c.args.self.now c.args.chunk c.loop-group.group c.marks_in.result (18446744073709551615 - c.low_bits-ahead.result) c.marks_in.ensures
    c.args.from c.low_bits-ahead.result c.low_bits-ahead.type_inv (λ i small. c.low_bits-ahead.ensures i small ∙ ap (ltb i) c.saturating_sub.ensures) refl
    c.loop-group.invariant c.if-marks-ne0.false
