use Rattle.std.proofs.Common.{refl, arith}
use Rattle.unroll.proofs.WaitingWords.{idle-where}
use Rattle.unroll.proofs.waiting.WaitingTasks.row_in.Goals as goal

pub returns-in_err-row-clause-none : goal.returns-in_err-row-clause-none
returns-in_err-row-clause-none c none = idle-where c.args.self.now c.args.chunk (λ r row. c.in_err-row.ensures.none refl r (omega arith) row)
