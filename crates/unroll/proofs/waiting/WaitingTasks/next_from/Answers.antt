use Rattle.std.proofs.Common.{◌/◌, arith, refl}
use Rattle.unroll.proofs.WaitingWords.{none-in, row-within}
use Rattle.unroll.proofs.waiting.WaitingTasks.next_from.Goals as goal

pub returns-in_err-row-clause-none : goal.returns-in_err-row-clause-none
returns-in_err-row-clause-none c none s late h =
    none-in c.args.self.now c.args.chunk s (c.in_err-row.ensures.none refl (s.0 / 64) (omega (arith, late)) (row-within c.args.self.now s h.signal)) h
