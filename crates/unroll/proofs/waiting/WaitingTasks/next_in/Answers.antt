use Rattle.std.proofs.Common.{refl, sym, ap, ◌∙◌}
use Rattle.unroll.specs.Bits.{is_set}
use Rattle.unroll.proofs.WaitingWords.{next-here, next-later, none-later}
use Rattle.unroll.proofs.waiting.WaitingTasks.next_in.Goals as goal

pub returns-then-bits-ne0-clause-next : goal.returns-then-bits-ne0-clause-next
returns-then-bits-ne0-clause-next c =
    next-here c.args.self.now c.args.chunk c.args.from c.args.row c.bits_from-bits.result c.requires.row c.bits_from-bits.ensures.all
    c.lowest.result c.bits_from-bits.ensures.late c.lowest.ensures.waits c.lowest.ensures.row c.lowest.ensures.set c.lowest.ensures.lowest

pub returns-in_err-later-clause-none : goal.returns-in_err-later-clause-none
returns-in_err-later-clause-none c none =
    none-later c.args.self.now c.args.chunk c.args.from c.args.row c.bits_from-bits.result c.requires.row c.bits_from-bits.ensures.all
    c.if-bits-ne0.false (c.in_err-later.ensures.none refl)

pub returns-clause-next : goal.returns-clause-next
returns-clause-next c =
    next-later c.args.self.now c.args.chunk c.args.from c.args.row c.bits_from-bits.result c.requires.row c.bits_from-bits.ensures.all
    c.if-bits-ne0.false c.in_ok-later.later c.lowest-2.result c.in_ok-later.ensures.some c.lowest-2.ensures.waits c.lowest-2.ensures.row
    (λ i h. ap (λ w. is_set w i) (sym c.word-word.ensures.word) ∙ c.lowest-2.ensures.lowest i h)
