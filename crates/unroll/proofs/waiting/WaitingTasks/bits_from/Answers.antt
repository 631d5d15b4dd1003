use Rattle.std.proofs.Common.{◌/◌, ◌%◌, ◌≤◌, arith, sym, ap, ◌∙◌}
use Rattle.unroll.specs.Bits.{is_set}
use Rattle.unroll.specs.Waiting.{row_word}
use Rattle.unroll.proofs.WaitingWords.{from-all, from-bits, from-late}
use Rattle.unroll.proofs.waiting.WaitingTasks.bits_from.Goals as goal

pub returns-else-from-row-clause-bits : goal.returns-else-from-row-clause-bits
returns-else-from-row-clause-bits c i h = ap (λ w. is_set w i) (sym c.word-word.ensures.word) ∙ from-bits c.word-word.result (c.args.from % 64) i h

pub returns-else-from-row-clause-late : goal.returns-else-from-row-clause-late
returns-else-from-row-clause-late c i small h =
    let high : c.args.from % 64 ≤ i = from-late c.word-word.result (c.args.from % 64) i small h in
    let row : c.args.row ≤ c.args.from / 64 = c.if-from-row.false in
    omega (arith, high, row)

pub returns-else-from-row-clause-all : goal.returns-else-from-row-clause-all
returns-else-from-row-clause-all c s late same h =
    let row : c.args.row ≤ c.args.from / 64 = c.if-from-row.false in
    let first : c.args.from / 64 ≤ c.args.row = c.requires.from in
    from-all c.word-word.result (c.args.from % 64) (s.0 % 64) (omega arith) (omega (arith, row, first, late, same))
    (ap (λ w. is_set w (s.0 % 64)) (c.word-word.ensures.word ∙ ap (row_word c.args.self.now.signals c.args.self.now.words c.args.chunk) (sym same)) ∙ h.set)
