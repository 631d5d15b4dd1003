use Rattle.std.proofs.Common.{sym, subst, arith}
use Rattle.unroll.specs.Problem.{HasNoLaterBit, chunk_at}
use Rattle.known_planes.proofs.in_place.take_words.Goals as goal

pub set-requires-clause-no_later : goal.set-requires-clause-no_later
set-requires-clause-no_later c =
    subst (HasNoLaterBit c.args.p.now.cycles (chunk_at c.args.p.now (record { 0 = c.loop-b.b }))) (sym c.word-words.ensures)
    (c.requires.from.no_later (record { 0 = c.loop-b.b }) (omega (arith, c.loop-b-test.true, c.blocks-b-end.ensures)))
