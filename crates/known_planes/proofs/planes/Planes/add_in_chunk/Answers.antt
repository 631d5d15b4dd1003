use Rattle.std.proofs.Common.{ap, subst, sym, ◌∙◌}
use Rattle.unroll.specs.Bits.{union_of}
use Rattle.unroll.specs.Problem.{HasNoLaterBit, block_in}
use Rattle.known_planes.specs.Planes.{with_words}
use Rattle.known_planes.proofs.NewBits.{union-joins, union-none}
use Rattle.known_planes.proofs.planes.Planes.add_in_chunk.Goals as goal

pub set_in_chunk-requires-clause-no_later : goal.set_in_chunk-requires-clause-no_later
set_in_chunk-requires-clause-no_later c =
    subst (HasNoLaterBit c.args.p.now.cycles c.args.at.chunk) (sym (c.union-all.ensures.words ∙ ap (λ w. union_of w c.args.words) c.word_in_chunk.ensures))
    (union-none c.args.p.now c.args.self.now c.requires.of c.args.at c.requires.inside c.args.words c.requires.no_later)

pub returns-clause-words : goal.returns-clause-words
returns-clause-words c =
    c.set_in_chunk.ensures.words ∙ ap (with_words c.args.self.now (block_in c.args.p.now c.args.at)) (c.union-all.ensures.words ∙ ap (λ w. union_of w c.args.words) c.word_in_chunk.ensures)

pub returns-clause-joins : goal.returns-clause-joins
returns-clause-joins c = union-joins c.args.p.now c.args.self.now c.requires.of c.args.at c.requires.inside c.args.words c.set_in_chunk.new.self (returns-clause-words c)
