use Rattle.std.proofs.Common.{arith}
use Rattle.known_planes.proofs.NewBits.{known-there, new-exact, new-lit}
use Rattle.known_planes.proofs.planes.Planes.new_in_chunk.Goals as goal

pub returns-clause-exact : goal.returns-clause-exact
returns-clause-exact c =
    new-exact c.args.p.now c.args.self.now c.requires.of c.args.at c.requires.inside c.args.words c.word_in_chunk.result c.without.result c.known.result c.word_in_chunk.ensures c.without.ensures c.known.ensures
    c.known.type_inv (omega arith) (omega arith)

pub returns-clause-known : goal.returns-clause-known
returns-clause-known c =
    known-there c.args.p.now c.args.self.now c.requires.of c.args.at c.requires.inside c.args.words c.word_in_chunk.result c.without.result c.known.result c.word_in_chunk.ensures c.without.ensures c.known.ensures
    (omega arith) (omega arith)

pub returns-clause-new : goal.returns-clause-new
returns-clause-new c =
    new-lit c.args.p.now c.args.self.now c.requires.of c.args.at c.requires.inside c.args.words c.word_in_chunk.result c.without.result c.known.result c.word_in_chunk.ensures c.without.ensures c.known.ensures
    c.known.type_inv c.requires.no_later
