use Rattle.known_planes.proofs.lemmas.Planes.{within-none}
use Rattle.plain_close.proofs.tests.closing.set_bits.Goals as goal

pub set_in_chunk-requires-clause-no_later : goal.set_in_chunk-requires-clause-no_later
set_in_chunk-requires-clause-no_later c = within-none c.args.p.now.cycles _ c.valid_bits.result _ c.within-words.result c.within-words.ensures c.valid_bits.ensures
