use Rattle.known_planes.proofs.Members.{within-none}
use Rattle.known_planes.proofs.tests.words.Goals as goal

pub returns : goal.returns
returns c =
    within-none c.args.p.now.cycles c.args.chunk c.valid_bits.result (record { zero = c.args.zero; one = c.args.one }) c.within.result c.within.ensures c.valid_bits.ensures
