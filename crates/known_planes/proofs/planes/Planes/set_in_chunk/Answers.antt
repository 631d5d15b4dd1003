use Rattle.known_planes.proofs.Members.{set-is, of-with_pair}
use Rattle.known_planes.proofs.planes.Planes.set_in_chunk.Goals as goal

pub returns-clause-of : goal.returns-clause-of
returns-clause-of c =
    of-with_pair c.args._p.now c.args.self.now c.args.at.sig c.args.at.chunk c.args.w c.requires.of c.requires.inside.0 c.requires.inside.1 c.requires.no_later c.set_pair.new.self
    (set-is c.args._p.now c.args.self.now c.args.at.sig c.args.at.chunk c.args.w c.requires.of c.set_pair.new.self c.set_pair.ensures)
