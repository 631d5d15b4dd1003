use Rattle.known_planes.proofs.Layouts.{pair-read}
use Rattle.known_planes.proofs.planes.Planes.pair.Goals as goal

pub returns : goal.returns
returns c =
    pair-read c.self.inside.signals c.self.inside.chunks c.self.inside.words.items _ c.args.self.now c.self.invariant.0 c.self.view_is c.args.s.0 c.args.chunk
    c.requires.signal c.requires.chunk c.place_among-place.result c.place_among-place.ensures c.index.result.now c.index-2.result.now c.index.ensures c.index-2.ensures
