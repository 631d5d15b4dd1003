use Rattle.known_planes.proofs.Members.{signal-within, word-of_block}
use Rattle.known_planes.proofs.planes.Planes.word.Goals as goal

pub pair-requires-clause-signal : goal.pair-requires-clause-signal
pair-requires-clause-signal c = signal-within c.self.inside.signals c.self.inside.chunks c.self.inside.words.items _ c.args.self.now c.self.invariant.0 c.self.view_is c.args.b.0 c.requires

pub returns : goal.returns
returns c = word-of_block c.self.inside.signals c.self.inside.chunks c.self.inside.words.items _ c.args.self.now c.self.view_is c.args.b c.pair.result c.pair.ensures
