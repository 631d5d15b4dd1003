use Rattle.std.proofs.Common.{refl}
use Rattle.known_planes.proofs.Marks.{written-noted, written-unmarked}
use Rattle.known_planes.proofs.planes.Planes.set_pair.Goals.{in-Some, in_default}
use Rattle.known_planes.proofs.planes.Planes.set_pair.Goals as goal

pub returns : goal.returns
returns c =
    elim c.match-self.branch [
      | in-Some w ↦
          rw w.self-inside-is
          (written-noted c.self.inside.signals c.self.inside.chunks c.self.inside.words.items c.self.inside.mark c.args.self.now c.self.invariant.0 c.self.view_is c.args.s.0 c.args.chunk
          c.place_among-place.result c.requires.signal c.requires.chunk c.place_among-place.ensures c.args.w c.replace-before.new.words.items c.replace-before.ensures.words
          w.in-Some.mark w.note.new.self c.args.s c.replace-before.result w.in-Some.is refl c.replace-before.ensures.before w.note.ensures.changes)
      | in_default w ↦
          rw w.self-inside-is
          (written-unmarked c.self.inside.signals c.self.inside.chunks c.self.inside.words.items c.self.inside.mark c.args.self.now c.self.invariant.0 c.self.view_is c.args.s.0 c.args.chunk
          c.place_among-place.result c.requires.signal c.requires.chunk c.place_among-place.ensures c.args.w c.replace-before.new.words.items c.replace-before.ensures.words
          w.in_default.is)
    ]
