use Rattle.std.proofs.Common.{subst, sym}
use Rattle.known_planes.specs.WordLists.{IsWordList, ListsWords}
use Rattle.known_planes.proofs.WordLists.{planes-list, planes-listed}
use Rattle.known_planes.proofs.planes.Planes.words.Goals as goal

pub returns-clause-list : goal.returns-clause-list
returns-clause-list c u of =
    subst (IsWordList u) (sym c.as_slice.ensures.value)
    (planes-list u c.self.inside.signals c.self.inside.chunks c.self.inside.words.items _ c.args.self.now of c.self.view_is c.self.invariant.0)

pub returns-clause-words : goal.returns-clause-words
returns-clause-words c u of =
    subst (ListsWords u c.args.self.now) (sym c.as_slice.ensures.value)
    (planes-listed u c.self.inside.signals c.self.inside.chunks c.self.inside.words.items _ c.args.self.now of c.self.view_is)
