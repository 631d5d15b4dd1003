use Rattle.known_planes.specs.Rows.{row_has}
use Rattle.known_planes.proofs.InPlace.{taken-closure}
use Rattle.known_planes.proofs.closer.Closer.close_in_place.Goals as goal

pub returns-clause-closure : goal.returns-clause-closure
returns-clause-closure g c =
    taken-closure c.args.p.now c.args.planes.now c.in_ok-added.added c.in_ok-all.all c.take_words.new.planes (row_has c.args.p.now c.args.sig c.args.row.now) c.in_ok-added.ensures.literals c.take_words.ensures.literals
    c.in_ok-all.ensures.closure
