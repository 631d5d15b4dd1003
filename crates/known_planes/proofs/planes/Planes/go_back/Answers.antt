use Rattle.std.proofs.Common.{arith}
use Rattle.std.specs.Prelude.{Some}
use Rattle.known_planes.proofs.GoingBack.{back-count, back-less}
use Rattle.known_planes.proofs.planes.Planes.go_back.Goals as goal

pub put_back-requires-clause-less : goal.put_back-requires-clause-less
put_back-requires-clause-less c =
    back-less c.args.p.now c.self.inside.signals c.self.inside.chunks c.self.inside.words.items c.self.inside.mark c.in-Some.mark c.args.self.now c.requires.of c.requires.mark c.in-Some.is c.self.view_is

pub returns-in-Some-clause-count : goal.returns-in-Some-clause-count
returns-in-Some-clause-count c =
    back-count c.args.p.now c.self.inside.signals c.self.inside.chunks c.self.inside.words.items c.self.inside.mark c.in-Some.mark c.args.self.now c.requires.of c.requires.mark c.in-Some.is c.self.view_is
    c.put_back.new.words.items c.put_back.result c.put_back.ensures.words c.put_back.ensures.count (Some c.put_back.new.self)

pub returns-in-Some-clause-few : goal.returns-in-Some-clause-few
returns-in-Some-clause-few c = omega (arith, c.put_back.ensures.few)
