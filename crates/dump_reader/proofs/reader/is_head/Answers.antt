use Rattle.std.proofs.Common.{refl}
use Rattle.dump_reader.specs.Head.{format, version}
use Rattle.dump_reader.proofs.Front.{second_tested, first_tested, none_tested}
use Rattle.dump_reader.proofs.reader.is_head.Goals as goal

pub returns-then-eq : goal.returns-then-eq
returns-then-eq c =
    second_tested c.args.text.now c.in-Some.word.now c.in-Some.version.now format version c.eq.result c.eq-then-eq.result format version
    c.in-Some.ensures refl refl c.eq.ensures c.if-eq.true c.eq-then-eq.ensures

pub returns-else-eq : goal.returns-else-eq
returns-else-eq c =
    first_tested c.args.text.now c.in-Some.word.now c.in-Some.version.now format version c.eq.result format c.in-Some.ensures refl c.eq.ensures c.if-eq.false

pub returns-in-None : goal.returns-in-None
returns-in-None c = none_tested c.args.text.now format version c.in-None.ensures
