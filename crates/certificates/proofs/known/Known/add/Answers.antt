use Rattle.certificates.proofs.Adding.{added, no-later}
use Rattle.certificates.proofs.known.Known.add.Goals as goal

pub add_in_chunk-requires-clause-no_later : goal.add_in_chunk-requires-clause-no_later
add_in_chunk-requires-clause-no_later c =
    no-later c.args.p.now c.args.l c.requires.cell.early c.of-words.result c.of-words.ensures.own c.of-words.ensures.other

pub returns-clause-literals : goal.returns-clause-literals
returns-clause-literals c =
    added c.args.p.now c.args.l c.requires.cell.early c.of-words.result c.of-words.ensures.own c.of-words.ensures.other c.args.self.now.planes c.add_in_chunk.new.self c.add_in_chunk.ensures.joins
