use Rattle.std.proofs.Common.{ap}
use Rattle.restore_program.specs.WordRules.{taken_by}
use Rattle.restore_program.proofs.BadNumbers.{no_number}
use Rattle.restore_program.proofs.word_numbers.is_bad.Goals as goal

pub returns-in-Number : goal.returns-in-Number
returns-in-Number c = no_number (taken_by c.args.takes) c.in-Number.least c.in-Number.most c.args.value.now c.number_in.result c.is_none.result (ap taken_by c.in-Number.is) c.number_in.ensures c.is_none.ensures
