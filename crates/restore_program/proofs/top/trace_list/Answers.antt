use Rattle.restore_program.proofs.GivenValues.{value_at, some_given}
use Rattle.restore_program.specs.Words.{trace_rule}
use Rattle.restore_program.proofs.top.trace_list.Goals as goal

pub unwrap-requires : goal.unwrap-requires
unwrap-requires c = some_given c.args.word.now trace_rule.name c.value_of.result c.value_of.ensures c.requires

pub returns : goal.returns
returns c = value_at c.args.word.now trace_rule.name c.value_of.result c.unwrap.result c.value_of.ensures c.unwrap.ensures
