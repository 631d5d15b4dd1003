use Rattle.restore_program.proofs.GivenValues.{value_none, value_here, value_other}
use Rattle.restore_program.proofs.word_keys.value_of.Goals as goal

pub returns-in_err-key : goal.returns-in_err-key
returns-in_err-key c = value_none c.args.word.now c.args.name.now c.split_once.result c.from_residual.result c.split_once.ensures.cases c.in_err-key.was c.from_residual.ensures

pub returns-then-eq : goal.returns-then-eq
returns-then-eq c = value_here c.args.word.now c.args.name.now c.split_once.result c.in_ok-key.key c.in_ok-key.value c.eq.result c.split_once.ensures.cases c.in_ok-key.was c.eq.ensures c.if-eq.true

pub returns-else-eq : goal.returns-else-eq
returns-else-eq c = value_other c.args.word.now c.args.name.now c.split_once.result c.in_ok-key.key c.in_ok-key.value c.eq.result c.split_once.ensures.cases c.in_ok-key.was c.eq.ensures c.if-eq.false
