use Rattle.plain_close.proofs.LogExists.{log_exists}
use Rattle.plain_close.proofs.OneLog.{clash_is_first, log_is_whole, one_log}
use Rattle.plain_close.proofs.laws.log_laws.Goals as goal

pub returns-clause-one_log : goal.returns-clause-one_log
returns-clause-one_log c = one_log

pub returns-clause-exists : goal.returns-clause-exists
returns-clause-exists c = log_exists

pub returns-clause-clash : goal.returns-clause-clash
returns-clause-clash c = clash_is_first

pub returns-clause-whole : goal.returns-clause-whole
returns-clause-whole c = log_is_whole
