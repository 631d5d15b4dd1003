use Rattle.sr_model.proofs.DecidedLevels.{closure_test}
use Rattle.sr_model.proofs.FirstClash.{clash_or_none, dump_clash_or_none}
use Rattle.sr_model.proofs.laws.decision_laws.Goals as goal

pub returns : goal.returns
returns c = record { closure = closure_test; clash = clash_or_none; dump = dump_clash_or_none }
