use Rattle.sr_model.proofs.Missed.{always, never}
use Rattle.sr_model.proofs.laws.missed_example.Goals as goal

pub returns : goal.returns
returns c = (always, never)
