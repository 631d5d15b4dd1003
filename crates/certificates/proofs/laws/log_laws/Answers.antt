use Rattle.certificates.proofs.ValidLog.{logs_are_in, printed_is_valid}
use Rattle.certificates.proofs.laws.log_laws.Goals as goal

pub returns : goal.returns
returns c = record { signals = logs_are_in; valid = printed_is_valid }
