use Rattle.gate_rules.proofs.TaskForcing.{closed_where_done, done_once}
use Rattle.gate_rules.proofs.laws.done_laws.Goals as goal

pub returns : goal.returns
returns c = record { closed = closed_where_done; once = done_once }
