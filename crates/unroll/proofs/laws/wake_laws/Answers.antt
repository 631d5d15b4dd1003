use Rattle.unroll.proofs.WokenTasks.{fresh_bits_wake, woken_are_targets, woken_are_tasks}
use Rattle.unroll.proofs.laws.wake_laws.Goals as goal

pub returns : goal.returns
returns c = record { fresh = fresh_bits_wake; tasks = woken_are_tasks; targets = woken_are_targets }
