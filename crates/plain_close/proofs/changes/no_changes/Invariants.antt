use Rattle.std.proofs.Common.{◌≡◌, [], length}
use Rattle.std.specs.List.{All}
use Rattle.sr_model.specs.Room.{WithRoom}
use Rattle.plain_close.specs.declared.changes.Change.{Change}
use Rattle.plain_close.proofs.changes.no_changes.Given as goal

abbrev pub invariant-loop : goal.invariant-loop
invariant-loop l = (length l.lists.items ≡ l.counter) × All (λ (list : WithRoom Change). list.items ≡ []) l.lists.items
