use Rattle.std.proofs.Common.{◌≡◌, ◌<◌, ◌≤◌, length}
use Rattle.std.specs.List.{All}
use Rattle.steal_queue.specs.Rule.{drew}
use Rattle.steal_queue.proofs.queue.Queue.draw.Given as goal

abbrev pub ghosts-fetch_add : goal.ghosts-fetch_add
ghosts-fetch_add a = record { then = λ st me found me'. (me' ≡ (drew a.self.now.key.chunks found me.0, me.1)) × All (λ x. x < found) me.0.numbers × (length me'.0.numbers ≤ a.self.now.key.chunks) }
