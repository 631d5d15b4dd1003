use Rattle.std.proofs.Common.{◌≡◌, ◌≤◌}
use Rattle.steal_queue.proofs.queue.Queue.look.Given as goal

abbrev pub ghosts-load : goal.ghosts-load
ghosts-load a = record { then = λ st me found me'. (me' ≡ me) × (a.self.now.key.chunks ≤ found) }
