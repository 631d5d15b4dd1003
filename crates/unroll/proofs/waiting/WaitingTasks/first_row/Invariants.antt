use Rattle.std.proofs.Common.{ℕ, ◌≡◌, ◌*◌, ◌<◌, ◌≤◌}
use Rattle.unroll.specs.Waiting.{row_length, row_word}
use Rattle.unroll.proofs.waiting.WaitingTasks.first_row.Given as goal

abbrev pub invariant-loop-group : goal.invariant-loop-group
invariant-loop-group l = (r : ℕ) → l.from ≤ r → r < l.group * 64 → r < row_length l.self.signals → row_word l.self.signals l.self.words l.chunk r ≡ 0
