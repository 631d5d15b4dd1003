use Rattle.std.proofs.Common.{ℕ, ◌≡◌, ◌<◌, false, length, get_or}
use Rattle.cycle_sim.specs.Frames.{in_frame}
use Rattle.cycle_sim.proofs.cycles.keep.Given as goal

abbrev pub invariant-loop-j : goal.invariant-loop-j
invariant-loop-j l = (length l.row ≡ length l.fn.row) × ((k : ℕ) → k < l.j → get_or l.row k false ≡ in_frame l.frame (get_or l.kept k (record { 0 = 0 })))
