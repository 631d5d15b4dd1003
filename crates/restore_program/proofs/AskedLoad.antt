-- What the words of a `load` ask for.
use Rattle.std.proofs.Common.{◌≤◌, ℕ, List}
use Rattle.sr_model.specs.Limits.{max_signals}
use Rattle.restore_program.specs.Words.{Loads}

pub load_size : (words : List (List ℕ)) (number signals : ℕ) → Loads words number signals → (16 ≤ signals) × (signals ≤ max_signals)
load_size words number signals is = let size = is.has_signals.3 in (size.1, size.2)
