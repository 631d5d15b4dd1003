-- The ranks of signals, and the order of gates that they give.
use Rattle.std.specs.Prelude.{ℕ, ◌≡◌, ◌+◌, ◌<◌, ◌⊎◌, ◌↔◌, IsTrue, List, [], ◌∷◌, length, max, slice_index, if◌then◌else◌}
use Rattle.std.specs.List.{AllPairs, Contains}
use Rattle.sr_model.specs.declared.cells.Sig.{Sig}
use Rattle.sr_model.specs.Netlist.{Driver}
use Rattle.netlist.specs.Wiring.{driver_at, is_gate, pins_of}

-- the greatest rank of the pins
abbrev pub greatest_rank : List ℕ → List Sig → ℕ
greatest_rank ranks [] = 0
greatest_rank ranks (pin ∷ pins) = max (slice_index ranks pin.0) (greatest_rank ranks pins)

-- 0 for an input and a flip-flop, and one more than the greatest rank of its pins for a gate
abbrev pub rank_by : List ℕ → Driver → ℕ
rank_by ranks driver = if is_gate driver then greatest_rank ranks (pins_of driver) + 1 else 0

-- the ranks of all signals, by number
pub record IsRank (drivers : List Driver) (ranks : List ℕ) : Type 0 where
  pub size : length ranks ≡ length drivers
  pub each : (s : ℕ) → slice_index ranks s ≡ rank_by ranks (driver_at drivers s)

-- by rank and then by number
abbrev pub ComesBefore : List ℕ → Sig → Sig → Type 0
ComesBefore ranks a b = (slice_index ranks a.0 < slice_index ranks b.0) ⊎ ((slice_index ranks a.0 ≡ slice_index ranks b.0) × (a.0 < b.0))

-- the signals that gates drive, each once, by rank and then by number
pub record IsOrder (drivers : List Driver) (order : List Sig) : Type 0 where
  pub ranks : List ℕ
  pub is_rank : IsRank drivers ranks
  pub gates : (s : Sig) → Contains order s ↔ IsTrue (is_gate (driver_at drivers s.0))
  pub ascending : AllPairs (ComesBefore ranks) order
