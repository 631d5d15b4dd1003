-- The bits of one cycle while it is simulated.
use Rattle.std.specs.Prelude.{ℕ, ◌≡◌, ◌==◌, ◌+◌, ◌*◌, ◌%◌, ◌<◌, Bool, true, false, not, List, length, map, slice_index_or, if◌then◌else◌}
use Rattle.std.specs.List.{All}
use Rattle.sr_model.specs.declared.cells.Sig.{Sig}
use Rattle.sr_model.specs.declared.gates.Family.{Family}
use Rattle.sr_model.specs.declared.gates.Family.TheVariants.{AndLike, Parity}
use Rattle.sr_model.specs.Gate.{value}
use Rattle.sr_model.specs.XorLike.{plus}
use Rattle.sr_model.specs.Netlist.{Driver, Input, Driven, Valuation, cell_at}
use Rattle.netlist.specs.Circuit.{Circuit}
use Rattle.netlist.specs.Wiring.{driver_at, is_gate, flip_flops}
use Rattle.netlist.specs.Ranks.{IsOrder}
use Rattle.cycle_sim.specs.BitTable.{BitTable, bit_in}
use Rattle.cycle_sim.specs.Simulation.{IsSimulated}
use Rattle.cycle_sim.specs.declared.gates.Gate.{Gate}

-- the frame has the valuation's bit of a signal in the cycle
abbrev pub IsRight : Valuation → ℕ → List Bool → Sig → Type 0
IsRight v cycle frame s = slice_index_or frame s.0 false ≡ v (cell_at cycle s)

-- and so of all signals of a kind, in the simulated execution
abbrev pub AreRight : Circuit → BitTable → ℕ → List Bool → (Sig → Type 0) → Type 0
AreRight c stimulus cycle frame Among = (v : Valuation) → IsSimulated c stimulus.count (bit_in stimulus) v → (s : Sig) → s.0 < length c.drivers → Among s → IsRight v cycle frame s

abbrev pub AllRight : Circuit → BitTable → ℕ → List Bool → Type 0
AllRight c stimulus cycle frame = (v : Valuation) → IsSimulated c stimulus.count (bit_in stimulus) v → (s : Sig) → s.0 < length c.drivers → IsRight v cycle frame s

-- what is right in the one frame is right in the other
abbrev pub StayRight : Circuit → BitTable → ℕ → List Bool → List Bool → Type 0
StayRight c stimulus cycle before after = (v : Valuation) → IsSimulated c stimulus.count (bit_in stimulus) v → (s : Sig) → IsRight v cycle before s → IsRight v cycle after s

-- the bits that flip-flops have in the cycle, in their order
abbrev pub IsState : Circuit → BitTable → ℕ → List Bool → Type 0
IsState c stimulus cycle state =
    (v : Valuation) → IsSimulated c stimulus.count (bit_in stimulus) v → (j : ℕ) → j < length (flip_flops c.drivers)
    → slice_index_or state j false ≡ v (cell_at cycle (slice_index_or (flip_flops c.drivers) j (record { 0 = 0 })))

-- which of the four outputs is that for two bits
abbrev pub output_index : Bool → Bool → ℕ
output_index first second = (if first then 1 else 0) + 2 * (if second then 1 else 0)

-- what a gate or flip-flop gives, where the signals have these bits
abbrev pub value_by : Driver → (Sig → Bool) → Bool
value_by Input bits = false
value_by (Driven kind pins) bits = value kind (map bits pins)

-- what a gate of a family gives, where so many of its pins are 1
abbrev pub bit_by_count : Family → ℕ → ℕ → Bool
bit_by_count (AndLike bit target) ones pins = if ones == (if bit then pins else 0) then target else not target
bit_by_count (Parity inverted) ones pins = plus inverted (ones % 2 == 1)

-- The gate that drives a signal. Where it is not wide it has one or two pins, a lone one twice, and these outputs: what it gives for each two bits of them.
pub record IsGate (c : Circuit) (gate : Gate) : Type 0 where
  pub target : gate.target.0 < length c.drivers
  pub driven : is_gate (driver_at c.drivers gate.target.0) ≡ true
  pub first : gate.first.0 < length c.drivers
  pub second : gate.second.0 < length c.drivers
  pub outputs : gate.wide ≡ false → (bits : Sig → Bool) → slice_index_or gate.outputs (output_index (bits gate.first) (bits gate.second)) false ≡ value_by (driver_at c.drivers gate.target.0) bits

-- the gates stand in the netlist's order
pub record AreGates (c : Circuit) (gates : List Gate) : Type 0 where
  pub ordered : IsOrder c.drivers (map (λ gate. gate.target) gates)
  pub each : All (IsGate c) gates

-- the bit of a signal in a frame
abbrev pub in_frame : List Bool → Sig → Bool
in_frame frame s = slice_index_or frame s.0 false
