-- The laws of greedy picks.
use Rattle.std.specs.Prelude.{ℕ, ◌≡◌, ◌<◌, ◌≤◌, List, [], length}
use Rattle.std.specs.List.{All, Contains}
use Rattle.sr_model.specs.Netlist.{Valuation}
use Rattle.netlist.specs.Circuit.{Circuit, IsCircuit}
use Rattle.netlist.specs.Wiring.{flip_flops}
use Rattle.cycle_sim.specs.Simulation.{AgreeOnCells}
use Rattle.greedy_select.specs.declared.picks.Pick.{Pick}
use Rattle.greedy_select.specs.Picks.{AreGreedy}

-- for each width up to the number of flip-flops there are so many greedy picks
abbrev pub PicksExist : Type 0
PicksExist = (c : Circuit) (cycles : ℕ) (v : Valuation) (width : ℕ) → width ≤ length (flip_flops c.drivers) → (picks : List Pick) × (length picks ≡ width) × AreGreedy c cycles v [] picks

-- two rankings of one width by the same bits on all cells have the same picks
abbrev pub PicksAgree : Type 0
PicksAgree =
    (c : Circuit) → IsCircuit c → (cycles : ℕ) (v w : Valuation) → AgreeOnCells c cycles v w
    → (picks others : List Pick) → length picks ≡ length others → AreGreedy c cycles v [] picks → AreGreedy c cycles w [] others → picks ≡ others

-- each pick is a flip-flop
abbrev pub PicksAreFlipFlops : Type 0
PicksAreFlipFlops = (c : Circuit) (cycles : ℕ) (v : Valuation) (picks : List Pick) → AreGreedy c cycles v [] picks → All (λ (pick : Pick). Contains (flip_flops c.drivers) pick.sig) picks

-- and a signal of the netlist
abbrev pub PicksAreSignals : Type 0
PicksAreSignals = (c : Circuit) (cycles : ℕ) (v : Valuation) (picks : List Pick) → AreGreedy c cycles v [] picks → All (λ (pick : Pick). pick.sig.0 < length c.drivers) picks
