use Rattle.std.proofs.Common.{ℕ, ◌≡◌, ◌+◌, ◌++◌, length, map}
use Rattle.std.specs.List.{range_with_len}
use Rattle.cycle_sim.specs.Load.{gate_start, load_gate}
use Rattle.cycle_sim.specs.Words.{generator_at}
use Rattle.cycle_sim.proofs.load.push_gates.Given as goal

-- so many gates are drawn and added
abbrev pub invariant-loop-i : goal.invariant-loop-i
invariant-loop-i l =
    (length l.lines ≡ length l.fn.lines + l.i)
    × ((number : ℕ) → l.fn.generator ≡ generator_at 2 number 0
    → (l.generator ≡ generator_at 2 number (gate_start number l.i)) × (l.lines ≡ l.fn.lines ++ map (load_gate number l.signals) (range_with_len 0 l.i)))
