use Rattle.std.proofs.Common.{ℕ, ◌≡◌, ◌+◌, ◌++◌, length, map}
use Rattle.std.specs.List.{range_with_len}
use Rattle.cycle_sim.specs.Load.{gate_count, gate_start, load_flip_flop}
use Rattle.cycle_sim.specs.Words.{generator_at}
use Rattle.cycle_sim.proofs.load.push_flip_flops.Given as goal

-- so many flip-flops are drawn and added
abbrev pub invariant-loop-i : goal.invariant-loop-i
invariant-loop-i l =
    (length l.lines ≡ length l.fn.lines + l.i)
    × ((number : ℕ) → l.fn.generator ≡ generator_at 2 number (gate_start number (gate_count l.signals))
    → (l.generator ≡ generator_at 2 number (gate_start number (gate_count l.signals) + l.i)) × (l.lines ≡ l.fn.lines ++ map (load_flip_flop number l.signals) (range_with_len 0 l.i)))
