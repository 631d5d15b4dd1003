use Rattle.std.proofs.Common.{ℕ, ◌≡◌, ◌<◌, ◌≤◌, ◌+◌, false, get_or}
use Rattle.unroll.specs.Bits.{is_set}
use Rattle.cycle_sim.proofs.bit_rows.packed.Given as goal

-- the first bits are set, and the later ones are 0
abbrev pub invariant-loop-i : goal.invariant-loop-i
invariant-loop-i l = ((k : ℕ) → k < l.i → is_set l.word k ≡ get_or l.bits (l.from + k) false) × ((k : ℕ) → l.i ≤ k → k < 64 → is_set l.word k ≡ false)
