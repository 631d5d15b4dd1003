use Rattle.std.proofs.Common.{ℕ, ◌≡◌, ◌<◌, ◌≤◌, ◌⊎◌, ◌+◌, ◌*◌, false, length, get_or}
use Rattle.unroll.specs.Bits.{is_set}
use Rattle.cycle_sim.proofs.bit_rows.set_words.Given as goal

-- the first words are those of the bits, and all words elsewhere are as they were
abbrev pub invariant-loop-k : goal.invariant-loop-k
invariant-loop-k l =
    (length l.words ≡ length l.fn.words)
    × ((m i : ℕ) → m < l.k → i < 64 → is_set (get_or l.words (l.start + m) 0) i ≡ get_or l.bits (64 * m + i) false)
    × ((p : ℕ) → (p < l.start) ⊎ (l.start + l.k ≤ p) → get_or l.words p 0 ≡ get_or l.fn.words p 0)
