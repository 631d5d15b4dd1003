use Rattle.std.proofs.Common.{ℕ, ◌≡◌, ◌<◌, ◌+◌, false, length, get_or}
use Rattle.unroll.specs.Bits.{is_set}
use Rattle.cycle_sim.specs.Words.{generator_at, word_at}
use Rattle.cycle_sim.proofs.drawing.draw.Given as goal

-- so many words are drawn, and their top bits stand in the row
abbrev pub invariant-loop-j : goal.invariant-loop-j
invariant-loop-j l =
    (length l.row ≡ length l.fn.row)
    × ((seed n : ℕ) → l.fn.generator ≡ generator_at 1 seed n → (l.generator ≡ generator_at 1 seed (n + l.j)) × ((k : ℕ) → k < l.j → get_or l.row k false ≡ is_set (word_at 1 seed (n + k)) 31))
