-- The bits that are drawn for the inputs.
use Rattle.std.specs.Prelude.{ℕ, ◌+◌, ◌*◌, Bool}
use Rattle.unroll.specs.Bits.{is_set}
use Rattle.cycle_sim.specs.Simulation.{AgreeOnInputs}
use Rattle.cycle_sim.specs.Words.{word_at}

-- One word of stream 1 for each input in each cycle, cycle after cycle; its top bit is the input's.
abbrev pub drawn_bit : ℕ → ℕ → ℕ → ℕ → Bool
drawn_bit seed inputs cycle input = is_set (word_at 1 seed (cycle * inputs + input)) 31

-- the bits given for so many inputs over so many cycles are those drawn from the seed
abbrev pub AreDrawn : ℕ → ℕ → ℕ → (ℕ → ℕ → Bool) → Type 0
AreDrawn seed inputs cycles given = AgreeOnInputs inputs cycles given (drawn_bit seed inputs)
