-- What the words of a flip-flop's blocks say in a chunk: a bit for each instance, by the cycle of its data pin.
use Rattle.std.specs.Prelude.{ℕ, ◌+◌, ◌-◌, ◌==◌, ◌&&◌, ◌||◌, Bool, nat_lt, if◌then◌else◌, slice_index_or}
use Rattle.sr_model.specs.declared.cells.Sig.{Sig}
use Rattle.sr_model.specs.Netlist.{Driver}
use Rattle.netlist.specs.Wiring.{pins_of}
use Rattle.unroll.specs.declared.problem.Block.{Block}
use Rattle.unroll.specs.Bits.{is_set}
use Rattle.gate_rules.specs.declared.flip_flops.CellBlocks.{CellBlocks}

-- the signal of the data pin
abbrev pub data_pin : Driver → Sig
data_pin driver = slice_index_or (pins_of driver) 0 (record { 0 = 0 })

-- the bit of the cycle after that of bit i, by the words of the chunk and of the next one
abbrev pub is_set_after : ℕ → ℕ → ℕ → Bool
is_set_after own next i = if nat_lt i 63 then is_set own (i + 1) else is_set next 0

-- a literal is known of the data pin in the cycle of bit i, or of the flip-flop in the cycle after, and there is such a cycle
abbrev pub is_shared : ℕ → ℕ → ℕ → ℕ → ℕ → Bool
is_shared pin own next valid i = (is_set pin i || is_set_after own next i) && is_set valid i

-- the block's bit i is the data pin's at an instance of the word, or the flip-flop's one cycle later
abbrev pub is_bit_of : CellBlocks → Block → ℕ → ℕ → Bool
is_bit_of cells b shared i =
    ((b.0 == cells.pin.0) && is_set shared i)
    || (((b.0 == cells.own.0) && (nat_lt 0 i && is_set shared (i - 1))) || ((b.0 == cells.next.0) && ((i == 0) && is_set shared 63)))
