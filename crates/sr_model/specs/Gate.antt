-- What a gate does with the bits of its pins.
use Rattle.std.specs.Prelude.{ℕ, ◌≡◌, ◌≤◌, ◌%◌, ◌==◌, Bool, true, false, not, List, [], ◌∷◌}
use Rattle.std.specs.List.{count_by, list_all, list_any}
use Rattle.sr_model.specs.Limits.{max_gate_pins}
use Rattle.sr_model.specs.declared.gates.Kind.{Kind}
use Rattle.sr_model.specs.declared.gates.Family.{Family}
use Rattle.sr_model.specs.declared.gates.Family.TheVariants.{AndLike, Parity}
use Rattle.sr_model.specs.declared.gates.Kind.TheVariants.{And, Nand, Or, Nor, Xor, Xnor, Not, Buf, Dff}

abbrev pub all_one : List Bool → Bool
all_one bits = list_all (λ b. b) bits

abbrev pub some_one : List Bool → Bool
some_one bits = list_any (λ b. b) bits

-- an odd number of the bits is 1
abbrev pub odd_one : List Bool → Bool
odd_one bits = count_by (λ b. b) bits % 2 == 1

-- the bit of a lone pin
abbrev pub lone_bit : List Bool → Bool
lone_bit [] = false
lone_bit (b ∷ bits) = b

-- the target's bit, where the pins have these bits; a flip-flop's target has it one cycle later
abbrev pub value : Kind → List Bool → Bool
value And bits = all_one bits
value Nand bits = not (all_one bits)
value Or bits = some_one bits
value Nor bits = not (some_one bits)
value Xor bits = odd_one bits
value Xnor bits = not (odd_one bits)
value Not bits = not (lone_bit bits)
value Buf bits = lone_bit bits
value Dff bits = lone_bit bits

-- the kind is the flip-flop
abbrev pub is_flip_flop_kind : Kind → Bool
is_flip_flop_kind Dff = true
is_flip_flop_kind _ = false

-- how the target's bit follows from the pins' bits
abbrev pub family_of : Kind → Family
family_of And = AndLike true true
family_of Nand = AndLike true false
family_of Or = AndLike false false
family_of Nor = AndLike false true
family_of Xor = Parity false
family_of Xnor = Parity true
family_of Not = AndLike true false
family_of Buf = AndLike true true
family_of Dff = AndLike true true

-- one pin at least, and no more than a gate may have
abbrev pub IsFewPins : ℕ → Type 0
IsFewPins n = (1 ≤ n) × (n ≤ max_gate_pins)

-- a kind may have this many pins
abbrev pub IsPinCount : Kind → ℕ → Type 0
IsPinCount And n = IsFewPins n
IsPinCount Nand n = IsFewPins n
IsPinCount Or n = IsFewPins n
IsPinCount Nor n = IsFewPins n
IsPinCount Xor n = IsFewPins n
IsPinCount Xnor n = IsFewPins n
IsPinCount Not n = n ≡ 1
IsPinCount Buf n = n ≡ 1
IsPinCount Dff n = n ≡ 1
