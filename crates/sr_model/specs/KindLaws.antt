-- The laws of the kinds: how many pins each may have, and the family that says how its target follows from them.
use Rattle.std.specs.Prelude.{ℕ, ◌≡◌, ◌⊎◌, true, length}
use Rattle.sr_model.specs.declared.gates.Family.{Family}
use Rattle.sr_model.specs.declared.gates.Family.TheVariants.{AndLike, Parity}
use Rattle.sr_model.specs.declared.gates.Kind.{Kind}
use Rattle.sr_model.specs.declared.gates.Kind.TheVariants.{Dff}
use Rattle.sr_model.specs.AndLike.{IsAndLike}
use Rattle.sr_model.specs.Gate.{is_flip_flop_kind, family_of, IsFewPins, IsPinCount}
use Rattle.sr_model.specs.Netlist.{Instance}
use Rattle.sr_model.specs.XorLike.{IsXorLike}

-- the instance's target follows from its pins as the family says
abbrev pub IsOfFamily : Family → Instance → Type 0
IsOfFamily (AndLike pins target) i = IsAndLike pins target i
IsOfFamily (Parity inverted) i = IsXorLike inverted i

-- each instance is of its kind's family, where it has as many pins as the kind may have
abbrev pub HasItsFamily : Type 0
HasItsFamily = (i : Instance) → IsPinCount i.kind (length i.pins) → IsOfFamily (family_of i.kind) i

-- each kind has one pin at least, and no more than a gate may have
abbrev pub HasSomePins : Type 0
HasSomePins = (kind : Kind) (n : ℕ) → IsPinCount kind n → IsFewPins n

-- a kind may have so many pins, or it may not
abbrev pub PinCountIsDecided : Type 0
PinCountIsDecided = (kind : Kind) (n : ℕ) → IsPinCount kind n ⊎ ¬ IsPinCount kind n

-- DFF is the only flip-flop
abbrev pub FlipFlopIsDff : Type 0
FlipFlopIsDff = (kind : Kind) → is_flip_flop_kind kind ≡ true → kind ≡ Dff
