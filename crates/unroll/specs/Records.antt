-- What a turn of a task needs to know of each signal.
use Rattle.std.specs.Prelude.{ℕ, ◌≡◌, ◌≢◌, ◌+◌, ◌<◌, ◌≤◌, ◌++◌, ◌∷◌, [], ◌&&◌, ◌||◌, Bool, true, false, nat_lt, List, length, take, drop, if◌then◌else◌, slice_index_or}
use Rattle.sr_model.specs.declared.cells.Sig.{Sig}
use Rattle.sr_model.specs.declared.gates.Kind.{Kind}
use Rattle.sr_model.specs.Gate.{family_of, is_flip_flop_kind}
use Rattle.sr_model.specs.Netlist.{Driver, Input, Driven}
use Rattle.netlist.specs.Wiring.{driver_at, is_driven, is_flip_flop, is_gate, other_readers, reads}
use Rattle.unroll.specs.Bits.{is_set}
use Rattle.unroll.specs.declared.records.Shape.{Shape}
use Rattle.unroll.specs.declared.records.Shape.TheVariants as shapes
use Rattle.unroll.specs.declared.records.SignalRecord.{SignalRecord}

-- the driver has this shape, with these pins
abbrev pub HasShape : Shape → Driver → Sig → Sig → Sig → Type 0
HasShape shapes.Input driver s x y = driver ≡ Input
HasShape (shapes.OnePin family) driver s x y = (kind : Kind) × (driver ≡ Driven kind (x ∷ [])) × (family_of kind ≡ family) × (is_flip_flop_kind kind ≡ false) × (x ≢ s)
HasShape (shapes.TwoPins family) driver s x y =
    (kind : Kind) × (driver ≡ Driven kind (x ∷ y ∷ [])) × (family_of kind ≡ family) × (is_flip_flop_kind kind ≡ false) × (x ≢ s) × (y ≢ s) × (x ≢ y)
HasShape shapes.FlipFlop driver s x y = (kind : Kind) × (driver ≡ Driven kind (x ∷ [])) × (is_flip_flop_kind kind ≡ true) × (x ≢ s)
HasShape shapes.OwnPin driver s x y = (kind : Kind) × (driver ≡ Driven kind (s ∷ [])) × (is_flip_flop_kind kind ≡ true)
HasShape shapes.Other driver s x y = is_gate driver ≡ true

-- the pin at a place, or the signal itself
abbrev pub pin_or : Sig → List Sig → ℕ → Sig
pin_or s pins j = slice_index_or pins j s

-- the signals whose tasks in a chunk a block of the signal is in: its own, where it is driven, and those of its other readers
abbrev pub adjacent_signals : List Driver → Sig → List Sig
adjacent_signals drivers s = (if is_driven (driver_at drivers s.0) then s ∷ [] else []) ++ other_readers drivers s

-- the record says what drives the signal, and where the signals stand that are adjacent to it
pub record IsRecordOf (drivers : List Driver) (adjacent : List Sig) (s : Sig) (record_of : SignalRecord) : Type 0 where
  pub shape : HasShape record_of.shape (driver_at drivers s.0) s record_of.first record_of.second
  pub within : record_of.start + record_of.count ≤ length adjacent
  pub part : take record_of.count (drop record_of.start adjacent) ≡ adjacent_signals drivers s

-- so does the record of each of the first signals
abbrev pub AreRecordsOf : List Driver → List Sig → List SignalRecord → Type 0
AreRecordsOf drivers adjacent records =
    (s : ℕ) (d : SignalRecord) → s < length records → IsRecordOf drivers adjacent (record { 0 = s }) (slice_index_or records s d)

-- fresh bits of a signal's block are in its flip-flop's task of the chunk before: bit 0 is
abbrev pub wakes_before : List Driver → Sig → ℕ → ℕ → Bool
wakes_before drivers s chunk fresh = is_flip_flop (driver_at drivers s.0) && (nat_lt 0 chunk && is_set fresh 0)

-- whether fresh bits of a driven signal's block are in its task of the chunk: of a flip-flop all bits but bit 0 are, and that one where it is its own pin
abbrev pub wakes_own : Driver → Sig → ℕ → Bool
wakes_own driver s fresh = is_gate driver || (is_flip_flop driver && (nat_lt 1 fresh || reads driver s))

-- the signals whose tasks of the chunk they are in
abbrev pub woken_signals : List Driver → Sig → ℕ → List Sig
woken_signals drivers s fresh = (if wakes_own (driver_at drivers s.0) s fresh then s ∷ [] else []) ++ other_readers drivers s
