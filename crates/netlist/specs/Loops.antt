-- The loops through gates. A flip-flop is no gate, so no loop goes through one.
use Rattle.std.specs.Prelude.{ℕ, ◌≡◌, ◌≢◌, ◌+◌, ◌≤◌, IsTrue, List, [], ◌∷◌, ◌++◌, length}
use Rattle.std.specs.List.{AllPairs, Contains}
use Rattle.sr_model.specs.declared.cells.Sig.{Sig}
use Rattle.sr_model.specs.Netlist.{Driver}
use Rattle.netlist.specs.Wiring.{driver_at, is_gate, pins_of}

-- some pin of s is in the list
abbrev pub HasPinIn : List Driver → List Sig → Sig → Type 0
HasPinIn drivers signals s = (pin : Sig) × Contains (pins_of (driver_at drivers s.0)) pin × Contains signals pin

-- each signal of the list is driven by a gate that has a pin in the list
abbrev pub EachHasPinWithin : List Driver → List Sig → Type 0
EachHasPinWithin drivers signals = (s : Sig) → Contains signals s → IsTrue (is_gate (driver_at drivers s.0)) × HasPinIn drivers signals s

-- The signal is on a loop, or a loop leads to it through gates: some list has it, each of whose signals is driven by a gate that has a pin in the list.
pub record IsFedByLoop (drivers : List Driver) (s : Sig) : Type 0 where
  pub signals : List Sig
  pub each : EachHasPinWithin drivers signals
  pub member : Contains signals s

-- no gate is fed by a loop
abbrev pub HasNoLoop : List Driver → Type 0
HasNoLoop drivers = (s : Sig) → IsFedByLoop drivers s → ⊥

-- the signal with the least number that a loop feeds
pub record IsLeastFed (drivers : List Driver) (s : Sig) : Type 0 where
  pub fed : IsFedByLoop drivers s
  pub least : (t : Sig) → IsFedByLoop drivers t → s.0 ≤ t.0

-- next is the first pin of s, from the left, that a loop feeds
pub record IsNext (drivers : List Driver) (s next : Sig) : Type 0 where
  pub before : List Sig
  pub after : List Sig
  pub pins : pins_of (driver_at drivers s.0) ≡ before ++ next ∷ after
  pub fed : IsFedByLoop drivers next
  pub first : (pin : Sig) → Contains before pin → IsFedByLoop drivers pin → ⊥

-- the signals that the walk meets, the newest first: it begins at the least that a loop feeds, and goes from each to the next
abbrev pub IsWalk : List Driver → List Sig → Type 0
IsWalk drivers [] = ⊥
IsWalk drivers (s ∷ []) = IsLeastFed drivers s
IsWalk drivers (next ∷ s ∷ earlier) = IsNext drivers s next × IsWalk drivers (s ∷ earlier)

-- The name is the first signal that the walk meets a second time, and the length the number of steps between the two meetings.
pub record IsLoop (drivers : List Driver) (name : Sig) (steps : ℕ) : Type 0 where
  pub since : List Sig
  pub earlier : List Sig
  pub walk : IsWalk drivers (name ∷ (since ++ name ∷ earlier))
  pub first : AllPairs (λ a b. a ≢ b) (since ++ name ∷ earlier)
  pub count : steps ≡ length since + 1
