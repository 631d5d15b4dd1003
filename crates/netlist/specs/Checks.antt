-- The rules that statements must keep to be a netlist, and what is said of a refusal.
use Rattle.std.specs.Prelude.{ℕ, ◌≡◌, ◌≢◌, ◌≤◌, List, [], ◌∷◌, ◌++◌, map, length, Contains, Some, slice_get}
use Rattle.std.specs.List.{flat_map, All, AllPairs}
use Rattle.sr_model.specs.Limits.{max_signals, max_pins}
use Rattle.sr_model.specs.Declaration.{Declaration}
use Rattle.netlist.specs.declared.checks.NetRefusal.{NetRefusal}
use Rattle.netlist.specs.declared.checks.NetRefusal.TheVariants.{TooManySignals, TooManyPins, TwoDrivers, NoDriver, Loop, NoMemory}
use Rattle.sr_model.specs.declared.cells.Sig.{Sig}
use Rattle.netlist.specs.Loops.{IsLoop}
use Rattle.netlist.specs.Numbering.{driven_name, pin_names, names_of, drivers_of, place_in}

-- there are `max_signals` names at most
abbrev pub HasFewSignals : List Declaration → Type 0
HasFewSignals ds = length (names_of ds) ≤ max_signals

-- there are `max_pins` pins at most, counted as often as they stand
abbrev pub HasFewPins : List Declaration → Type 0
HasFewPins ds = length (flat_map pin_names ds) ≤ max_pins

-- no name is driven twice
abbrev pub IsDrivenOnce : List Declaration → Type 0
IsDrivenOnce ds = AllPairs (λ a b. a ≢ b) (flat_map driven_name ds)

-- each name is driven
abbrev pub IsDriven : List Declaration → Type 0
IsDriven ds = All (Contains (flat_map driven_name ds)) (names_of ds)

-- the declarations, without their lines
abbrev pub without_lines : List (ℕ × Declaration) → List Declaration
without_lines ds = map (λ (d : ℕ × Declaration). d.1) ds

-- the statements before this line keep the rule, and with the statement of this line they break it
pub record FirstBreaksAt (Rule : List Declaration → Type 0) (ds : List (ℕ × Declaration)) (line : ℕ) : Type 0 where
  pub before : List (ℕ × Declaration)
  pub here : Declaration
  pub after : List (ℕ × Declaration)
  pub split : ds ≡ before ++ (line, here) ∷ after
  pub keeps : Rule (without_lines before)
  pub breaks : ¬ Rule (without_lines (before ++ (line, here) ∷ []))

-- the name is mentioned and not driven, and of such names it has the least number
pub record IsFirstUndriven (ds : List Declaration) (name : List ℕ) : Type 0 where
  pub mentioned : Contains (names_of ds) name
  pub undriven : ¬ Contains (flat_map driven_name ds) name
  pub least : (other : List ℕ) → Contains (names_of ds) other → ¬ Contains (flat_map driven_name ds) other → place_in (names_of ds) name ≤ place_in (names_of ds) other

-- the statements keep all four rules
pub record IsAccepted (ds : List Declaration) : Type 0 where
  pub few_signals : HasFewSignals ds
  pub few_pins : HasFewPins ds
  pub driven_once : IsDrivenOnce ds
  pub driven : IsDriven ds

-- the statements break the rule that the refusal names, there, and keep those that are tried before it; a loop is the one that the walk comes to
abbrev pub IsRefusal : List (ℕ × Declaration) → NetRefusal → Type 0
IsRefusal ds (TooManySignals line) = FirstBreaksAt HasFewSignals ds line
IsRefusal ds (TooManyPins line) = HasFewSignals (without_lines ds) × FirstBreaksAt HasFewPins ds line
IsRefusal ds (TwoDrivers line) = HasFewSignals (without_lines ds) × HasFewPins (without_lines ds) × FirstBreaksAt IsDrivenOnce ds line
IsRefusal ds (NoDriver name) = HasFewSignals (without_lines ds) × HasFewPins (without_lines ds) × IsDrivenOnce (without_lines ds) × IsFirstUndriven (without_lines ds) name.items
IsRefusal ds (Loop name length) = IsAccepted (without_lines ds)
    × ((sig : Sig) × (slice_get (names_of (without_lines ds)) sig.0 ≡ Some name.items) × IsLoop (drivers_of (without_lines ds)) sig length)
IsRefusal ds NoMemory = Unit {0}
