-- The names of a netlist's text, the numbers of its signals, and what drives them.
use Rattle.std.specs.Prelude.{ℕ, ◌≤◌, IsTrue, Bool, not, List, [], ◌∷◌, map, length, nat_eq, Option, Some, None, All}
use Rattle.std.specs.Cmp.Lexicographic.{pointwise}
use Rattle.std.specs.List.{filter, find, flat_map, list_any, position_or_len}
use Rattle.sr_text.specs.Name.{is_name}
use Rattle.sr_model.specs.declared.cells.Sig.{Sig}
use Rattle.sr_model.specs.Declaration.{Declaration, InputNamed, OutputNamed, DriverNamed}
use Rattle.sr_model.specs.Gate.{IsPinCount}
use Rattle.sr_model.specs.Netlist.{Driver, Input, Driven}

-- each name of a list once, where it first stands
abbrev pub once : List (List ℕ) → List (List ℕ)
once [] = []
once (name ∷ names) = name ∷ filter (λ other. not (pointwise nat_eq name other)) (once names)

-- the names that a statement mentions: its target first, and then its pins from left to right
abbrev pub mentions : Declaration → List (List ℕ)
mentions (InputNamed name) = name ∷ []
mentions (OutputNamed name) = name ∷ []
mentions (DriverNamed target kind pins) = target ∷ pins

-- the name that an INPUT gives
abbrev pub input_name : Declaration → List (List ℕ)
input_name (InputNamed name) = name ∷ []
input_name (OutputNamed name) = []
input_name (DriverNamed target kind pins) = []

-- the name that an OUTPUT gives
abbrev pub output_name : Declaration → List (List ℕ)
output_name (InputNamed name) = []
output_name (OutputNamed name) = name ∷ []
output_name (DriverNamed target kind pins) = []

-- the name that a statement drives
abbrev pub driven_name : Declaration → List (List ℕ)
driven_name (InputNamed name) = name ∷ []
driven_name (OutputNamed name) = []
driven_name (DriverNamed target kind pins) = target ∷ []

-- the names of a statement's pins, as often as they stand
abbrev pub pin_names : Declaration → List (List ℕ)
pin_names (InputNamed name) = []
pin_names (OutputNamed name) = []
pin_names (DriverNamed target kind pins) = pins

-- the names of a text, by their first mentions
abbrev pub names_of : List Declaration → List (List ℕ)
names_of ds = once (flat_map mentions ds)

-- the place of a name in a list, from 0
abbrev pub place_in : List (List ℕ) → List ℕ → ℕ
place_in names name = position_or_len (pointwise nat_eq name) names

-- the signal whose number is the place of its name
abbrev pub sig_in : List (List ℕ) → List ℕ → Sig
sig_in names name = record { 0 = place_in names name }

-- the signal of a name of a text
abbrev pub sig_of : List Declaration → List ℕ → Sig
sig_of ds = sig_in (names_of ds)

-- the signals of the INPUT statements, in order
abbrev pub inputs_of : List Declaration → List Sig
inputs_of ds = map (sig_of ds) (flat_map input_name ds)

-- the signals of the OUTPUT statements, each where its first one stands
abbrev pub outputs_of : List Declaration → List Sig
outputs_of ds = map (sig_of ds) (once (flat_map output_name ds))

-- the signals of all pins, in order
abbrev pub all_pins : List Declaration → List Sig
all_pins ds = map (sig_of ds) (flat_map pin_names ds)

-- whether a statement drives the name
abbrev pub drives : List ℕ → Declaration → Bool
drives name d = list_any (pointwise nat_eq name) (driven_name d)

-- what a statement says of the driver
abbrev pub stated_driver : (List ℕ → Sig) → Declaration → Driver
stated_driver sig (InputNamed name) = Input
stated_driver sig (OutputNamed name) = Input
stated_driver sig (DriverNamed target kind pins) = Driven kind (map sig pins)

-- the driver that a statement states, if there is one
abbrev pub driver_by : (List ℕ → Sig) → Option Declaration → Driver
driver_by sig (Some d) = stated_driver sig d
driver_by sig None = Input

-- what drives a name, by the first statement that drives it
abbrev pub driver_for : List Declaration → List ℕ → Driver
driver_for ds name = driver_by (sig_of ds) (find (drives name) ds)

-- what drives each signal, by number
abbrev pub drivers_of : List Declaration → List Driver
drivers_of ds = map (driver_for ds) (names_of ds)

-- a statement has as many pins as its kind may have
abbrev pub HasPinCount : Declaration → Type 0
HasPinCount (InputNamed name) = Unit {0}
HasPinCount (OutputNamed name) = Unit {0}
HasPinCount (DriverNamed target kind pins) = IsPinCount kind (length pins)

-- 1 to 255 bytes that may stand in a name
abbrev pub IsSignalName : List ℕ → Type 0
IsSignalName name = IsTrue (is_name name) × (length name ≤ 255)

-- a statement as a text has it: as many pins as the kind may have, and names of signals
abbrev pub IsStatement : Declaration → Type 0
IsStatement d = HasPinCount d × All IsSignalName (mentions d)
