-- The printed text of a netlist.
use Rattle.std.specs.Prelude.{ℕ, List, [], ◌∷◌, ◌++◌, map, length, codes, slice_index_or}
use Rattle.std.specs.List.{flat_map}
use Rattle.sr_model.specs.declared.cells.Sig.{Sig}
use Rattle.sr_model.specs.Netlist.{Driver, Input, Driven}
use Rattle.netlist.specs.Circuit.{Circuit}
use Rattle.netlist.specs.Wiring.{driver_at, signals_below}
use Rattle.bench_reader.specs.Kinds.{kind_text}

-- the name of a signal
abbrev pub name_in : List (List ℕ) → Sig → List ℕ
name_in names s = slice_index_or names s.0 []

-- names, with a comma and a space between them
abbrev pub listed : List (List ℕ) → List ℕ
listed [] = []
listed (name ∷ []) = name
listed (name ∷ next ∷ names) = name ++ codes ", " ++ listed (next ∷ names)

-- the line of a port, by its word
abbrev pub port_line : List ℕ → List ℕ → List ℕ
port_line word name = word ++ codes "(" ++ name ++ codes ")\n"

-- the line of what drives a signal; an input has none
abbrev pub driver_line : List (List ℕ) → Sig → Driver → List ℕ
driver_line names s Input = []
driver_line names s (Driven kind pins) = name_in names s ++ codes " = " ++ kind_text kind ++ codes "(" ++ listed (map (name_in names) pins) ++ codes ")\n"

-- the inputs and the outputs in order, and what drives each other signal, in ascending number
abbrev pub bench_text : Circuit → List ℕ
bench_text c =
    flat_map (λ s. port_line (codes "INPUT") (name_in c.names s)) c.inputs
    ++ flat_map (λ s. port_line (codes "OUTPUT") (name_in c.names s)) c.outputs
    ++ flat_map (λ s. driver_line c.names s (driver_at c.drivers s.0)) (signals_below (length c.drivers))
