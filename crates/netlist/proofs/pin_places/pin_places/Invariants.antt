use Rattle.std.proofs.Common.{◌≡◌, length}
use Rattle.netlist.specs.Indexed.{ArePlaces}
use Rattle.netlist.specs.Nodes.{drivers_from}
use Rattle.netlist.proofs.pin_places.pin_places.Given as goal

abbrev pub invariant-loop-target : goal.invariant-loop-target
invariant-loop-target l = (length l.place_of.items ≡ length l.nodes) × ArePlaces (drivers_from l.pins l.nodes) l.target l.starts.items l.places.items
