use Rattle.std.proofs.Common.{◌≡◌, ◌++◌, map, take, slice_index}
use Rattle.netlist.proofs.pin_places.push_places.Given as goal

abbrev pub invariant-loop-pin : goal.invariant-loop-pin
invariant-loop-pin l = l.places.items ≡ l.initial.places.items ++ map (λ pin. slice_index l.place_of pin.0) (take l.pin-index l.pins)
