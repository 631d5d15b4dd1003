use Rattle.std.proofs.Common.{length}
use Rattle.netlist.proofs.PinPlaces.{Noted}
use Rattle.netlist.proofs.pin_places.note_places.Given as goal

abbrev pub invariant-loop-place : goal.invariant-loop-place
invariant-loop-place l = Noted (length l.initial.place_of) l.signals l.place l.place_of
