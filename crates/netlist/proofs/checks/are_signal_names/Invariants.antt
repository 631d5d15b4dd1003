use Rattle.std.proofs.Common.{take}
use Rattle.std.specs.List.{All}
use Rattle.sr_model.specs.Room.{texts}
use Rattle.netlist.specs.Numbering.{IsSignalName}
use Rattle.netlist.proofs.checks.are_signal_names.Given as goal

abbrev pub invariant-loop-name : goal.invariant-loop-name
invariant-loop-name l = All IsSignalName (take l.name-index (texts l.names))
