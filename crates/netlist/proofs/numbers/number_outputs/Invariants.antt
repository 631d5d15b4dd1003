use Rattle.std.proofs.Common.{take}
use Rattle.std.specs.List.{flat_map}
use Rattle.sr_model.specs.Declaration.{declared}
use Rattle.netlist.specs.Numbering.{output_name, sig_in}
use Rattle.netlist.proofs.Outputs.{IsListed}
use Rattle.netlist.proofs.numbers.number_outputs.Given as goal

abbrev pub invariant-loop-i : goal.invariant-loop-i
invariant-loop-i l = IsListed (sig_in l.names) l.names (flat_map output_name (take l.i (declared l.s))) l.outputs.items l.listed.items
