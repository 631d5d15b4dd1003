use Rattle.std.proofs.Common.{◌≡◌, map, take}
use Rattle.std.specs.List.{flat_map}
use Rattle.sr_model.specs.Declaration.{declared}
use Rattle.netlist.specs.Numbering.{input_name, sig_of}
use Rattle.netlist.proofs.numbers.number_inputs.Given as goal

abbrev pub invariant-loop-i : goal.invariant-loop-i
invariant-loop-i l = l.inputs.items ≡ map (sig_of (declared l.s)) (flat_map input_name (take l.i (declared l.s)))
