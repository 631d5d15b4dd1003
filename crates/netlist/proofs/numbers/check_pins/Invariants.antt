use Rattle.std.proofs.Common.{◌≡◌, ◌≤◌, length, take}
use Rattle.std.specs.List.{flat_map}
use Rattle.sr_model.specs.Limits.{max_pins}
use Rattle.sr_model.specs.Declaration.{declared}
use Rattle.netlist.specs.Numbering.{pin_names}
use Rattle.netlist.proofs.numbers.check_pins.Given as goal

abbrev pub invariant-loop-stated : goal.invariant-loop-stated
invariant-loop-stated l = (l.count ≡ length (flat_map pin_names (take l.stated-index (declared l.s)))) × (l.count ≤ max_pins)
