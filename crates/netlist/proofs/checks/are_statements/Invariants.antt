use Rattle.std.proofs.Common.{take}
use Rattle.std.specs.List.{All}
use Rattle.sr_model.specs.Declaration.{declared}
use Rattle.netlist.specs.Numbering.{IsStatement}
use Rattle.netlist.proofs.checks.are_statements.Given as goal

abbrev pub invariant-loop-stated : goal.invariant-loop-stated
invariant-loop-stated l = All IsStatement (take l.stated-index (declared l.s))
