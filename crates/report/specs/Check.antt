-- What is written of a certificate that is accepted.
use Rattle.std.specs.Prelude.{ℕ, List, ◌++◌, codes, Option, Some, None}
use Rattle.std.specs.Fmt.{decimal}
use Rattle.sr_model.specs.declared.cells.Cell.{Cell}
use Rattle.netlist.specs.Circuit.{Circuit}
use Rattle.report.specs.Clash.{clash_line}

-- how many facts it has
abbrev pub accepted_line : ℕ → List ℕ
accepted_line count = codes "accepted " ++ decimal count ++ codes "\n"

-- that, and behind it the line of its contradiction, if it ends with one
abbrev pub checked_text : Circuit → ℕ → Option Cell → List ℕ
checked_text c count None = accepted_line count
checked_text c count (Some cell) = accepted_line count ++ clash_line c cell
