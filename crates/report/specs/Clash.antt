-- What is written of a contradiction.
use Rattle.std.specs.Prelude.{ℕ, List, [], ◌++◌, codes, get_or}
use Rattle.std.specs.Fmt.{decimal}
use Rattle.sr_model.specs.declared.cells.Cell.{Cell}
use Rattle.netlist.specs.Circuit.{Circuit}

abbrev pub clash_line : Circuit → Cell → List ℕ
clash_line c cell = codes "contradiction " ++ get_or c.names cell.sig.0 [] ++ codes " " ++ decimal cell.cycle ++ codes "\n"
