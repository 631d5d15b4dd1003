use Rattle.std.proofs.Common.{◌≡◌}
use Rattle.dump_reader.specs.Print.{printed}
use Rattle.dump_reader.proofs.Printing.{first_rows}
use Rattle.dump_reader.proofs.printer.print_dump.Given as goal

abbrev pub invariant-loop-i : goal.invariant-loop-i
invariant-loop-i l = l.text.items ≡ printed l.n.names (first_rows l.d l.i)
