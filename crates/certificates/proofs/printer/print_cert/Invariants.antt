use Rattle.std.proofs.Common.{◌≡◌, take}
use Rattle.certificates.proofs.Printing.{up_to}
use Rattle.certificates.proofs.printer.print_cert.Given as goal

abbrev pub invariant-loop-step : goal.invariant-loop-step
invariant-loop-step l = l.text.items ≡ up_to l.n.names (take l.step-index l.step-items)
