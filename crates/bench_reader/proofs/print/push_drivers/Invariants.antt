use Rattle.std.proofs.Common.{◌≡◌, ◌++◌}
use Rattle.std.specs.List.{flat_map}
use Rattle.netlist.specs.Wiring.{driver_at, signals_below}
use Rattle.bench_reader.specs.Printed.{driver_line}
use Rattle.bench_reader.proofs.print.push_drivers.Given as goal

abbrev pub invariant-loop-number : goal.invariant-loop-number
invariant-loop-number l = l.text.items ≡ l.initial.text.items ++ flat_map (λ s. driver_line l.n.names s (driver_at l.n.drivers s.0)) (signals_below l.number)
