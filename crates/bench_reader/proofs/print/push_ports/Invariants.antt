use Rattle.std.proofs.Common.{◌≡◌, ◌++◌, take}
use Rattle.std.specs.List.{flat_map}
use Rattle.bench_reader.specs.Printed.{port_line, name_in}
use Rattle.bench_reader.proofs.print.push_ports.Given as goal

abbrev pub invariant-loop-port : goal.invariant-loop-port
invariant-loop-port l = l.text.items ≡ l.initial.text.items ++ flat_map (λ s. port_line l.word (name_in l.n.names s)) (take l.port-index l.ports)
