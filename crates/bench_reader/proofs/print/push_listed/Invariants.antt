use Rattle.std.proofs.Common.{◌≡◌, ◌++◌, map, take}
use Rattle.bench_reader.specs.Printed.{listed, name_in}
use Rattle.bench_reader.proofs.print.push_listed.Given as goal

abbrev pub invariant-loop-i : goal.invariant-loop-i
invariant-loop-i l = l.text.items ≡ l.initial.text.items ++ listed (map (name_in l.n.names) (take l.i l.pins))
