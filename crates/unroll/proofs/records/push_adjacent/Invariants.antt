use Rattle.std.proofs.Common.{◌≡◌, ◌++◌, ◌∷◌, [], cond, take}
use Rattle.netlist.specs.Wiring.{driver_at, is_driven}
use Rattle.unroll.proofs.records.push_adjacent.Given as goal

abbrev pub invariant-loop-reader : goal.invariant-loop-reader
invariant-loop-reader l =
    l.adjacent.items ≡ l.fn.adjacent.items ++ cond (is_driven (driver_at l.net.drivers l.fn.s.0)) (l.fn.s ∷ []) [] ++ take l.reader-index l.reader-items
