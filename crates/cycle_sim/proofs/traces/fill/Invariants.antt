use Rattle.std.proofs.Common.{◌≡◌, map, Some}
use Rattle.std.specs.List.{range_with_len}
use Rattle.dump_reader.specs.Recording.{tri_bit}
use Rattle.cycle_sim.specs.BitTable.{bit_in}
use Rattle.cycle_sim.proofs.traces.fill.Given as goal

abbrev pub invariant-loop-cycle : goal.invariant-loop-cycle
invariant-loop-cycle l = map tri_bit l.cells.items ≡ map (λ cycle. Some (bit_in l.bits cycle l.column)) (range_with_len 0 l.cycle)
