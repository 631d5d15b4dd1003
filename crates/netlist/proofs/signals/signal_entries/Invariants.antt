use Rattle.std.proofs.Common.{length}
use Rattle.netlist.specs.Wiring.{driver_at, has_signal}
use Rattle.netlist.specs.Nodes.{drivers_from}
use Rattle.netlist.proofs.EachItem.{Gathered}
use Rattle.netlist.proofs.signals.signal_entries.Given as goal

abbrev pub invariant-loop-signal : goal.invariant-loop-signal
invariant-loop-signal l =
    Gathered (length l.nodes) (λ t. has_signal (driver_at (drivers_from l.pins l.nodes) t) (record { 0 = t })) l.signal l.found.items l.last_items.items
