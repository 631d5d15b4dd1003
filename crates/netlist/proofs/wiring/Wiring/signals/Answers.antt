use Rattle.std.proofs.Common.{subst}
use Rattle.netlist.specs.Wiring.{IsWired}
use Rattle.netlist.proofs.FlatArrays.{drivers_from-wired}
use Rattle.netlist.proofs.wiring.Wiring.signals.Goals as goal

pub returns-clause-wired : goal.returns-clause-wired
returns-clause-wired c = subst IsWired c.self.view_is (drivers_from-wired c.self.inside.pins.items c.self.inside.nodes.items c.self.invariant.wired)
