use Rattle.std.proofs.Common.{◌<◌, ◌≤◌, length, sym, subst}
use Rattle.sr_model.specs.Limits.{max_gate_signals}
use Rattle.netlist.specs.Circuit.{Circuit}
use Rattle.netlist.proofs.FewSignals.{few_signals}
use Rattle.netlist.proofs.netlist.Netlist.signals_of.Goals as goal

pub returns-clause-few : goal.returns-clause-few
returns-clause-few c =
    let within : c.args.s.0 < length c.self.inside.wiring = subst (λ (v : Circuit). c.args.s.0 < length v.drivers) (sym c.self.view_is) c.requires in
    subst (λ sigs. length sigs ≤ max_gate_signals) (sym c.signals_of.ensures) (few_signals c.self.inside.wiring c.args.s within c.self.invariant.0.pin_counts)
