use Rattle.std.proofs.Common.{◌<◌, length, ap, ◌∙◌, arith}
use Rattle.std.proofs.lemmas.List.{length-map}
use Rattle.netlist.specs.Entries.{marks_beside}
use Rattle.netlist.specs.Nodes.{driver_of}
use Rattle.netlist.specs.Wiring.{pin_parities}
use Rattle.netlist.proofs.wiring.Wiring.pin_parities.Goals as goal

pub returns : goal.returns
returns c =
    let within : c.args.s.0 < length c.self.inside.signals =
    omega (arith, c.requires, c.self.invariant.all_signals.one_each, ap length c.self.view_is, length-map c.self.inside.nodes.items (driver_of c.self.inside.pins.items)) in
    c.beside.ensures ∙ ap (λ marks. marks_beside c.self.inside.signals marks c.args.s.0) c.deref.ensures.value ∙ c.self.invariant.all_parities.each c.args.s.0 within
    ∙ ap (λ drivers. pin_parities drivers c.args.s) c.self.view_is
