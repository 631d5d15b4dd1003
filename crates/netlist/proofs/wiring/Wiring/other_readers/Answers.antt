use Rattle.std.proofs.Common.{◌<◌, length, ap, ◌∙◌, arith}
use Rattle.std.proofs.lemmas.List.{length-map}
use Rattle.netlist.specs.Wiring.{other_readers}
use Rattle.netlist.specs.Nodes.{driver_of}
use Rattle.netlist.proofs.wiring.Wiring.other_readers.Goals as goal

pub returns : goal.returns
returns c =
    let within : c.args.s.0 < length c.self.inside.nodes.items =
    omega (arith, c.requires, ap length c.self.view_is, length-map c.self.inside.nodes.items (driver_of c.self.inside.pins.items)) in
    c.get.ensures ∙ c.self.invariant.all_others.each c.args.s.0 within ∙ ap (λ drivers. other_readers drivers c.args.s) c.self.view_is
