use Rattle.std.proofs.Common.{◌≡◌, Some, subst}
use Rattle.std.specs.Prelude.{IfSome, slice_get}
use Rattle.netlist.specs.Circuit.{Circuit}
use Rattle.netlist.proofs.Places.{found_name}
use Rattle.netlist.proofs.netlist.Netlist.find.Goals as goal

pub returns-clause-some : goal.returns-clause-some
returns-clause-some c =
    subst (λ (v : Circuit). IfSome c.find.result (λ s. slice_get v.names s.0 ≡ Some c.args.name.now)) c.self.view_is
    (found_name c.self.inside.names c.args.name.now c.find.result c.find.ensures)
