use Rattle.std.proofs.Common.{◌≤◌, [], length, subst}
use Rattle.std.proofs.lemmas.Option.{get_or_from_slice_get, slice_get_within}
use Rattle.netlist.proofs.netlist.Netlist.name.Goals as goal

pub returns-clause-short : goal.returns-clause-short
returns-clause-short c =
    subst (λ name. length name ≤ 255) (get_or_from_slice_get c.self.inside.names c.args.s.0 c.get.result.now [] c.get.ensures)
    (c.self.invariant.0.are_names c.args.s.0 [] (slice_get_within c.self.inside.names c.args.s.0 c.get.result.now c.get.ensures)).1
