use Rattle.std.proofs.Common.{Some, ap, ◌∙◌, sym}
use Rattle.netlist.proofs.Settling.{first_without}
use Rattle.netlist.proofs.numbers.settle.Goals as goal

pub returns-in_default-clause-refused : goal.returns-in_default-clause-refused
returns-in_default-clause-refused c =
    first_without c.loop-number.all.items c.args.nodes.now c.args.names.now c.loop-number.number c.in_ok-name.name.items c.loop-number.invariant c.loop-number-test.true c.in_default.is
    (c.get.ensures ∙ ap Some (sym c.in_ok-name.ensures))
