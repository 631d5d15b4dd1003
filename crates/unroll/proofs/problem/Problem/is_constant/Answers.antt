use Rattle.std.proofs.Common.{not, ap, ◌∙◌, sym}
use Rattle.std.specs.List.{list_any}
use Rattle.netlist.specs.Circuit.{Circuit}
use Rattle.netlist.specs.Wiring.{kind_of, driver_at, pin_parities}
use Rattle.unroll.proofs.ConstantTasks.{parity-constant}
use Rattle.unroll.proofs.problem.Problem.is_constant.Goals as goal

pub returns-then-is_parity : goal.returns-then-is_parity
returns-then-is_parity c =
    ap not (c.some_is_odd.ensures ∙ ap (list_any (λ odd. odd)) (c.pin_parities.ensures ∙ ap (λ (x : Circuit). pin_parities x.drivers c.args.s) c.net-then-is_parity.ensures.net))
    ∙ parity-constant c.args.self.now c.net.ensures.problem c.args.s c.in-Some.kind
    (sym (ap (λ (x : Circuit). kind_of (driver_at x.drivers c.args.s.0)) c.net.ensures.net) ∙ sym c.kind_of.ensures ∙ c.in-Some.is)
    (sym c.is_parity.ensures ∙ c.if-is_parity.true)
