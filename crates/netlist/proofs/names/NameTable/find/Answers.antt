use Rattle.std.proofs.Common.{ℕ, List, Contains, sym, ap, subst, ◌∙◌}
use Rattle.std.specs.Option.{SomeIff}
use Rattle.sr_model.specs.declared.cells.Sig.{Sig}
use Rattle.netlist.specs.Numbering.{sig_in}
use Rattle.netlist.proofs.Places.{found_place, missing_place}
use Rattle.netlist.proofs.names.NameTable.find.Goals as goal

pub returns-in_err-number : goal.returns-in_err-number
returns-in_err-number c =
    subst (λ answer. SomeIff answer (Contains c.args.self.now c.args.name.now) (sig_in c.args.self.now c.args.name.now)) (sym c.from_residual.ensures)
    (subst (λ (ns : List (List ℕ)). Contains ns c.args.name.now → ⊥) c.self.view_is
    (missing_place (λ v. v.items) c.self.inside.names.keys c.args.name.now (sym c.get_index_of.ensures.index ∙ c.in_err-number.was)))

pub returns : goal.returns
returns c =
    let found = found_place (λ v. v.items) c.self.inside.names.keys c.args.name.now c.in_ok-number.number (sym c.get_index_of.ensures.index ∙ c.in_ok-number.was) in
    let sig : ℕ → Sig = λ n. record { 0 = n } in
    (subst (λ (ns : List (List ℕ)). Contains ns c.args.name.now) c.self.view_is found.0, ap sig found.1 ∙ ap (λ (ns : List (List ℕ)). sig_in ns c.args.name.now) c.self.view_is)
