use Rattle.std.proofs.Common.{◌↔◌, IsTrue, sym, subst, ◌∙◌}
use Rattle.std.proofs.lemmas.List.{length-map}
use Rattle.sr_model.specs.Declaration.{declaration_of}
use Rattle.sr_model.specs.Gate.{IsPinCount}
use Rattle.sr_model.specs.Room.{texts}
use Rattle.netlist.specs.Numbering.{IsSignalName, IsStatement}
use Rattle.netlist.proofs.Statements.{drive_stated}
use Rattle.netlist.proofs.checks.is_statement.Goals as goal
use Rattle.netlist.proofs.checks.is_statement.Goals.{then-may_have, else-may_have}

pub returns-then-is_signal_name : goal.returns-then-is_signal_name
returns-then-is_signal_name c =
    elim c.if-may_have.branch [
      | then-may_have w ↦
          subst (λ s. IsTrue c.are_signal_names.result ↔ IsStatement (declaration_of s)) (sym c.in-Drive.is)
          (drive_stated c.in-Drive.target.items c.in-Drive.kind (texts c.in-Drive.pins) c.are_signal_names.result
          (subst (IsPinCount c.in-Drive.kind) (c.len.ensures ∙ sym (length-map c.in-Drive.pins.items (λ x. x.items))) (c.may_have.ensures.0 w.if-may_have.true))
          (subst IsSignalName w.as_slice.ensures (w.is_signal_name.ensures.0 (sym w.value-is ∙ c.if-is_signal_name.true))) c.are_signal_names.ensures)
      | else-may_have w ↦ absurd cc
    ]
