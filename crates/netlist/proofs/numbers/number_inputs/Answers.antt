use Rattle.std.proofs.Common.{◌≡◌, [], ◌∷◌, ◌++◌, map, get_or, sym, ap, ◌∙◌}
use Rattle.sr_model.specs.Declaration.{declared, declaration_of}
use Rattle.sr_model.specs.declared.cells.Sig.{Sig}
use Rattle.netlist.specs.Numbering.{input_name, sig_of}
use Rattle.netlist.specs.Mentions.{first_mention}
use Rattle.netlist.proofs.Statements.{stands_at, sigs_flat, flat_same, no_input}
use Rattle.netlist.proofs.MentionSigs.{first_at}
use Rattle.netlist.proofs.numbers.number_inputs.Goals as goal

pub loop-i-preserved-in_default : goal.loop-i-preserved-in_default
loop-i-preserved-in_default c =
    let items = c.args.s.now.items in
    let i = c.loop-i.i in
    let x = c.stated-item.result in
    let at = stands_at c.as_slice-stated-items.result.now items i x c.as_slice-stated-items.ensures c.loop-i-test.true c.stated-item.is in
    let none : input_name (declaration_of x.statement) ≡ [] = no_input x.statement c.in_default.not-Input in
    c.loop-i.invariant ∙ ap (map (sig_of (declared c.args.s.now))) (sym (flat_same input_name items i x at none))

pub loop-i-preserved : goal.loop-i-preserved
loop-i-preserved c =
    let items = c.args.s.now.items in
    let i = c.loop-i.i in
    let x = c.stated-item.result in
    let at = stands_at c.as_slice-stated-items.result.now items i x c.as_slice-stated-items.ensures c.loop-i-test.true c.stated-item.is in
    let sig : get_or c.args.firsts.now i (record { 0 = 0 }) ≡ sig_of (declared c.args.s.now) (first_mention (declaration_of x.statement)) =
    (first_at (sig_of (declared c.args.s.now)) items i x c.args.firsts.now (record { 0 = 0 }) at c.requires).1 in
    let named : input_name (declaration_of x.statement) ≡ first_mention (declaration_of x.statement) ∷ [] =
    ap (λ s. input_name (declaration_of s)) c.in-Input.is ∙ ap (λ s. first_mention (declaration_of s) ∷ []) (sym c.in-Input.is) in
    sigs_flat (sig_of (declared c.args.s.now)) input_name items i x c.loop-i.inputs.items c.push.new.self.items at c.loop-i.invariant
    (c.in_ok-push.ensures.ok ∙ ap (λ (s : Sig). c.loop-i.inputs.items ++ s ∷ []) sig ∙ ap (λ ns. c.loop-i.inputs.items ++ map (sig_of (declared c.args.s.now)) ns) (sym named))
