use Rattle.std.proofs.Common.{◌≡◌, ◌≤◌, false, true, length, take, refl, sym, subst}
use Rattle.std.specs.List.{All}
use Rattle.std.proofs.lemmas.List.Elements.{All-push}
use Rattle.sr_model.specs.Declaration.{declared}
use Rattle.netlist.specs.Numbering.{IsStatement}
use Rattle.netlist.proofs.Statements.{stands_at, stated_by, stated_more, stated_holds, stated_all}
use Rattle.netlist.proofs.checks.are_statements.Goals as goal

pub returns-then-not-is_statement : goal.returns-then-not-is_statement
returns-then-not-is_statement c =
    let at = stands_at c.as_slice-stated-items.result.now c.args.s.now.items c.loop-stated.stated-index c.stated-item.result c.as_slice-stated-items.ensures c.loop-stated-test.true c.stated-item.is in
    let refused = c.if-not-is_statement.ensures in
    (λ (e : false ≡ true). absurd cc, λ all. refused.1 (stated_holds IsStatement c.args.s.now.items c.loop-stated.stated-index c.stated-item.result at all))

pub loop-stated-preserved : goal.loop-stated-preserved
loop-stated-preserved c =
    let at = stands_at c.as_slice-stated-items.result.now c.args.s.now.items c.loop-stated.stated-index c.stated-item.result c.as_slice-stated-items.ensures c.loop-stated-test.true c.stated-item.is in
    let passed = c.if-not-is_statement.ensures in
    subst (All IsStatement) (sym (stated_more c.args.s.now.items c.loop-stated.stated-index c.stated-item.result at))
    (All-push IsStatement (take c.loop-stated.stated-index (declared c.args.s.now)) (stated_by c.stated-item.result) c.loop-stated.invariant (passed.0 refl))

pub returns : goal.returns
returns c =
    let past : length c.args.s.now.items ≤ c.loop-stated.stated-index = subst (λ xs. length xs ≤ c.loop-stated.stated-index) c.as_slice-stated-items.ensures c.loop-stated-test.false in
    (λ _. subst (All IsStatement) (stated_all c.args.s.now.items c.loop-stated.stated-index past) c.loop-stated.invariant, λ _. refl)
