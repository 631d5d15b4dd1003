use Rattle.std.proofs.Common.{◌≡◌, ◌<◌, length, ap, sym, subst}
use Rattle.std.specs.Prelude.{All}
use Rattle.std.proofs.lemmas.List.Elements.{All-push}
use Rattle.netlist.specs.Circuit.{Circuit}
use Rattle.greedy_select.specs.declared.picks.Pick.{Pick}
use Rattle.report.proofs.tests.expect_picks.Goals as goal

pub loop-number-preserved : goal.loop-number-preserved
loop-number-preserved g c =
    let same : length c.in_ok-net.net.drivers ≡ length c.net.inside.wiring = sym (ap (λ (n : Circuit). length n.drivers) c.net.view_is) in
    subst (All (λ (pick : Pick). pick.sig.0 < length c.net.inside.wiring)) (sym c.in_ok-push.ensures.ok)
    (All-push (λ (pick : Pick). pick.sig.0 < length c.net.inside.wiring) c.loop-number.picks.items c.pick.result c.loop-number.invariant (subst (λ n. c.pick.result.sig.0 < n) same c.pick.ensures))

pub write_picks-answer-requires : goal.write_picks-answer-requires
write_picks-answer-requires g c =
    let same : length c.in_ok-net.net.drivers ≡ length c.net.inside.wiring = sym (ap (λ (n : Circuit). length n.drivers) c.net.view_is) in
    subst (λ n. All (λ (pick : Pick). pick.sig.0 < n) c.loop-number.picks.items) (sym same) c.loop-number.invariant
