use Rattle.std.proofs.Common.{◌<◌, List, length, get_or, take, ap, subst, ◌∙◌}
use Rattle.std.proofs.lemmas.Result.{err_from_is_err_and}
use Rattle.greedy_select.specs.declared.picks.Pick.{Pick}
use Rattle.report.specs.Picks.{pick_line, pick_lines}
use Rattle.report.specs.Writes.{Writes}
use Rattle.report.proofs.InTurn.{Wrote, writes_fault, wrote_both, wrote_whole}
use Rattle.report.proofs.Joined.{texts_at, texts_more}
use Rattle.report.proofs.picks.write_picks.Goals as goal

pub returns-in_err-write_pick : goal.returns-in_err-write_pick
returns-in_err-write_pick g c =
    let p = err_from_is_err_and c.from_residual.result c.from_residual.ensures.1 in
    writes_fault g.K.Sink.written g.K.Sink.room g.K.Sink.faults c.args.out.now c.loop-pick.out c.write_pick.new.out c.write_pick.result c.from_residual.result _ p.0
    (pick_lines c.args.n.now.names (take c.loop-pick.pick-index c.args.picks.now.items))
    (pick_line c.args.n.now.names (get_or c.args.picks.now.items c.loop-pick.pick-index c.pick-item.result)) _ _
    c.in_err-write_pick.was p.1
    (texts_at (pick_line c.args.n.now.names) c.args.picks.now.items c.loop-pick.pick-index c.pick-item.result
    (subst (λ (picks : List Pick). c.loop-pick.pick-index < length picks) c.as_slice-pick-items.ensures c.loop-pick-test.true)) c.loop-pick.invariant
    (subst (λ (pick : Pick). Writes g.K.Sink.written g.K.Sink.room g.K.Sink.faults c.loop-pick.out c.write_pick.new.out c.write_pick.result (pick_line c.args.n.now.names pick)) (c.pick-item.is ∙ ap (λ (picks : List Pick). get_or picks c.loop-pick.pick-index c.pick-item.result) c.as_slice-pick-items.ensures)
    c.write_pick.ensures)

pub loop-pick-preserved : goal.loop-pick-preserved
loop-pick-preserved g c =
    wrote_both g.K.Sink.written g.K.Sink.room g.K.Sink.faults c.args.out.now c.loop-pick.out c.write_pick.new.out
    (pick_lines c.args.n.now.names (take c.loop-pick.pick-index c.args.picks.now.items)) (pick_line c.args.n.now.names (get_or c.args.picks.now.items c.loop-pick.pick-index c.pick-item.result)) _
    (texts_more (pick_line c.args.n.now.names) c.args.picks.now.items c.loop-pick.pick-index c.pick-item.result
    (subst (λ (picks : List Pick). c.loop-pick.pick-index < length picks) c.as_slice-pick-items.ensures c.loop-pick-test.true)) c.loop-pick.invariant
    (subst (λ (pick : Pick). Wrote g.K.Sink.written g.K.Sink.room g.K.Sink.faults c.loop-pick.out c.write_pick.new.out (pick_line c.args.n.now.names pick)) (c.pick-item.is ∙ ap (λ (picks : List Pick). get_or picks c.loop-pick.pick-index c.pick-item.result) c.as_slice-pick-items.ensures)
    (wrote_whole g.K.Sink.written g.K.Sink.room g.K.Sink.faults c.loop-pick.out c.write_pick.new.out _ _ c.in_ok-write_pick.ensures))
