use Rattle.std.proofs.Common.{◌||◌}
use Rattle.std.proofs.lemmas.Result.{on_ok_weaker}
use Rattle.sr_model.specs.Closure.{passing}
use Rattle.known_planes.specs.Planes.{has, lits}
use Rattle.known_planes.specs.Rows.{row_has}
use Rattle.plain_close.proofs.Adding.{settled-closed, still-settled, same-closed}
use Rattle.plain_close.proofs.AddingRow.{added-row}
use Rattle.plain_close.proofs.plain_closer.PlainCloserCloser.close_in_place.Goals as goal

pub turn_all-requires-clause-settled : goal.turn_all-requires-clause-settled
turn_all-requires-clause-settled g c =
    still-settled c.args.p.now c.args.planes.now c.add_row.new.planes c.in_ok-worklist.worklist c.add_row.new.worklist
    (settled-closed c.args.p.now c.args.planes.now c.in_ok-worklist.worklist c.requires.closed) c.add_row.ensures.wakes

pub returns-clause-closure : goal.returns-clause-closure
returns-clause-closure g c =
    on_ok_weaker c.turn_all.result
    (same-closed c.args.p.now c.turn_all.new.planes (lits c.args.p.now c.add_row.new.planes) (passing (λ l. has c.args.p.now c.args.planes.now l || row_has c.args.p.now c.args.sig c.args.row.now l))
    (added-row c.args.p.now c.args.sig c.args.row.now c.args.planes.now c.add_row.new.planes c.in_ok-worklist.worklist c.add_row.new.worklist c.add_row.ensures.wakes c.add_row.ensures.adds))
    c.turn_all.ensures.closure
