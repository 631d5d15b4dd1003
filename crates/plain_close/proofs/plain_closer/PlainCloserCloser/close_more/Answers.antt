use Rattle.std.proofs.Common.{◌||◌, subst, sym}
use Rattle.sr_model.specs.Closure.{SameLits, passing}
use Rattle.known_planes.specs.Planes.{PlaneSet, has, lits}
use Rattle.plain_close.specs.Worklist.{IsSettled}
use Rattle.plain_close.proofs.Adding.{settled-closed, still-settled, same-closed, added-lits}
use Rattle.plain_close.proofs.plain_closer.PlainCloserCloser.close_more.Goals as goal

pub turn_all-requires-clause-settled : goal.turn_all-requires-clause-settled
turn_all-requires-clause-settled g c =
    still-settled c.args.p.now c.in_ok-planes.planes c.add_planes.new.planes c.in_ok-worklist.worklist c.add_planes.new.worklist
    (subst (λ (x : PlaneSet). IsSettled c.args.p.now x c.in_ok-worklist.worklist) (sym c.in_ok-planes.ensures) (settled-closed c.args.p.now c.args.closed.now c.in_ok-worklist.worklist c.requires.closed))
    c.add_planes.ensures.wakes

pub returns-clause-closure : goal.returns-clause-closure
returns-clause-closure g c =
    same-closed c.args.p.now c.turn_all.new.planes (lits c.args.p.now c.add_planes.new.planes) (passing (λ l. has c.args.p.now c.args.closed.now l || has c.args.p.now c.args.added.now l))
    (subst (λ (x : PlaneSet). SameLits (lits c.args.p.now c.add_planes.new.planes) (passing (λ l. has c.args.p.now x l || has c.args.p.now c.args.added.now l))) c.in_ok-planes.ensures
    (added-lits c.args.p.now c.in_ok-planes.planes c.args.added.now c.add_planes.new.planes c.in_ok-worklist.worklist c.add_planes.new.worklist
    c.requires.added_of c.add_planes.ensures.wakes c.add_planes.ensures.adds)) c.in_ok-turn_all.ensures.closure
