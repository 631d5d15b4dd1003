use Rattle.plain_close.proofs.TurnedTasks.{turn-came}
use Rattle.plain_close.proofs.turns.join_forced.Goals as goal

pub returns : goal.returns
returns c =
    turn-came c.args.p.now c.args.task c.requires.task.early c.args.planes.now c.join_all-added.new.planes c.args.in_chunks.now c.args.out.now c.requires.forced c.join_all-added.ensures.joins
    c.args.worklist.now c.join_all-added.new.worklist c.join_all-added.ensures.wakes c.join_all-added.result c.args.own_pin c.requires.own_pin c.join_all-added.ensures.falls c.outcome.result c.outcome.ensures
