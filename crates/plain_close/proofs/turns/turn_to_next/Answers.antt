use Rattle.std.proofs.Common.{◌≡◌, ◌<◌, refl, arith, ap, sym, subst, ◌∙◌}
use Rattle.unroll.specs.Tasks.{task_at}
use Rattle.unroll.specs.Waiting.{Waiting, Waits, waiting_measure}
use Rattle.plain_close.specs.declared.worklist.Worklist.{Worklist}
use Rattle.plain_close.specs.Worklist.{IsWorklistOf}
use Rattle.plain_close.specs.Turns.{Between}
use Rattle.plain_close.proofs.Turning.{between-none, between-turn, left-done, all-done, same-tasks, still-waits}
use Rattle.plain_close.proofs.turns.turn_to_next.Goals as goal

pub loop-task-init : goal.loop-task-init
loop-task-init c = (between-none c.args.p.now c.args.planes.now c.args.worklist.now c.requires.of c.requires.worklist c.requires.settled, omega arith)

pub turn-requires-clause-worklist : goal.turn-requires-clause-worklist
turn-requires-clause-worklist c =
    subst (λ (w : Waiting). IsWorklistOf c.args.p.now (record { records = c.loop-task.worklist.records; waiting = w })) (sym c.in-Some.ensures.same) c.loop-task.invariant.0.worklist

pub turn-requires-clause-task : goal.turn-requires-clause-task
turn-requires-clause-task c = c.loop-task.invariant.0.worklist.tasks c.in-Some.task.sig c.in-Some.task.chunk c.in-Some.ensures.waits

pub returns-then-turned-clause-between : goal.returns-then-turned-clause-between
returns-then-turned-clause-between c =
    between-turn c.args.p.now c.args.planes.now c.loop-task.planes c.turn.new.planes (record { records = c.loop-task.worklist.records; waiting = c.next.new.self }) c.turn.new.worklist c.take_turned.new.worklist
    (task_at c.args.p.now c.in-Some.task.sig c.in-Some.task.chunk)
    (subst (λ (w : Waiting). Between c.args.p.now c.args.planes.now c.loop-task.planes (record { records = c.loop-task.worklist.records; waiting = w })) (sym c.in-Some.ensures.same) c.loop-task.invariant.0)
    c.in_ok-turned.ensures.turn.wakes c.in_ok-turned.ensures.turn.falls.no_more c.in_ok-turned.ensures.turn.turns
    (same-tasks c.args.p.now c.turn.new.worklist c.take_turned.new.worklist c.in_ok-turned.ensures.turn.wakes.worklist c.take_turned.ensures.records c.take_turned.ensures.signals c.take_turned.ensures.chunks
    c.take_turned.ensures.only)
    (left-done c.args.p.now c.turn.new.planes c.turn.new.worklist c.take_turned.new.worklist c.in-Some.task.sig c.in-Some.task.chunk c.in_ok-turned.turned.again c.take_turned.ensures.kept
    c.in_ok-turned.ensures.turn.done)

pub loop-task-preserved : goal.loop-task-preserved
loop-task-preserved c = (
  between-turn c.args.p.now c.args.planes.now c.loop-task.planes c.turn.new.planes (record { records = c.loop-task.worklist.records; waiting = c.next.new.self }) c.turn.new.worklist c.take_turned.new.worklist
      (task_at c.args.p.now c.in-Some.task.sig c.in-Some.task.chunk)
      (subst (λ (w : Waiting). Between c.args.p.now c.args.planes.now c.loop-task.planes (record { records = c.loop-task.worklist.records; waiting = w })) (sym c.in-Some.ensures.same) c.loop-task.invariant.0)
      c.in_ok-turned.ensures.turn.wakes c.in_ok-turned.ensures.turn.falls.no_more c.in_ok-turned.ensures.turn.turns
      (same-tasks c.args.p.now c.turn.new.worklist c.take_turned.new.worklist c.in_ok-turned.ensures.turn.wakes.worklist c.take_turned.ensures.records c.take_turned.ensures.signals c.take_turned.ensures.chunks
      c.take_turned.ensures.only)
      (left-done c.args.p.now c.turn.new.planes c.turn.new.worklist c.take_turned.new.worklist c.in-Some.task.sig c.in-Some.task.chunk c.in_ok-turned.turned.again c.take_turned.ensures.kept
      c.in_ok-turned.ensures.turn.done),
  omega (arith, c.loop-task.invariant.1, c.in_ok-turned.ensures.room),
)

pub take_turned-requires : goal.take_turned-requires
take_turned-requires c =
    still-waits c.args.p.now (record { records = c.loop-task.worklist.records; waiting = c.next.new.self }) c.turn.new.worklist c.in-Some.task
    (c.loop-task.invariant.0.worklist.tasks c.in-Some.task.sig c.in-Some.task.chunk c.in-Some.ensures.waits).early c.in_ok-turned.ensures.turn.wakes.kept
    (subst (λ (w : Waiting). Waits w c.in-Some.task.sig c.in-Some.task.chunk) (sym c.in-Some.ensures.same) c.in-Some.ensures.waits)

pub loop-task-smaller : goal.loop-task-smaller
loop-task-smaller c =
    let before : c.turn.new.worklist ≡ record { records = c.loop-task.worklist.records; waiting = c.next.new.self } = (c.in_ok-turned.ensures.turn.falls.same c.if-turned.false).1 in
    let same : waiting_measure c.turn.new.worklist.waiting ≡ waiting_measure c.loop-task.worklist.waiting = ap (λ (q : Worklist). waiting_measure q.waiting) before ∙ ap waiting_measure c.in-Some.ensures.same in
    subst (λ n. waiting_measure c.take_turned.new.worklist.waiting < n) same (c.take_turned.ensures.fewer (c.in_ok-turned.ensures.turn.nothing c.if-turned.false))

pub returns-clause-closed : goal.returns-clause-closed
returns-clause-closed c _ = all-done c.args.p.now c.loop-task.planes c.loop-task.worklist c.loop-task.invariant.0.settled (c.in_default.ensures.none refl)
