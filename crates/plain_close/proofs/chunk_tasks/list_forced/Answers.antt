use Rattle.std.proofs.Common.{true, sym, ◌∙◌, map}
use Rattle.std.proofs.lemmas.Bool.{true≢false}
use Rattle.std.proofs.lemmas.Result.{on_ok_weaker}
use Rattle.unroll.specs.Problem.{block_in}
use Rattle.plain_close.proofs.CalmTasks.{calm-task}
use Rattle.plain_close.proofs.ForcedChanges.{forces-task, lists-known}
use Rattle.plain_close.proofs.chunk_tasks.list_forced.Goals as goal
use Rattle.plain_close.proofs.chunk_tasks.list_forced.Goals.{then-own_pin, else-own_pin}

pub returns-then-not-are_new : goal.returns-then-not-are_new
returns-then-not-are_new c =
    forces-task c.args.p.now c.args.planes.now c.args.task c.requires.task true c.args.in_chunks.now c.args.out.now c.requires.forced (λ never. absurd (true≢false never)) c.args.changes.now c.args.changes.now
    (lists-known c.args.p.now c.args.planes.now c.args.task true (map (block_in c.args.p.now) c.args.in_chunks.now) c.args.out.now c.args.changes.now (c.are_new.ensures c.if-not-are_new.true))

pub returns : goal.returns
returns c =
    on_ok_weaker c.list_new.result
    (forces-task c.args.p.now c.args.planes.now c.args.task c.requires.task c.if-own_pin.again c.args.in_chunks.now c.args.out.now c.requires.forced
    (λ once. elim c.if-own_pin.branch [
      | then-own_pin w ↦ absurd (true≢false (sym (w.again-is ∙ w.if-own_pin.true) ∙ once))
      | else-own_pin w ↦
          calm-task c.args.p.now c.args.task c.requires.task.early c.args.planes.now c.args.in_chunks.now c.args.out.now c.requires.forced (sym c.requires.own_pin ∙ w.if-own_pin.false)
          (w.would_clash-again.ensures (sym w.again-is ∙ once))
    ])
    c.args.changes.now c.list_new.new.changes)
    c.list_new.ensures
