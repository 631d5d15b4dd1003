use Rattle.std.proofs.Common.{◌-◌, Some, arith, sym, ap, ◌∙◌}
use Rattle.netlist.specs.Circuit.{Circuit}
use Rattle.netlist.specs.Wiring.{other_readers}
use Rattle.unroll.proofs.AdjacentTasks.{own-adjacent, task-at-place, reader-within, reader-at, none-at}
use Rattle.unroll.proofs.problem.Problem.adjacent_in_chunk.Goals as goal

pub task-requires-then-place-readers-clause-signal : goal.task-requires-then-place-readers-clause-signal
task-requires-then-place-readers-clause-signal c =
    let same = c.other_readers-readers.ensures ∙ ap (λ (x : Circuit). other_readers x.drivers c.args.at.sig) c.net.ensures.net in
    reader-within c.args.self.now.circuit.drivers c.args.at.sig c.other_readers-readers.result.now same (c.args.i - c.own_count-own.result) _ c.if-place-readers.true

pub returns-then-place-readers-clause-at : goal.returns-then-place-readers-clause-at
returns-then-place-readers-clause-at c =
    let same = c.other_readers-readers.ensures ∙ ap (λ (x : Circuit). other_readers x.drivers c.args.at.sig) c.net.ensures.net in
    reader-at c.args.self.now c.args.at.sig c.args.at.chunk c.args.i c.own_count-own.result c.own_count-own.ensures.count (omega arith) c.other_readers-readers.result.now same _ c.if-place-readers.true
    c.task-then-place-readers.result c.task-then-place-readers.ensures.task

pub returns-else-place-readers-clause-at : goal.returns-else-place-readers-clause-at
returns-else-place-readers-clause-at c =
    let same = c.other_readers-readers.ensures ∙ ap (λ (x : Circuit). other_readers x.drivers c.args.at.sig) c.net.ensures.net in
    none-at c.args.self.now c.args.at.sig c.args.at.chunk c.args.i c.own_count-own.result c.own_count-own.ensures.count (omega arith) c.other_readers-readers.result.now same (omega arith)

pub returns-then-place-readers-clause-task : goal.returns-then-place-readers-clause-task
returns-then-place-readers-clause-task c =
    let same = c.other_readers-readers.ensures ∙ ap (λ (x : Circuit). other_readers x.drivers c.args.at.sig) c.net.ensures.net in
    task-at-place c.args.self.now c.args.at.sig c.args.at.chunk c.requires.1 c.requires.0 c.args.i (Some c.task-then-place-readers.result)
    (reader-at c.args.self.now c.args.at.sig c.args.at.chunk c.args.i c.own_count-own.result c.own_count-own.ensures.count (omega arith) c.other_readers-readers.result.now same _ c.if-place-readers.true
    c.task-then-place-readers.result c.task-then-place-readers.ensures.task)

pub returns-then-i-own-clause-task : goal.returns-then-i-own-clause-task
returns-then-i-own-clause-task c =
    task-at-place c.args.self.now c.args.at.sig c.args.at.chunk c.requires.1 c.requires.0 c.args.i (Some c.task.result)
    (ap Some c.task.ensures.task ∙ sym (own-adjacent c.args.self.now c.args.at.sig c.args.at.chunk c.args.i c.own_count-own.result c.own_count-own.ensures.count c.if-i-own.true))
