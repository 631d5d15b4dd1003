use Rattle.std.proofs.Common.{◌≤◌, length, arith, ap, ◌∙◌, sym, subst}
use Rattle.std.proofs.lemmas.List.{take_all}
use Rattle.std.specs.List.{flat_map}
use Rattle.netlist.specs.Circuit.{Circuit}
use Rattle.netlist.specs.Wiring.{signals_of}
use Rattle.unroll.specs.Tasks.{blocks_for}
use Rattle.unroll.proofs.BlockLists.{few-blocks, room-for, signal-within}
use Rattle.unroll.proofs.problem.Problem.blocks_in_chunk.Goals as goal

pub push_blocks-requires-clause-signal : goal.push_blocks-requires-clause-signal
push_blocks-requires-clause-signal c =
    let same = c.signals_of-signal-items.ensures.signals ∙ ap (λ (x : Circuit). signals_of x.drivers c.args.at.sig) c.net.ensures.net in
    signal-within c.args.self.now.circuit.drivers c.args.at.sig c.signals_of-signal-items.result.now same c.loop-signal.signal-index _ c.loop-signal-test.true

pub push_blocks-requires-clause-room : goal.push_blocks-requires-clause-room
push_blocks-requires-clause-room c =
    let same = c.signals_of-signal-items.ensures.signals ∙ ap (λ (x : Circuit). signals_of x.drivers c.args.at.sig) c.net.ensures.net in
    room-for c.args.self.now c.args.at.sig c.args.at.chunk c.net.ensures.problem c.requires.inside.0 c.signals_of-signal-items.result.now same c.loop-signal.signal-index _ c.loop-signal-test.true
    c.loop-signal.into.items c.loop-signal.into.room c.loop-signal.invariant.0 (omega (arith, c.requires.room, c.clear.ensures.room, c.loop-signal.invariant.1))

pub returns-clause-few : goal.returns-clause-few
returns-clause-few c =
    let same = c.signals_of-signal-items.ensures.signals ∙ ap (λ (x : Circuit). signals_of x.drivers c.args.at.sig) c.net.ensures.net in
    let all = c.loop-signal.invariant.0 ∙ ap (flat_map (blocks_for c.args.self.now c.args.at.sig c.args.at.chunk)) (take_all c.loop-signal.signal-index c.signals_of-signal-items.result.now (omega arith) ∙ same) in
    subst (λ bs. length bs ≤ 1025) (sym all) (few-blocks c.args.self.now c.args.at.sig c.args.at.chunk c.net.ensures.problem c.requires.inside.0)
