use Rattle.std.proofs.Common.{false, get_or, take}
use Rattle.std.proofs.lemmas.List.{take_more}
use Rattle.std.proofs.lemmas.List.Elements.{Contains-get_or}
use Rattle.plain_close.specs.declared.changes.Change.{Change}
use Rattle.plain_close.proofs.AddingChanges.{adds-more, adds-none}
use Rattle.plain_close.proofs.changes.add_changes.Goals as goal

abbrev nothing : Change
nothing = record { sig = record { 0 = 0 }; words = record { zero = 0; one = 0 }; cause = record { 0 = 0 }; again = false }

pub loop-change-init : goal.loop-change-init
loop-change-init c = adds-none c.args.p.now c.args.chunk c.args.planes.now c.args.worklist.now c.requires.of c.requires.worklist

pub add_change-added-requires-clause-change : goal.add_change-added-requires-clause-change
add_change-added-requires-clause-change c =
    (c.requires.changes (get_or c.args.changes.now c.loop-change.change-index nothing) (Contains-get_or c.args.changes.now c.loop-change.change-index nothing c.loop-change-test.true)).0

pub loop-change-preserved : goal.loop-change-preserved
loop-change-preserved c =
    let change : Change = get_or c.args.changes.now c.loop-change.change-index nothing in
    let are = c.requires.changes change (Contains-get_or c.args.changes.now c.loop-change.change-index nothing c.loop-change-test.true) in
    adds-more c.args.p.now c.args.chunk (take c.loop-change.change-index c.args.changes.now) c.args.planes.now c.loop-change.planes c.add_change-added.new.planes c.args.worklist.now c.loop-change.worklist
    c.add_change-added.new.worklist c.loop-change.added c.add_change-added.result c.loop-change.invariant change are.0 are.1 c.add_change-added.ensures _
    (take_more c.args.changes.now c.loop-change.change-index nothing c.loop-change-test.true)
