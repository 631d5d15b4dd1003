use Rattle.std.proofs.Common.{◌≡◌, ◌+◌, length, take, drop, ◌++◌, sym, subst, arith}
use Rattle.std.proofs.lemmas.List.{take_at}
use Rattle.netlist.proofs.EachItem.{Gathered, Gathered-more, reader_of, reader_of-node}
use Rattle.netlist.proofs.readers.reader_entries.Goals as goal

pub loop-reader-preserved : goal.loop-reader-preserved
loop-reader-preserved c =
    let same : take c.loop-reader.last_items.len (c.push_item.new.last_items ++ drop (length c.push_item.new.last_items) c.loop-reader.last_items.items) ≡ c.push_item.new.last_items =
    take_at c.push_item.new.last_items _ _ (omega arith) in
    let before : Gathered (length c.args.nodes.now) (reader_of c.args.pins.now c.args.nodes.now) c.loop-reader.reader c.loop-reader.found.items c.deref_mut.result.now =
    subst (Gathered (length c.args.nodes.now) (reader_of c.args.pins.now c.args.nodes.now) c.loop-reader.reader c.loop-reader.found.items) (sym c.deref_mut.ensures.value) c.loop-reader.invariant in
    subst (Gathered (length c.args.nodes.now) (reader_of c.args.pins.now c.args.nodes.now) (c.loop-reader.reader + 1) c.push_item.new.found.items) (sym same)
    (Gathered-more (length c.args.nodes.now) (reader_of c.args.pins.now c.args.nodes.now) c.loop-reader.reader c.pins_at.result.now c.loop-reader.found.items c.push_item.new.found.items c.deref_mut.result.now
    c.push_item.new.last_items (reader_of-node c.args.pins.now c.args.nodes.now c.loop-reader.reader _ c.pins_at.result.now c.loop-reader-test.true c.pins_at.ensures) before (omega arith)
    c.in_ok-push_item.ensures.items c.in_ok-push_item.ensures.last c.in_ok-push_item.ensures.found)
