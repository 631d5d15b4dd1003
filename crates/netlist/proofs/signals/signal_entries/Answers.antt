use Rattle.std.proofs.Common.{◌≡◌, ◌+◌, length, take, drop, ◌++◌, sym, ap, ◌∙◌, subst, arith}
use Rattle.std.proofs.lemmas.List.{take_at, length-map}
use Rattle.netlist.specs.Entries.{has_sig}
use Rattle.netlist.specs.Wiring.{driver_at, has_signal}
use Rattle.netlist.specs.Nodes.{driver_of, drivers_from}
use Rattle.netlist.proofs.EachItem.{Gathered, Gathered-more}
use Rattle.netlist.proofs.SignalLists.{node-lists, lists-within, lists-of}
use Rattle.netlist.proofs.signals.signal_entries.Goals as goal

pub push_item-requires-clause-lists : goal.push_item-requires-clause-lists
push_item-requires-clause-lists c =
    let its = node-lists c.args.pins.now c.args.nodes.now c.loop-signal.signal _ c.clear.new.self.items c.get.result.now c.push_lists.new.lists.items c.deref.result.now c.loop-signal-test.true
    c.clear.ensures.items (c.get.ensures ∙ c.requires.readers.each c.loop-signal.signal c.loop-signal-test.true) c.in_ok-push_lists.ensures c.deref.ensures.value in
    let size : length (drivers_from c.args.pins.now c.args.nodes.now) ≡ length c.args.nodes.now = length-map c.args.nodes.now (driver_of c.args.pins.now) in
    let there : length (drivers_from c.args.pins.now c.args.nodes.now) ≡ length c.deref_mut.result.now = omega (arith, size, ap length c.deref_mut.ensures.value, c.loop-signal.invariant.size) in
    lists-within (drivers_from c.args.pins.now c.args.nodes.now) c.loop-signal.signal (length c.deref_mut.result.now) c.deref.result.now there (omega (arith, size, there, c.loop-signal-test.true)) its

pub loop-signal-preserved : goal.loop-signal-preserved
loop-signal-preserved c =
    let its = node-lists c.args.pins.now c.args.nodes.now c.loop-signal.signal _ c.clear.new.self.items c.get.result.now c.push_lists.new.lists.items c.deref.result.now c.loop-signal-test.true
    c.clear.ensures.items (c.get.ensures ∙ c.requires.readers.each c.loop-signal.signal c.loop-signal-test.true) c.in_ok-push_lists.ensures c.deref.ensures.value in
    let same : take c.loop-signal.last_items.len (c.push_item.new.last_items ++ drop (length c.push_item.new.last_items) c.loop-signal.last_items.items) ≡ c.push_item.new.last_items =
    take_at c.push_item.new.last_items _ _ (omega arith) in
    let before = subst (Gathered (length c.args.nodes.now) (λ t. has_signal (driver_at (drivers_from c.args.pins.now c.args.nodes.now) t) (record { 0 = t })) c.loop-signal.signal c.loop-signal.found.items)
    (sym c.deref_mut.ensures.value) c.loop-signal.invariant in
    subst (Gathered (length c.args.nodes.now) (λ t. has_signal (driver_at (drivers_from c.args.pins.now c.args.nodes.now) t) (record { 0 = t })) (c.loop-signal.signal + 1) c.push_item.new.found.items) (sym same)
    (Gathered-more (length c.args.nodes.now) (λ t. has_signal (driver_at (drivers_from c.args.pins.now c.args.nodes.now) t) (record { 0 = t })) c.loop-signal.signal c.deref.result.now c.loop-signal.found.items
    c.push_item.new.found.items c.deref_mut.result.now c.push_item.new.last_items
    (λ t. ap (λ xs. has_sig xs t) its ∙ lists-of (drivers_from c.args.pins.now c.args.nodes.now) c.loop-signal.signal t) before (omega arith)
    c.in_ok-push_item.ensures.items c.in_ok-push_item.ensures.last c.in_ok-push_item.ensures.found)
