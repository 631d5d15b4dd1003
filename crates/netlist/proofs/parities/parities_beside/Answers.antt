use Rattle.std.proofs.Common.{◌≡◌, ◌+◌, ◌<◌, ◌++◌, length, map, take, drop, sym, ap, ◌∙◌, subst, arith}
use Rattle.std.proofs.lemmas.List.{take_at, length-map}
use Rattle.netlist.specs.Entries.{has_sig, is_odd_in}
use Rattle.netlist.specs.Wiring.{pin_parities}
use Rattle.netlist.specs.Nodes.{drivers_from}
use Rattle.netlist.proofs.OddPins.{Marked, Marked-more}
use Rattle.netlist.proofs.PinSignals.{signals_of-within, signals_of-node, node_pins-within, node-parities}
use Rattle.netlist.proofs.parities.parities_beside.Goals as goal

pub push_parities-requires-clause-signals : goal.push_parities-requires-clause-signals
push_parities-requires-clause-signals c =
    let size : length c.args.nodes.now ≡ length c.deref_mut.result.now = omega (arith, ap length c.deref_mut.ensures.value, c.loop-target.invariant.size) in
    signals_of-within c.args.pins.now c.args.nodes.now c.loop-target.target (length c.deref_mut.result.now) c.get-signals.result.now
    (c.get-signals.ensures ∙ c.requires.signals.each c.loop-target.target c.loop-target-test.true) size

pub push_parities-requires-clause-pins : goal.push_parities-requires-clause-pins
push_parities-requires-clause-pins c =
    let size : length c.args.nodes.now ≡ length c.deref_mut.result.now = omega (arith, ap length c.deref_mut.ensures.value, c.loop-target.invariant.size) in
    node_pins-within c.args.pins.now c.args.nodes.now _ (length c.deref_mut.result.now) c.pins_at.result.now c.requires.pins c.pins_at.ensures size

pub push_parities-requires-clause-all : goal.push_parities-requires-clause-all
push_parities-requires-clause-all c s among =
    ap (λ sigs. has_sig sigs s) (c.get-signals.ensures ∙ c.requires.signals.each c.loop-target.target c.loop-target-test.true)
    ∙ signals_of-node c.args.pins.now c.args.nodes.now c.loop-target.target _ c.pins_at.result.now c.requires.pins c.loop-target-test.true c.pins_at.ensures s among

pub loop-target-preserved : goal.loop-target-preserved
loop-target-preserved c =
    let drivers = drivers_from c.args.pins.now c.args.nodes.now in
    let same : take c.loop-target.odd.len (c.push_parities.new.odd ++ drop (length c.push_parities.new.odd) c.loop-target.odd.items) ≡ c.push_parities.new.odd =
    take_at c.push_parities.new.odd _ _ (omega (arith, c.in_ok-push_parities.ensures.size, ap length c.deref_mut.ensures.value)) in
    let within : c.loop-target.target < length c.args.signal_lists.now = omega (arith, c.requires.signals.one_each, c.loop-target-test.true) in
    subst (Marked c.args.signal_lists.now (pin_parities drivers) (length c.args.nodes.now) (c.loop-target.target + 1) c.push_parities.new.marks.items) (sym same)
    (Marked-more c.args.signal_lists.now (pin_parities drivers) (length c.args.nodes.now) c.loop-target.target c.loop-target.marks.items c.push_parities.new.marks.items c.loop-target.odd.items
    c.push_parities.new.odd (map (λ s. is_odd_in c.pins_at.result.now s.0) c.get-signals.result.now) within c.loop-target.invariant c.in_ok-push_parities.ensures.marks
    (node-parities c.args.pins.now c.args.nodes.now c.loop-target.target _ c.pins_at.result.now c.get-signals.result.now c.loop-target-test.true c.pins_at.ensures
    (c.get-signals.ensures ∙ c.requires.signals.each c.loop-target.target c.loop-target-test.true))
    (length-map c.get-signals.result.now (λ s. is_odd_in c.pins_at.result.now s.0) ∙ ap length c.get-signals.ensures)
    (omega (arith, c.in_ok-push_parities.ensures.size, ap length c.deref_mut.ensures.value, c.loop-target.invariant.size)) c.in_ok-push_parities.ensures.clear)
