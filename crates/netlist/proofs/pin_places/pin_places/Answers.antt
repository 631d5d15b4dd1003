use Rattle.std.proofs.Common.{◌≡◌, ◌++◌, [], ◌∷◌, length, take, drop, map, slice_index, ap, ◌∙◌, arith}
use Rattle.std.proofs.lemmas.List.{take_at}
use Rattle.netlist.specs.Nodes.{drivers_from}
use Rattle.netlist.proofs.PinPlaces.{signals_of-few, places-noted, ArePlaces-more}
use Rattle.netlist.proofs.PinSignals.{signals_of-within, node_pins-within}
use Rattle.netlist.proofs.pin_places.pin_places.Goals as goal

pub note_places-requires-clause-signals : goal.note_places-requires-clause-signals
note_places-requires-clause-signals c =
    let size : length c.args.nodes.now ≡ length c.deref_mut.result.now = omega (arith, ap length c.deref_mut.ensures.value, c.loop-target.invariant.0) in
    signals_of-within c.args.pins.now c.args.nodes.now c.loop-target.target (length c.deref_mut.result.now) c.get.result.now
    (c.get.ensures ∙ c.requires.signals.each c.loop-target.target c.loop-target-test.true) size

pub note_places-requires-clause-few : goal.note_places-requires-clause-few
note_places-requires-clause-few c =
    omega (arith, ap length (c.get.ensures ∙ c.requires.signals.each c.loop-target.target c.loop-target-test.true), signals_of-few c.args.pins.now c.args.nodes.now (record { 0 = c.loop-target.target }), c.requires.few)

pub push_places-requires : goal.push_places-requires
push_places-requires c =
    let size : length c.args.nodes.now ≡ length c.deref.result.now =
    omega (arith, ap length c.deref.ensures.value, c.note_places.ensures.size, ap length c.deref_mut.ensures.value, c.loop-target.invariant.0) in
    node_pins-within c.args.pins.now c.args.nodes.now _ (length c.deref.result.now) c.pins_at.result.now c.requires.pins c.pins_at.ensures size

pub loop-target-preserved : goal.loop-target-preserved
loop-target-preserved c =
    let same : take c.loop-target.place_of.len (c.note_places.new.place_of ++ drop (length c.note_places.new.place_of) c.loop-target.place_of.items) ≡ c.note_places.new.place_of =
    take_at c.note_places.new.place_of _ _ (omega (arith, c.note_places.ensures.size, ap length c.deref_mut.ensures.value)) in
    let noted : c.deref.result.now ≡ c.note_places.new.place_of = c.deref.ensures.value ∙ same in (
      omega (arith, ap length same, c.note_places.ensures.size, ap length c.deref_mut.ensures.value, c.loop-target.invariant.0),
      ArePlaces-more (drivers_from c.args.pins.now c.args.nodes.now) c.loop-target.target c.loop-target.starts.items c.push.new.self.items c.loop-target.places.items c.push_places.new.places.items
          (map (λ pin. slice_index c.note_places.new.place_of pin.0) c.pins_at.result.now) c.loop-target.invariant.1
          (c.in_ok-push.ensures.ok ∙ ap (λ n. c.loop-target.starts.items ++ n ∷ []) c.len.ensures)
          (c.in_ok-push_places.ensures ∙ ap (λ place_of. c.loop-target.places.items ++ map (λ pin. slice_index place_of pin.0) c.pins_at.result.now) noted)
          (places-noted c.args.pins.now c.args.nodes.now c.loop-target.target _ c.pins_at.result.now c.get.result.now c.note_places.new.place_of c.requires.pins c.loop-target-test.true c.pins_at.ensures
          (c.get.ensures ∙ c.requires.signals.each c.loop-target.target c.loop-target-test.true) c.note_places.ensures.places),
    )
