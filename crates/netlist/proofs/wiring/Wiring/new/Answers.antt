use Rattle.std.proofs.Common.{ℕ, ◌≡◌, ◌<◌, length, sym, ap, ◌∙◌, subst, arith}
use Rattle.std.proofs.lemmas.List.Elements.{All-filter}
use Rattle.std.specs.List.{All, filter}
use Rattle.netlist.specs.declared.lists.Entry.{Entry}
use Rattle.netlist.specs.Entries.{items_in, AreMarksOf}
use Rattle.netlist.specs.Wiring.{readers, signals_of, pin_parities, flip_flops}
use Rattle.netlist.specs.Indexed.{ArePlaces}
use Rattle.netlist.specs.Nodes.{drivers_from}
use Rattle.netlist.proofs.OtherReaders.{is_other, differs, items_in-others}
use Rattle.netlist.proofs.wiring.Wiring.new.Goals as goal

pub new-requires-2 : goal.new-requires-2
new-requires-2 c =
    let size : length c.deref-2.result.now ≡ c.len-2.result = omega (arith, ap length c.deref-2.ensures.value, c.len-2.ensures) in
    let all : All (λ (r : Entry). r.list.0 < c.len-2.result) c.into_vec-entries.result.items =
    subst (All (λ (r : Entry). r.list.0 < c.len-2.result)) (sym c.into_vec-entries.ensures) (subst (λ n. All (λ (r : Entry). r.list.0 < n) c.in_ok-reader_entries.field-0.items) size c.in_ok-reader_entries.ensures.pins) in
    subst (All (λ (r : Entry). r.list.0 < c.len-2.result)) (sym (c.deref-5.ensures.value ∙ c.keep_others.ensures)) (All-filter is_other (λ (r : Entry). r.list.0 < c.len-2.result) c.into_vec-entries.result.items all)

reader_items : (c : goal.In_ok-places) (s : ℕ) → items_in c.into_vec-entries.result.items s ≡ readers (drivers_from c.args.pins.items c.args.nodes.items) (record { 0 = s })
reader_items c s =
    ap (λ entries. items_in entries s) c.into_vec-entries.ensures
    ∙ c.in_ok-reader_entries.ensures.readers s ∙ ap (λ pins. readers (drivers_from pins c.deref-2.result.now) (record { 0 = s })) c.deref-3.ensures.value
    ∙ ap (λ nodes. readers (drivers_from c.args.pins.items nodes) (record { 0 = s })) c.deref-2.ensures.value

pub invariant_of-result : goal.invariant_of-result
invariant_of-result c = record {
  few = c.requires.few;
  within = c.requires.nodes;
  wired = c.requires.pins;
  all_readers = record {
    one_each = omega (arith, c.in_ok-readers.ensures.size, c.len.ensures);
    each = λ s h. c.in_ok-readers.ensures.lists s (omega (arith, h, c.len.ensures)) ∙ ap (λ entries. items_in entries s) c.deref-4.ensures.value ∙ reader_items c s;
  };
  all_others = record {
    one_each = omega (arith, c.in_ok-other_readers.ensures.size, c.len-2.ensures);
    each = λ s h.
        c.in_ok-other_readers.ensures.lists s (omega (arith, h, c.len-2.ensures)) ∙ ap (λ entries. items_in entries s) (c.deref-5.ensures.value ∙ c.keep_others.ensures)
        ∙ items_in-others c.into_vec-entries.result.items s ∙ ap (filter (differs s)) (reader_items c s);
  };
  all_signals = record {
    one_each = omega (arith, c.in_ok-signals.ensures.size, c.len-3.ensures);
    each = λ s h.
        c.in_ok-signals.ensures.lists s (omega (arith, h, c.len-3.ensures)) ∙ ap (λ entries. items_in entries s) c.as_slice.ensures
        ∙ c.in_ok-entries.ensures.signals s ∙ ap (λ pins. signals_of (drivers_from pins c.deref-6.result.now) (record { 0 = s })) c.deref-7.ensures.value
        ∙ ap (λ nodes. signals_of (drivers_from c.args.pins.items nodes) (record { 0 = s })) c.deref-6.ensures.value;
  };
  all_parities =
      subst (λ nodes. AreMarksOf c.in_ok-signals.signals c.in_ok-parities.parities.items (pin_parities (drivers_from c.args.pins.items nodes))) c.deref-8.ensures.value
      (subst (λ pins. AreMarksOf c.in_ok-signals.signals c.in_ok-parities.parities.items (pin_parities (drivers_from pins c.deref-8.result.now))) c.deref-9.ensures.value c.in_ok-parities.ensures);
  all_places =
      subst (λ nodes. ArePlaces (drivers_from c.args.pins.items nodes) (length nodes) c.in_ok-places.places.starts.items c.in_ok-places.places.places.items) c.deref-10.ensures.value
      (subst (λ pins. ArePlaces (drivers_from pins c.deref-10.result.now) (length c.deref-10.result.now) c.in_ok-places.places.starts.items c.in_ok-places.places.places.items) c.deref-11.ensures.value c.in_ok-places.ensures);
  all_flip_flops = c.in_ok-flip_flop_sigs.ensures c.args.pins.items ∙ ap (λ nodes. flip_flops (drivers_from c.args.pins.items nodes)) c.deref.ensures.value;
}
