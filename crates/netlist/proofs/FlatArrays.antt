-- What the flat arrays say of the drivers.
use Rattle.std.proofs.Common.{ℕ, ◌≡◌, ◌+◌, ◌-◌, ◌<◌, ◌≤◌, ltb, slice_index, slice_index_or, Some, None, Option, List, [], length, get_or, take, drop, arith, sym, ap, ◌∙◌, subst}
use Rattle.std.proofs.lemmas.List.{length-map, get_or_read, get_or-map}
use Rattle.std.proofs.lemmas.List.FromFn.{length-range_with_len, get_or-range_with_len}
use Rattle.std.proofs.lemmas.List.Elements.{All-map, All-nil, All-take, All-drop}
use Rattle.std.proofs.lemmas.List.Sums.{count_by-le-length}
use Rattle.std.specs.List.{All, range_with_len}
use Rattle.sr_model.specs.declared.gates.Kind.{Kind}
use Rattle.sr_model.specs.declared.cells.Sig.{Sig}
use Rattle.netlist.specs.declared.wiring.Node.{Node}
use Rattle.netlist.specs.declared.lists.Entry.{Entry}
use Rattle.netlist.specs.Entries.{count_below, part_of, lists_from, AreParts}
use Rattle.netlist.specs.Wiring.{pins_of, IsWired}
use Rattle.netlist.specs.Nodes.{driver_by, driver_of, drivers_from}
use Rattle.netlist.proofs.ListStarts.{count_below-none}
use Rattle.netlist.proofs.ListParts.{count_below-le}

driver_by-pins : (P : Sig → Type 0) (kind : Option Kind) (pins : List Sig) → All P pins → All P (pins_of (driver_by kind pins))
driver_by-pins P None pins all = All-nil P
driver_by-pins P (Some kind) pins all = all

-- a node's pins are of the flat list
pub driver_of-pins : (P : Sig → Type 0) (pins : List Sig) (node : Node) → All P pins → All P (pins_of (driver_of pins node))
driver_of-pins P pins node all =
    driver_by-pins P node.kind (take node.pin_count (drop node.first_pin pins)) (All-take P node.pin_count (drop node.first_pin pins) (All-drop P node.first_pin pins all))

-- so the drivers are wired where the flat list is
pub drivers_from-wired : (pins : List Sig) (nodes : List Node) → All (λ pin. pin.0 < length nodes) pins → IsWired (drivers_from pins nodes)
drivers_from-wired pins nodes all =
    let below : All (λ pin. pin.0 < length (drivers_from pins nodes)) pins = subst (λ n. All (λ (pin : Sig). pin.0 < n) pins) (sym (length-map nodes (driver_of pins))) all in
    All-map (λ driver. All (λ pin. pin.0 < length (drivers_from pins nodes)) (pins_of driver)) (driver_of pins) nodes
    (λ k d h. driver_of-pins (λ pin. pin.0 < length (drivers_from pins nodes)) pins (get_or nodes k d) below)

-- the part between two starts that were read
pub part-read : (starts : List ℕ) (sigs : List Sig) (s start end : ℕ) → s + 1 < length starts → start ≡ get_or starts s start → end ≡ get_or starts (s + 1) end
    → take (end - start) (drop start sigs) ≡ part_of starts sigs s
part-read starts sigs s start end h first second =
    let before : s < length starts = omega arith in
    ap (λ n. take (end - n) (drop n sigs)) (get_or_read starts s start before first 0)
    ∙ ap (λ n. take (n - slice_index starts s) (drop (slice_index starts s) sigs)) (get_or_read starts (s + 1) end h second 0)

-- the parts of lists whose starts count the entries before them
pub AreParts-from : (starts : List ℕ) (entries : List Entry) (lists total : ℕ) → length starts ≡ lists + 1 → ((s : ℕ) → s ≤ lists → slice_index starts s ≡ count_below entries s)
    → total ≡ length entries → AreParts starts total
AreParts-from starts entries lists total size counted all = record {
  has_end = omega arith;
  ascending = λ s h.
      let first : slice_index starts s ≡ count_below entries s = counted s (omega arith) in
      let second : slice_index starts (s + 1) ≡ count_below entries (s + 1) = counted (s + 1) (omega arith) in
      let order : count_below entries s ≤ count_below entries (s + 1) = count_below-le entries s (s + 1) (omega arith) in
      omega arith;
  within = λ s h.
      let second : slice_index starts (s + 1) ≡ count_below entries (s + 1) = counted (s + 1) (omega arith) in
      let most : count_below entries (s + 1) ≤ length entries = count_by-le-length (λ r. ltb r.list.0 (s + 1)) entries in
      omega arith;
  from_zero = counted 0 (omega arith) ∙ count_below-none entries;
}

-- how many lists there are
pub number_of_lists : (starts : List ℕ) (sigs : List Sig) → length (lists_from starts sigs) ≡ length starts - 1
number_of_lists starts sigs = length-map (range_with_len 0 (length starts - 1)) (part_of starts sigs) ∙ length-range_with_len 0 (length starts - 1)

zero-add : (s : ℕ) → 0 + s ≡ s
zero-add s = omega arith

-- one of them
pub lists_from-at : (starts : List ℕ) (sigs : List Sig) (s : ℕ) → s + 1 < length starts → slice_index_or (lists_from starts sigs) s [] ≡ part_of starts sigs s
lists_from-at starts sigs s h =
    let below : s < length starts - 1 = omega arith in
    let within : s < length (range_with_len 0 (length starts - 1)) = subst (λ n. s < n) (sym (length-range_with_len 0 (length starts - 1))) below in
    let place : get_or (range_with_len 0 (length starts - 1)) s 0 ≡ s = get_or-range_with_len 0 (length starts - 1) s 0 below ∙ zero-add s in
    get_or-map (part_of starts sigs) (range_with_len 0 (length starts - 1)) s 0 [] within ∙ ap (part_of starts sigs) place
