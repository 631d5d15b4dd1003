-- Items added to lists, one item after another.
use Rattle.std.proofs.Common.{ℕ, ◌≡◌, ◌+◌, ◌<◌, Bool, true, false, Option, Some, None, List, [], ◌∷◌, ◌++◌, length, cond, get_or, arith, sym, ap, ◌∙◌, subst}
use Rattle.std.proofs.lemmas.List.{get_or-map}
use Rattle.std.proofs.lemmas.List.Elements.{All-get_or, All-from_get_or}
use Rattle.std.proofs.lemmas.List.FromFn.{filter_of_map_range_with_len_more}
use Rattle.std.specs.Option.{IfSome}
use Rattle.std.specs.List.{All, filter}
use Rattle.sr_model.specs.declared.cells.Sig.{Sig}
use Rattle.netlist.specs.declared.lists.Entry.{Entry}
use Rattle.netlist.specs.declared.wiring.Node.{Node}
use Rattle.sr_model.specs.Netlist.{Input}
use Rattle.netlist.specs.Entries.{items_in, has_sig}
use Rattle.netlist.specs.Wiring.{driver_at, pins_of, reads, signals_below}
use Rattle.netlist.specs.Nodes.{driver_of, drivers_from}

-- The items below n were added to the lists, of which there are so many, that they belong to; and each last item is one of them.
pub record Gathered (lists : ℕ) (belongs : ℕ → Sig → Bool) (n : ℕ) (found : List Entry) (last : List (Option Sig)) : Type 0 where
  pub size : length last ≡ lists
  pub items : (s : ℕ) → items_in found s ≡ filter (belongs s) (signals_below n)
  pub earlier : All (λ l. IfSome l (λ t. t.0 < n)) last
  pub within : All (λ r. r.list.0 < lists) found

later : (n : ℕ) (last : Option Sig) → IfSome last (λ t. t.0 < n) → IfSome last (λ t. t.0 < n + 1)
later n None h = tt
later n (Some t) h = omega (arith, h)

last-earlier : (has : Bool) (n : ℕ) (last : Option Sig) → IfSome last (λ t. t.0 < n) → IfSome (cond has (Some (record { 0 = n })) last) (λ t. t.0 < n + 1)
last-earlier true n last h = omega arith
last-earlier false n last h = later n last h

-- one more item
pub Gathered-more : (lists : ℕ) (belongs : ℕ → Sig → Bool) (n : ℕ) (its_lists : List Sig) (found new : List Entry) (last new_last : List (Option Sig))
    → ((s : ℕ) → has_sig its_lists s ≡ belongs s (record { 0 = n })) → Gathered lists belongs n found last → length new_last ≡ length last
    → ((s : ℕ) → items_in new s ≡ items_in found s ++ cond (has_sig its_lists s) (record { 0 = n } ∷ []) [])
    → ((s : ℕ) → get_or new_last s None ≡ cond (has_sig its_lists s) (Some (record { 0 = n })) (get_or last s None))
    → All (λ r. r.list.0 < length last) new → Gathered lists belongs (n + 1) new new_last
Gathered-more lists belongs n its_lists found new last new_last has before size more lasts within = record {
  size = size ∙ before.size;
  items = items;
  earlier = All-from_get_or (λ l. IfSome l (λ t. t.0 < n + 1)) new_last None (λ s small.
      let was : IfSome (get_or last s None) (λ t. t.0 < n) = All-get_or (λ l. IfSome l (λ t. t.0 < n)) last s None (subst (λ m. s < m) size small) before.earlier in
      subst (λ l. IfSome l (λ t. t.0 < n + 1)) (sym (lasts s)) (last-earlier (has_sig its_lists s) n (get_or last s None) was));
  within = subst (λ m. All (λ (r : Entry). r.list.0 < m) new) before.size within;
} where
  items : (s : ℕ) → items_in new s ≡ filter (belongs s) (signals_below (n + 1))
  items s =
      more s ∙ ap (λ xs. xs ++ cond (has_sig its_lists s) (record { 0 = n } ∷ []) []) (before.items s)
      ∙ ap (λ b. filter (belongs s) (signals_below n) ++ cond b (record { 0 = n } ∷ []) []) (has s)
      ∙ sym (filter_of_map_range_with_len_more (belongs s) (λ k. record { 0 = k }) 0 n n (omega arith))

-- the driver of a node's signal
pub driver_at-node : (pins : List Sig) (nodes : List Node) (n : ℕ) (d : Node) → n < length nodes → driver_at (drivers_from pins nodes) n ≡ driver_of pins (get_or nodes n d)
driver_at-node pins nodes n d h = get_or-map (driver_of pins) nodes n d Input h

-- signal t reads signal s
abbrev pub reader_of : List Sig → List Node → ℕ → Sig → Bool
reader_of pins nodes s t = reads (driver_at (drivers_from pins nodes) t.0) (record { 0 = s })

-- the signals that a node reads are its pins
pub reader_of-node : (pins : List Sig) (nodes : List Node) (n : ℕ) (d : Node) (its_pins : List Sig) → n < length nodes → its_pins ≡ pins_of (driver_of pins (get_or nodes n d))
    → (s : ℕ) → has_sig its_pins s ≡ reader_of pins nodes s (record { 0 = n })
reader_of-node pins nodes n d its_pins h is s = ap (λ ps. has_sig ps s) (is ∙ ap pins_of (sym (driver_at-node pins nodes n d h)))
