-- The signals of a gate or flip-flop are signals of the netlist, and its pins are among them.
use Rattle.std.proofs.Common.{ℕ, ◌≡◌, ◌<◌, ◌&&◌, ◌||◌, Bool, true, false, List, length, map, eqb, get_or, sym, ap, ◌∙◌, refl, subst, inl, inr}
use Rattle.std.proofs.lemmas.Bool.{cases_Bool, eqb-true, true≢false}
use Rattle.std.proofs.lemmas.List.{length-map}
use Rattle.std.proofs.lemmas.List.Elements.{All-contains, All-filter, All-get_or}
use Rattle.std.proofs.lemmas.Map.Views.{any-filter_same}
use Rattle.sr_model.proofs.lemmas.Members.{list_any-found}
use Rattle.std.specs.List.{All}
use Rattle.sr_model.specs.declared.cells.Sig.{Sig}
use Rattle.sr_model.specs.Netlist.{Driver, Input}
use Rattle.netlist.specs.declared.wiring.Node.{Node}
use Rattle.netlist.specs.Entries.{has_sig, is_odd_in}
use Rattle.netlist.specs.Wiring.{driver_at, pins_of, reads, signals_of, signals_below, is_driven, has_signal, is_odd_pin, pin_parities, IsWired}
use Rattle.netlist.specs.Nodes.{driver_of, drivers_from}
use Rattle.netlist.proofs.EachItem.{driver_at-node}
use Rattle.netlist.proofs.FlatArrays.{drivers_from-wired, driver_of-pins}
use Rattle.netlist.proofs.Marks.{signals_within}
use Rattle.netlist.proofs.SignalLists.{below-has, undriven-reads}

abbrev sig : ℕ → Sig
sig s = record { 0 = s }

-- of a list of numbers below n, each is below n
among-below : (sigs : List Sig) (s n : ℕ) → All (λ x. x.0 < n) sigs → has_sig sigs s ≡ true → s < n
among-below sigs s n all h =
    let found = list_any-found (λ (x : Sig). eqb x.0 s) sigs h in
    subst (λ m. m < n) (eqb-true found.0.0 s found.2) (All-contains (λ (x : Sig). x.0 < n) sigs found.0 all found.1)

and-both : (a b : Bool) → a ≡ true → b ≡ true → (a && b) ≡ true
and-both true b h e = e
and-both false b h e = absurd (true≢false (sym h))

or-second : (a b : Bool) → b ≡ true → (a || b) ≡ true
or-second true b e = refl
or-second false b e = e

-- a pin is a signal of its gate or flip-flop
pin-is_signal : (driver : Driver) (t s : ℕ) → has_sig (pins_of driver) s ≡ true → has_signal driver (sig t) (sig s) ≡ true
pin-is_signal driver t s h =
    let driven : is_driven driver ≡ true = elim (cases_Bool (is_driven driver)) [
      | inl is ↦ is
      | inr none ↦ absurd (true≢false (sym h ∙ undriven-reads driver (sig s) none))
    ] in
    and-both (is_driven driver) (eqb s t || reads driver (sig s)) driven (or-second (eqb s t) (reads driver (sig s)) h)

-- and so it is in the list
pub signals_of-pins : (drivers : List Driver) (t s : ℕ) → IsWired drivers → t < length drivers → has_sig (pins_of (driver_at drivers t)) s ≡ true → has_sig (signals_of drivers (record { 0 = t })) s ≡ true
signals_of-pins drivers t s wired within h =
    let pins : All (λ (pin : Sig). pin.0 < length drivers) (pins_of (driver_at drivers t)) =
    All-get_or (λ driver. All (λ (pin : Sig). pin.0 < length drivers) (pins_of driver)) drivers t Input within wired in
    any-filter_same (λ (x : Sig). eqb x.0 s) (has_signal (driver_at drivers t) (sig t)) (has_signal (driver_at drivers t) (sig t) (sig s))
    (λ x is. ap (λ n. has_signal (driver_at drivers t) (sig t) (sig n)) (eqb-true x.0 s is)) (signals_below (length drivers))
    ∙ and-both (has_signal (driver_at drivers t) (sig t) (sig s)) (has_sig (signals_below (length drivers)) s) (pin-is_signal (driver_at drivers t) t s h)
    (below-has (length drivers) s (among-below (pins_of (driver_at drivers t)) s (length drivers) pins h))

-- the list has signals of the netlist
pub signals_of-within : (pins : List Sig) (nodes : List Node) (t m : ℕ) (its : List Sig) → its ≡ signals_of (drivers_from pins nodes) (record { 0 = t }) → length nodes ≡ m → All (λ s. s.0 < m) its
signals_of-within pins nodes t m its is size =
    let all = All-filter (has_signal (driver_at (drivers_from pins nodes) t) (sig t)) (λ (x : Sig). x.0 < length (drivers_from pins nodes)) (signals_below (length (drivers_from pins nodes)))
    (signals_within (length (drivers_from pins nodes))) in
    subst (All (λ (x : Sig). x.0 < m)) (sym is) (subst (λ n. All (λ (x : Sig). x.0 < n) (signals_of (drivers_from pins nodes) (sig t))) (length-map nodes (driver_of pins) ∙ size) all)

-- and so have a node's pins
pub node_pins-within : (pins : List Sig) (nodes : List Node) (node : Node) (m : ℕ) (its : List Sig) → All (λ pin. pin.0 < length nodes) pins → its ≡ pins_of (driver_of pins node) → length nodes ≡ m
    → All (λ s. s.0 < m) its
node_pins-within pins nodes node m its all is size =
    subst (All (λ (x : Sig). x.0 < m)) (sym is) (driver_of-pins (λ (x : Sig). x.0 < m) pins node (subst (λ n. All (λ (x : Sig). x.0 < n) pins) size all))

-- a node's pins are among its signals
pub signals_of-node : (pins : List Sig) (nodes : List Node) (t : ℕ) (d : Node) (its : List Sig) → All (λ pin. pin.0 < length nodes) pins → t < length nodes
    → its ≡ pins_of (driver_of pins (get_or nodes t d)) → (s : ℕ) → has_sig its s ≡ true → has_sig (signals_of (drivers_from pins nodes) (record { 0 = t })) s ≡ true
signals_of-node pins nodes t d its all h is s among =
    let same : its ≡ pins_of (driver_at (drivers_from pins nodes) t) = is ∙ ap pins_of (sym (driver_at-node pins nodes t d h)) in
    signals_of-pins (drivers_from pins nodes) t s (drivers_from-wired pins nodes all) (subst (λ n. t < n) (sym (length-map nodes (driver_of pins))) h) (ap (λ xs. has_sig xs s) (sym same) ∙ among)

-- the parities of a node's signals
pub node-parities : (pins : List Sig) (nodes : List Node) (t : ℕ) (d : Node) (its signals : List Sig) → t < length nodes → its ≡ pins_of (driver_of pins (get_or nodes t d))
    → signals ≡ signals_of (drivers_from pins nodes) (record { 0 = t }) → map (λ s. is_odd_in its s.0) signals ≡ pin_parities (drivers_from pins nodes) (record { 0 = t })
node-parities pins nodes t d its signals h is are =
    ap (λ ps. map (λ (s : Sig). is_odd_in ps s.0) signals) (is ∙ ap pins_of (sym (driver_at-node pins nodes t d h)))
    ∙ ap (map (is_odd_pin (driver_at (drivers_from pins nodes) t))) are
