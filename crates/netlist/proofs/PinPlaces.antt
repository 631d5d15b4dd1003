-- The places of the pins of each gate and flip-flop among its signals.
use Rattle.std.proofs.Common.{ℕ, ◌≡◌, ◌+◌, ◌-◌, ◌<◌, ◌≤◌, ◌++◌, true, List, [], ◌∷◌, length, map, eqb, get_or, take, drop, Some, arith, sym, ap, ◌∙◌, refl, subst, length-drop, inl, inr, slice_get, slice_index, slice_range}
use Rattle.std.proofs.lemmas.Bool.{cases_lt, eqb-true, eq-eqb}
use Rattle.std.proofs.lemmas.List.{length-append, length-map, drop-append-le, take-append-le, get_or_append_left, get_or_push}
use Rattle.std.proofs.lemmas.List.FromFn.{length-map-range_with_len}
use Rattle.std.proofs.lemmas.List.Sums.{length-filter, count_by-le-length}
use Rattle.std.proofs.Math.Seq.{drop-append_seam, take-length}
use Rattle.std.specs.List.{All, Contains}
use Rattle.sr_model.proofs.lemmas.Members.{Contains-here, Contains-there, list_any-from, list_any-found}
use Rattle.sr_model.specs.declared.cells.Sig.{Sig}
use Rattle.sr_model.specs.Netlist.{Driver}
use Rattle.netlist.specs.declared.wiring.Node.{Node}
use Rattle.netlist.specs.Entries.{has_sig}
use Rattle.netlist.specs.Indexed.{ArePlaces}
use Rattle.netlist.specs.Nodes.{driver_of, drivers_from}
use Rattle.netlist.specs.Wiring.{driver_at, pins_of, signals_of, signals_below, has_signal, ArePinPlaces}
use Rattle.netlist.proofs.EachItem.{driver_at-node}
use Rattle.netlist.proofs.PinSignals.{signals_of-node}

-- each of the first n signals has a place noted at which it stands
pub record Noted (size : ℕ) (signals : List Sig) (n : ℕ) (place_of : List ℕ) : Type 0 where
  pub same_size : length place_of ≡ size
  pub each : (s : Sig) → Contains (take n signals) s → slice_get signals (slice_index place_of s.0) ≡ Some s

-- more places behind them leave those before
kept : (places more : List ℕ) (start count : ℕ) → start + count ≤ length places → slice_range (places ++ more) start (start + count) ≡ slice_range places start (start + count)
kept places more start count h =
    ap (take (start + count - start)) (drop-append-le start places more (omega arith))
    ∙ take-append-le (start + count - start) (drop start places) more (omega (arith, length-drop start places))

next : (places more : List ℕ) (count : ℕ) → length more ≡ count → slice_range (places ++ more) (length places) (length places + count) ≡ more
next places more count h =
    let many : length places + count - length places ≡ length more = omega (arith, h) in
    ap (λ m. take m (drop (length places) (places ++ more))) many ∙ ap (take (length more)) (drop-append_seam places more) ∙ take-length more

placed : (signals : List Sig) (place : Sig → ℕ) (pins : List Sig) → ((s : Sig) → Contains pins s → slice_get signals (place s) ≡ Some s) → map (slice_get signals) (map place pins) ≡ map Some pins
placed signals place [] each = refl
placed signals place (pin ∷ pins) each =
    let head = each pin (Contains-here pin pins) in
    let tail = placed signals place pins (λ s h. each s (Contains-there pin pins s h)) in
    cc

among : (pins signals : List Sig) → ((n : ℕ) → has_sig pins n ≡ true → has_sig signals n ≡ true) → (s : Sig) → Contains pins s → Contains signals s
among pins signals all s h =
    let found = list_any-found (λ (x : Sig). eqb x.0 s.0) signals (all s.0 (list_any-from (λ (x : Sig). eqb x.0 s.0) pins s h (eq-eqb s.0 s.0 refl))) in
    subst (Contains signals) (ap (λ n. record { 0 = n }) (eqb-true found.0.0 s.0 found.2)) found.1

-- no more signals than the netlist has
pub signals_of-few : (pins : List Sig) (nodes : List Node) (t : Sig) → length (signals_of (drivers_from pins nodes) t) ≤ length nodes
signals_of-few pins nodes t =
    let drivers = drivers_from pins nodes in
    let number : ℕ → Sig = λ s. record { 0 = s } in
    omega (
      arith,
      length-filter (has_signal (driver_at drivers t.0) t) (signals_below (length drivers)),
      count_by-le-length (has_signal (driver_at drivers t.0) t) (signals_below (length drivers)),
      length-map-range_with_len number 0 (length drivers),
      length-map nodes (driver_of pins),
    )

-- the places that are noted for a node's pins
pub places-noted : (pins : List Sig) (nodes : List Node) (t : ℕ) (d : Node) (its signals : List Sig) (place_of : List ℕ) → All (λ pin. pin.0 < length nodes) pins → t < length nodes
    → its ≡ pins_of (driver_of pins (get_or nodes t d)) → signals ≡ signals_of (drivers_from pins nodes) (record { 0 = t })
    → ((s : Sig) → Contains signals s → slice_get signals (slice_index place_of s.0) ≡ Some s)
    → ArePinPlaces (drivers_from pins nodes) (record { 0 = t }) (map (λ pin. slice_index place_of pin.0) its)
places-noted pins nodes t d its signals place_of wired h is are noted =
    let all = among its signals (λ n there. ap (λ xs. has_sig xs n) are ∙ signals_of-node pins nodes t d its wired h is n there) in
    subst (λ sigs. map (slice_get sigs) (map (λ (pin : Sig). slice_index place_of pin.0) its) ≡ map Some (pins_of (driver_at (drivers_from pins nodes) t))) are
    (placed signals (λ pin. slice_index place_of pin.0) its (λ s k. noted s (all s k)) ∙ ap (map Some) (is ∙ ap pins_of (sym (driver_at-node pins nodes t d h))))

pub ArePlaces-more : (drivers : List Driver) (n : ℕ) (starts new_starts places new more : List ℕ) → ArePlaces drivers n starts places → new_starts ≡ starts ++ length places ∷ [] → new ≡ places ++ more
    → ArePinPlaces drivers (record { 0 = n }) more → ArePlaces drivers (n + 1) new_starts new
ArePlaces-more drivers n starts new_starts places new more before started added are =
    let fits : length more ≡ length (pins_of (driver_at drivers n)) =
    omega (arith, ap length are, length-map more (slice_get (signals_of drivers (record { 0 = n }))), length-map (pins_of (driver_at drivers n)) Some) in
    let long : length new ≡ length places + length more = ap length added ∙ length-append places more in
    let old_start : (s : ℕ) → s < n → slice_index new_starts s ≡ slice_index starts s =
    λ s h. ap (λ xs. slice_index xs s) started ∙ get_or_append_left starts (length places ∷ []) 0 s (omega (arith, before.starts_size)) in
    let last_start : slice_index new_starts n ≡ length places = ap (λ xs. slice_index xs n) started ∙ get_or_push starts (length places) 0 n before.starts_size in
    record {
      starts_size = omega (arith, ap length started, length-append starts (length places ∷ []), before.starts_size);
      within = λ s h. elim (cases_lt s n) [
        | inl less ↦ omega (arith, old_start s less, before.within s less, long)
        | inr past ↦ let at : n ≡ s = omega arith in
            subst (λ t. slice_index new_starts t + length (pins_of (driver_at drivers t)) ≤ length new) at (omega (arith, last_start, long, fits))
      ];
      each = λ s h. elim (cases_lt s n) [
        | inl less ↦
            let count = length (pins_of (driver_at drivers s)) in
            let same : slice_range new (slice_index new_starts s) (slice_index new_starts s + count) ≡ slice_range places (slice_index starts s) (slice_index starts s + count) =
            ap (λ xs. slice_range xs (slice_index new_starts s) (slice_index new_starts s + count)) added
            ∙ ap (λ m. slice_range (places ++ more) m (m + count)) (old_start s less) ∙ kept places more (slice_index starts s) count (before.within s less) in
            subst (ArePinPlaces drivers (record { 0 = s })) (sym same) (before.each s less)
        | inr past ↦ let at : n ≡ s = omega arith in
            subst (λ t. ArePinPlaces drivers (record { 0 = t }) (slice_range new (slice_index new_starts t) (slice_index new_starts t + length (pins_of (driver_at drivers t))))) at
            (subst (ArePinPlaces drivers (record { 0 = n })) (sym (
            ap (λ xs. slice_range xs (slice_index new_starts n) (slice_index new_starts n + length (pins_of (driver_at drivers n)))) added
            ∙ ap (λ m. slice_range (places ++ more) m (m + length (pins_of (driver_at drivers n)))) last_start ∙ next places more (length (pins_of (driver_at drivers n))) fits)) are)
      ];
    }
