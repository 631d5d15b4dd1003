-- The bits of one cycle, one signal after another.
use Rattle.std.proofs.Common.{ℕ, ◌≡◌, ◌<◌, ◌≤◌, ◌⊎◌, ◌+◌, Bool, true, false, not, List, [], ◌∷◌, length, map, get_or, set, Some, arith, inl, inr, refl, sym, ap, subst, ◌∙◌}
use Rattle.std.specs.List.{All, Contains}
use Rattle.std.proofs.lemmas.Bool.{cases_Bool, cases_eq, cases_lt, true≢false}
use Rattle.std.proofs.lemmas.List.{get_or-set_same, get_or-set_other, get_or_default}
use Rattle.std.proofs.lemmas.List.Elements.{All-contains, All-get_or, Contains-get_or}
use Rattle.std.proofs.Math.ListN.{get_or-eq_default}
use Rattle.sr_model.specs.declared.gates.Kind.{Kind}
use Rattle.sr_model.specs.declared.gates.Kind.TheVariants.{Dff}
use Rattle.sr_model.specs.declared.cells.Sig.{Sig}
use Rattle.sr_model.specs.declared.cells.Place.{Place}
use Rattle.sr_model.specs.Gate.{value}
use Rattle.sr_model.specs.Netlist.{Driver, Input, Driven, Valuation, cell_at, delay}
use Rattle.sr_model.proofs.lemmas.Laws.{flip_flop-dff}
use Rattle.sr_model.proofs.lemmas.Instances.{instance_of, stands-at}
use Rattle.sr_model.proofs.lemmas.Members.{Contains-here, Contains-there, filter-has, filter-passes}
use Rattle.netlist.specs.Circuit.{Circuit, IsCircuit, unrolled_over}
use Rattle.netlist.specs.Wiring.{driver_at, kind_of, pins_of, is_gate, is_flip_flop, flip_flops, signals_below}
use Rattle.netlist.specs.Ranks.{IsOrder}
use Rattle.netlist.proofs.lemmas.Signals.{signals_member}
use Rattle.unroll.proofs.lemmas.Tasks.{delay-cases}
use Rattle.cycle_sim.specs.BitTable.{BitTable, bit_in}
use Rattle.cycle_sim.specs.Simulation.{IsSimulated}
use Rattle.cycle_sim.specs.Frames.{IsRight, in_frame, value_by}
use Rattle.cycle_sim.proofs.GateOutputs.{its-pins, its-count, map-twice}
use Rattle.cycle_sim.proofs.PinOrder.{earlier-gate}

-- a right bit is set
module _ (v : Valuation) (cycle : ℕ) (frame : List Bool) (s : Sig) (b : Bool) (within : s.0 < length frame) (right : b ≡ v (cell_at cycle s)) where
  pub set-here : IsRight v cycle (set frame s.0 b) s
  set-here = get_or-set_same frame s.0 b false within ∙ right

  pub set-right : (x : Sig) → IsRight v cycle frame x → IsRight v cycle (set frame s.0 b) x
  set-right x before =
      elim (cases_eq x.0 s.0) [
        | inl same ↦
            let one : s ≡ x = ap (λ n. record { 0 = n }) (sym same) in
            subst (IsRight v cycle (set frame s.0 b)) one set-here
        | inr other ↦ get_or-set_other frame s.0 x.0 b false other ∙ before
      ]

-- all of a list that has a right bit at each of the first places
pub rights-more : (v : Valuation) (cycle : ℕ) (frame : List Bool) (sigs : List Sig) (j : ℕ) (d : Sig) (b : Bool) → (get_or sigs j d).0 < length frame → b ≡ v (cell_at cycle (get_or sigs j d))
    → ((k : ℕ) → k < j → IsRight v cycle frame (get_or sigs k d)) → (k : ℕ) → k < j + 1 → IsRight v cycle (set frame (get_or sigs j d).0 b) (get_or sigs k d)
rights-more v cycle frame sigs j d b within right before k h =
    elim (cases_eq k j) [
      | inl same ↦ subst (λ n. IsRight v cycle (set frame (get_or sigs j d).0 b) (get_or sigs n d)) (sym same) (set-here v cycle frame (get_or sigs j d) b within right)
      | inr other ↦ set-right v cycle frame (get_or sigs j d) b within right (get_or sigs k d) (before k (omega (arith, h, other)))
    ]

-- and so of each member, where all places are right
pub member-right : (v : Valuation) (cycle : ℕ) (frame : List Bool) (sigs : List Sig) (n : ℕ) (d s : Sig) → length sigs ≤ n → ((k : ℕ) → k < n → IsRight v cycle frame (get_or sigs k d)) → Contains sigs s
    → IsRight v cycle frame s
member-right v cycle frame sigs n d s all right h =
    subst (IsRight v cycle frame) (get_or_default sigs h.0 d s h.1 ∙ h.2) (right h.0 (omega (arith, h.1, all)))

-- a flip-flop is listed
pub flip_flop-listed : (drivers : List Driver) (s : Sig) → s.0 < length drivers → is_flip_flop (driver_at drivers s.0) ≡ true → Contains (flip_flops drivers) s
flip_flop-listed drivers s within is =
    filter-has (λ (x : Sig). is_flip_flop (driver_at drivers x.0)) (signals_below (length drivers)) s (signals_member (length drivers) s.0 within) is

-- and is one of the signals
pub flip_flop-within : (drivers : List Driver) (sigs : List Sig) → sigs ≡ flip_flops drivers → (j : ℕ) (d : Sig) → j < length sigs
    → ((get_or sigs j d).0 < length drivers) × (is_flip_flop (driver_at drivers (get_or sigs j d).0) ≡ true)
flip_flop-within drivers sigs is j d h =
    let listed : Contains (flip_flops drivers) (get_or sigs j d) = subst (λ xs. Contains xs (get_or sigs j d)) is (Contains-get_or sigs j d h) in
    let passes : is_flip_flop (driver_at drivers (get_or sigs j d).0) ≡ true = filter-passes (λ (x : Sig). is_flip_flop (driver_at drivers x.0)) (signals_below (length drivers)) (get_or sigs j d) listed in (
      elim (cases_lt (get_or sigs j d).0 (length drivers)) [
        | inl below ↦ below
        | inr past ↦ absurd (true≢false (sym passes ∙ ap is_flip_flop (get_or-eq_default drivers Input past)))
      ],
      passes,
    )

-- an input is one of the signals
pub input-within : (c : Circuit) → IsCircuit c → (sigs : List Sig) → sigs ≡ c.inputs → (j : ℕ) (d : Sig) → j < length sigs → (get_or sigs j d).0 < length c.drivers
input-within c is sigs same j d h = ((is.inputs (get_or sigs j d)).0 (subst (λ xs. Contains xs (get_or sigs j d)) same (Contains-get_or sigs j d h))).0

-- the same bits of the pins
pub same-pins : (f g : Sig → Bool) (pins : List Sig) → ((p : Sig) → Contains pins p → f p ≡ g p) → map f pins ≡ map g pins
same-pins f g [] same = refl
same-pins f g (p ∷ pins) same = ap (λ b. b ∷ map f pins) (same p (Contains-here p pins)) ∙ ap (λ bs. g p ∷ bs) (same-pins f g pins (λ q h. same q (Contains-there p pins q h)))

module _ (c : Circuit) (cycles : ℕ) (given : ℕ → ℕ → Bool) (v : Valuation) (sim : IsSimulated c cycles given v) (cycle : ℕ) (s : Sig) where
  row : (k : Kind) (pins : List Sig) → driver_at c.drivers s.0 ≡ Driven k pins → cycle + delay k < cycles → v (cell_at (cycle + delay k) s) ≡ value k (map (λ p. v (cell_at cycle p)) pins)
  row k pins driver early =
      let p : Place = record { cycle = cycle; target = s } in
      sim.execution p (instance_of k pins p) (stands-at (unrolled_over c cycles) p k pins driver early) ∙ ap (value k) (map-twice v (cell_at cycle) pins)

  by-driver : (d : Driver) → driver_at c.drivers s.0 ≡ d → is_gate d ≡ true → cycle < cycles → v (cell_at cycle s) ≡ value_by d (λ p. v (cell_at cycle p))
  by-driver Input at gate early = cc
  by-driver (Driven k pins) at gate early =
      elim (delay-cases k pins) [
        | inl (flip_flop, one) ↦ absurd (true≢false (sym gate ∙ ap not flip_flop))
        | inr (other, none) ↦
            let now : cycle + delay k ≡ cycle = omega (arith, none) in
            ap (λ n. v (cell_at n s)) (sym now) ∙ row k pins at (subst (λ n. n < cycles) (sym now) early)
      ]

  -- a gate's bit is what it gives
  pub gate-value : is_gate (driver_at c.drivers s.0) ≡ true → cycle < cycles → v (cell_at cycle s) ≡ value_by (driver_at c.drivers s.0) (λ p. v (cell_at cycle p))
  gate-value gate early = by-driver (driver_at c.drivers s.0) refl gate early

  -- a flip-flop's next bit is that of its pin
  pub flip_flop-value : is_flip_flop (driver_at c.drivers s.0) ≡ true → cycle + 1 < cycles → (pins : List Sig) → pins ≡ pins_of (driver_at c.drivers s.0) → 0 < length pins
      → v (cell_at (cycle + 1) s) ≡ v (cell_at cycle (get_or pins 0 (record { 0 = 0 })))
  flip_flop-value is early pins pins_are some = at (driver_at c.drivers s.0) refl is pins pins_are some
    where
      first : (ps : List Sig) → 0 < length ps → value Dff (map (λ p. v (cell_at cycle p)) ps) ≡ v (cell_at cycle (get_or ps 0 (record { 0 = 0 })))
      first [] h = absurd (omega (arith, h))
      first (p ∷ ps) h = refl

      at : (d : Driver) → driver_at c.drivers s.0 ≡ d → is_flip_flop d ≡ true → (ps : List Sig) → ps ≡ pins_of d → 0 < length ps
          → v (cell_at (cycle + 1) s) ≡ v (cell_at cycle (get_or ps 0 (record { 0 = 0 })))
      at Input e is ps ps_are some = cc
      at (Driven k pins) e is ps ps_are some =
          row Dff pins (e ∙ ap (λ x. Driven x pins) (flip_flop-dff k is)) early ∙ first pins (subst (λ qs. 0 < length qs) ps_are some) ∙ ap (λ qs. v (cell_at cycle (get_or qs 0 (record { 0 = 0 })))) (sym ps_are)

-- what a gate gives from right pins
pub value-same : (d : Driver) (f g : Sig → Bool) → ((p : Sig) → Contains (pins_of d) p → f p ≡ g p) → value_by d f ≡ value_by d g
value-same Input f g same = refl
value-same (Driven k pins) f g same = ap (value k) (same-pins f g pins same)

-- the next gate in order: its pins are right, and so is what it gives
pub gate-right : (c : Circuit) (is : IsCircuit c) (cycles : ℕ) (given : ℕ → ℕ → Bool) (v : Valuation) → IsSimulated c cycles given v → (cycle : ℕ) → cycle < cycles → (order : List Sig) → IsOrder c.drivers order
    → (i : ℕ) (d : Sig) → i < length order → (frame : List Bool)
    → ((s : Sig) → s.0 < length c.drivers → is_gate (driver_at c.drivers s.0) ≡ false → IsRight v cycle frame s) → ((k : ℕ) → k < i → IsRight v cycle frame (get_or order k d))
    → is_gate (driver_at c.drivers (get_or order i d).0) ≡ true → value_by (driver_at c.drivers (get_or order i d).0) (in_frame frame) ≡ v (cell_at cycle (get_or order i d))
gate-right c is cycles given v sim cycle early order ordered i d within frame others earlier gate =
    value-same (driver_at c.drivers (get_or order i d).0) (in_frame frame) (λ p. v (cell_at cycle p)) (λ p h. pin-right p h) ∙ sym (gate-value c cycles given v sim cycle (get_or order i d) gate early)
  where
    pin-right : (p : Sig) → Contains (pins_of (driver_at c.drivers (get_or order i d).0)) p → in_frame frame p ≡ v (cell_at cycle p)
    pin-right p h =
        elim (cases_Bool (is_gate (driver_at c.drivers p.0))) [
          | inl is_gate_too ↦
              let e : (k : ℕ) × (k < i) × (get_or order k d ≡ p) = earlier-gate c.drivers order ordered i d within p h is_gate_too in
              subst (IsRight v cycle frame) e.2 (earlier e.0 e.1)
          | inr other ↦
              others p (All-contains (λ (x : Sig). x.0 < length c.drivers) (pins_of (driver_at c.drivers (get_or order i d).0)) p (its-pins c is (get_or order i d).0) h) other
        ]

-- a flip-flop has a pin
pub flip_flop-pin : (c : Circuit) → IsCircuit c → (s : Sig) → is_flip_flop (driver_at c.drivers s.0) ≡ true → (pins : List Sig) → pins ≡ pins_of (driver_at c.drivers s.0) → 0 < length pins
flip_flop-pin c is s flip_flop pins same =
    let one : length (pins_of (driver_at c.drivers s.0)) ≡ 1 = its-count c is s.0 Dff (kind-is (driver_at c.drivers s.0) flip_flop) in
    omega (arith, ap length same, one)
  where
    kind-is : (d : Driver) → is_flip_flop d ≡ true → kind_of d ≡ Some Dff
    kind-is Input e = cc
    kind-is (Driven k pins) e = ap Some (flip_flop-dff k e)

-- a pin is one of the signals
pub pin-within : (c : Circuit) → IsCircuit c → (s : Sig) (pins : List Sig) → pins ≡ pins_of (driver_at c.drivers s.0) → (j : ℕ) (d : Sig) → j < length pins → (get_or pins j d).0 < length c.drivers
pin-within c is s pins same j d h =
    All-get_or (λ (x : Sig). x.0 < length c.drivers) pins j d h (subst (All (λ (x : Sig). x.0 < length c.drivers)) (sym same) (its-pins c is s.0))

-- the next bits of the first flip-flops
pub states-more : (v : Valuation) (cycle : ℕ) (state : List Bool) (sigs : List Sig) (j : ℕ) (d : Sig) (b : Bool) → j < length state → b ≡ v (cell_at cycle (get_or sigs j d))
    → ((k : ℕ) → k < j → get_or state k false ≡ v (cell_at cycle (get_or sigs k d))) → (k : ℕ) → k < j + 1 → get_or (set state j b) k false ≡ v (cell_at cycle (get_or sigs k d))
states-more v cycle state sigs j d b within right before k h =
    elim (cases_eq k j) [
      | inl same ↦ ap (λ n. get_or (set state j b) n false) same ∙ get_or-set_same state j b false within ∙ right ∙ ap (λ n. v (cell_at cycle (get_or sigs n d))) (sym same)
      | inr other ↦ get_or-set_other state j k b false other ∙ before k (omega (arith, h, other))
    ]

-- the first pin of a listed flip-flop is there, and one of the signals
pub first-pin : (c : Circuit) → IsCircuit c → (sigs : List Sig) → sigs ≡ flip_flops c.drivers → (j : ℕ) (d : Sig) → j < length sigs → (pins : List Sig) → pins ≡ pins_of (driver_at c.drivers (get_or sigs j d).0)
    → (0 < length pins) × ((get_or pins 0 (record { 0 = 0 })).0 < length c.drivers)
first-pin c is sigs same j d h pins pins_are =
    let some : 0 < length pins = flip_flop-pin c is (get_or sigs j d) (flip_flop-within c.drivers sigs same j d h).1 pins pins_are in
    (some, pin-within c is (get_or sigs j d) pins pins_are 0 (record { 0 = 0 }) some)

-- a signal that no gate drives is an input or a flip-flop's
pub not-gate : (c : Circuit) → IsCircuit c → (s : Sig) → s.0 < length c.drivers → is_gate (driver_at c.drivers s.0) ≡ false → Contains c.inputs s ⊎ (is_flip_flop (driver_at c.drivers s.0) ≡ true)
not-gate c is s within other = at (driver_at c.drivers s.0) refl other
  where
    double : (b : Bool) → not b ≡ false → b ≡ true
    double true none = refl
    double false none = absurd (true≢false none)

    at : (d : Driver) → driver_at c.drivers s.0 ≡ d → is_gate d ≡ false → Contains c.inputs s ⊎ (is_flip_flop (driver_at c.drivers s.0) ≡ true)
    at Input e other = inl ((is.inputs s).1 (within, e))
    at (Driven k pins) e other = inr (ap is_flip_flop e ∙ double (is_flip_flop (Driven k pins)) other)

-- in cycle 0 each flip-flop is 0
pub state-start : (c : Circuit) (cycles : ℕ) (given : ℕ → ℕ → Bool) (v : Valuation) → IsSimulated c cycles given v → (state : List Bool) → ((i : ℕ) → get_or state i false ≡ false) → (j : ℕ) → j < length (flip_flops c.drivers)
    → get_or state j false ≡ v (cell_at 0 (get_or (flip_flops c.drivers) j (record { 0 = 0 })))
state-start c cycles given v sim state zero j h =
    zero j ∙ sym (sim.start (get_or (flip_flops c.drivers) j (record { 0 = 0 })) (flip_flop-within c.drivers (flip_flops c.drivers) refl j (record { 0 = 0 }) h).1)

-- one row more of the kept bits
pub kept-more : (v : Valuation) (cycle : ℕ) (before after : BitTable) (frame row : List Bool) (kept : List Sig) → length row ≡ length kept → before.width ≡ length kept
    → ((j : ℕ) → j < length row → bit_in after cycle j ≡ get_or row j false) → ((r j : ℕ) → (r ≡ cycle → ⊥) → j < before.width → bit_in after r j ≡ bit_in before r j)
    → ((j : ℕ) → j < length kept → get_or row j false ≡ in_frame frame (get_or kept j (record { 0 = 0 }))) → ((j : ℕ) → j < length kept → IsRight v cycle frame (get_or kept j (record { 0 = 0 })))
    → ((c j : ℕ) → c < cycle → j < length kept → bit_in before c j ≡ v (cell_at c (get_or kept j (record { 0 = 0 }))))
    → (c j : ℕ) → c < cycle + 1 → j < length kept → bit_in after c j ≡ v (cell_at c (get_or kept j (record { 0 = 0 })))
kept-more v cycle before after frame row kept long wide here elsewhere copied right earlier c j h within =
    elim (cases_eq c cycle) [
      | inl same ↦
          ap (λ r. bit_in after r j) same ∙ here j (subst (λ n. j < n) (sym long) within) ∙ copied j within ∙ right j within ∙ ap (λ r. v (cell_at r (get_or kept j (record { 0 = 0 })))) (sym same)
      | inr other ↦ elsewhere c j other (subst (λ n. j < n) (sym wide) within) ∙ earlier c j (omega (arith, h, other)) within
    ]
