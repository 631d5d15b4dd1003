-- A gate in one cycle of a chunk: what a bit of the words of its blocks says.
use Rattle.std.proofs.Common.{ℕ, ◌≡◌, ◌≢◌, ◌+◌, ◌*◌, ◌/◌, ◌%◌, ◌<◌, ◌≤◌, ◌&&◌, ◌||◌, Bool, true, false, cond, eqb, ltb, List, [], ◌∷◌, Some, length, map, get_or, arith, inl, inr, refl, sym, ap, ◌∙◌, subst}
use Rattle.std.specs.List.{AllPairs, Contains}
use Rattle.std.proofs.lemmas.Bool.{cases_eq, cases_lt, and_parts, not-true, or_cases, eqb-true}
use Rattle.std.proofs.lemmas.List.{get_or-map, get_or_default, length-map}
use Rattle.std.proofs.lemmas.List.Elements.{Contains-get_or}
use Rattle.std.proofs.lemmas.List.Kept.{AllPairs-filter}
use Rattle.sr_model.specs.declared.gates.Kind.{Kind}
use Rattle.sr_model.specs.declared.cells.Sig.{Sig}
use Rattle.sr_model.specs.declared.cells.Cell.{Cell}
use Rattle.sr_model.specs.declared.cells.Place.{Place}
use Rattle.sr_model.specs.Gate.{is_flip_flop_kind}
use Rattle.sr_model.specs.Netlist.{Driver, Input, Driven, cell_at, delay}
use Rattle.sr_model.specs.Closure.{lit}
use Rattle.sr_model.specs.XorLike.{is_odd}
use Rattle.sr_model.proofs.lemmas.Instances.{instance_of}
use Rattle.sr_model.proofs.lemmas.Laws.{some_pins}
use Rattle.sr_model.proofs.lemmas.Members.{Contains-map, map-member, list_any-found}
use Rattle.sr_model.proofs.lemmas.ParityRules.{cells_once, odd_cell-is}
use Rattle.netlist.specs.Wiring.{driver_at, has_signal, is_driven, is_gate, is_flip_flop, is_odd_pin, kind_of, pins_of, pin_parities, reads, signals_below, signals_of}
use Rattle.netlist.proofs.lemmas.Signals.{own_pin}
use Rattle.unroll.specs.declared.problem.Block.{Block}
use Rattle.unroll.specs.declared.words.PinWord.{PinWord}
use Rattle.unroll.specs.Bits.{is_set, is_cycle, word_for}
use Rattle.unroll.specs.Problem.{Unrolling, IsProblem, signals_in, chunks_in, block_at, sig_at}
use Rattle.unroll.specs.Tasks.{blocks_for, blocks_from}
use Rattle.unroll.proofs.lemmas.Laws.{block-sig}
use Rattle.unroll.proofs.lemmas.Tasks.{pin-count, blocks-ascend, has-itself, listed-signal, signal-block, signal-listed, pin-signal, pins-within}
use Rattle.unroll.proofs.lemmas.FlatMaps.{signals-ascend}
use Rattle.gate_rules.specs.Lanes.{words_at_place, IsLane}
use Rattle.gate_rules.specs.Forced.{words_of, view_has}
use Rattle.gate_rules.proofs.BlockPlaces.{words_of-place, flat_map-single}

-- a gate is no flip-flop
pub gate-settles : (d : Driver) → is_gate d ≡ true → is_flip_flop d ≡ false
gate-settles Input e = refl
gate-settles (Driven kind pins) e = not-true (is_flip_flop_kind kind) e

pub gate-delay : (kind : Kind) (pins : List Sig) → is_gate (Driven kind pins) ≡ true → delay kind ≡ 0
gate-delay kind pins gate = ap (λ b. cond {A = ℕ} b 1 0) (gate-settles (Driven kind pins) gate)

pub kind-driver : (d : Driver) (kind : Kind) → kind_of d ≡ Some kind → d ≡ Driven kind (pins_of d)
kind-driver Input kind e = absurd cc
kind-driver (Driven k pins) kind e = let same : k ≡ kind = cc in ap (λ x. Driven x pins) same

-- a gate has one block for each signal
and_false : (b : Bool) → (b && false) ≡ false
and_false true = refl
and_false false = refl

pub gate-blocks : (u : Unrolling) (target : Sig) (chunk : ℕ) → is_gate (driver_at u.circuit.drivers target.0) ≡ true
    → blocks_from u target chunk ≡ map (λ s. block_at u s chunk) (signals_of u.circuit.drivers target)
gate-blocks u target chunk gate = flat_map-single (blocks_for u target chunk) (λ s. block_at u s chunk) (signals_of u.circuit.drivers target) one where
  one : (s : Sig) → blocks_for u target chunk s ≡ block_at u s chunk ∷ []
  one s =
      ap (λ b. block_at u s chunk ∷ cond (eqb s.0 target.0 && (b && ltb (chunk + 1) (chunks_in u))) (block_at u s (chunk + 1) ∷ []) [])
      (gate-settles (driver_at u.circuit.drivers target.0) gate)
      ∙ ap (λ b. block_at u s chunk ∷ cond b (block_at u s (chunk + 1) ∷ []) []) (and_false (eqb s.0 target.0))

-- and one pin parity
pub count-odd : (u : Unrolling) (target : Sig) (chunk : ℕ) → is_gate (driver_at u.circuit.drivers target.0) ≡ true → (blocks : List Block) → blocks ≡ blocks_from u target chunk
    → length (pin_parities u.circuit.drivers target) ≡ length blocks
count-odd u target chunk gate blocks are =
    length-map (signals_of u.circuit.drivers target) (is_odd_pin (driver_at u.circuit.drivers target.0))
    ∙ sym (ap length (are ∙ gate-blocks u target chunk gate) ∙ length-map (signals_of u.circuit.drivers target) (λ s. block_at u s chunk))

gate-driven : (d : Driver) → is_gate d ≡ true → is_driven d ≡ true
gate-driven Input e = e
gate-driven (Driven kind pins) e = refl

-- the target's block is one of them
pub own-block : (u : Unrolling) (target : Sig) (chunk : ℕ) → chunk < chunks_in u → target.0 < signals_in u → is_gate (driver_at u.circuit.drivers target.0) ≡ true
    → (blocks : List Block) (b : Block) → blocks ≡ blocks_from u target chunk → b ≡ block_at u target chunk → Contains blocks b
own-block u target chunk early within gate blocks b are is =
    let own : Contains (blocks_from u target chunk) (block_at u target chunk) =
    signal-block u target chunk early target within (has-itself (driver_at u.circuit.drivers target.0) target (gate-driven (driver_at u.circuit.drivers target.0) gate)) in
    subst (Contains blocks) (sym is) (subst (λ (bs : List Block). Contains bs (block_at u target chunk)) (sym are) own)

-- a signal of a driver that is not its target is a pin
pub pin-among : (driver : Driver) (kind : Kind) (pins : List Sig) (t s : Sig) → driver ≡ Driven kind pins → has_signal driver t s ≡ true → s ≢ t → Contains pins s
pin-among driver kind pins t s e has apart =
    elim (or_cases (eqb s.0 t.0) (reads driver s) (and_parts (is_driven driver) (eqb s.0 t.0 || reads driver s) has).1) [
      | inl same ↦ absurd (apart (ap (λ n. record { 0 = n }) (eqb-true s.0 t.0 same)))
      | inr read ↦
          let found : (pin : Sig) × Contains pins pin × (eqb pin.0 s.0 ≡ true) = list_any-found (λ (pin : Sig). eqb pin.0 s.0) pins (sym (ap (λ d. reads d s) e) ∙ read) in
          subst (Contains pins) (ap (λ n. record { 0 = n }) (eqb-true found.0.0 s.0 found.2)) found.1
    ]

-- in an ascending list each signal stands once
pub same-place : (xs : List Sig) → AllPairs (λ a b. a.0 < b.0) xs → (j k : ℕ) (d : Sig) → j < length xs → k < length xs → get_or xs j d ≡ get_or xs k d → j ≡ k
same-place xs up j k d in_j in_k e =
    let number : (get_or xs j d).0 ≡ (get_or xs k d).0 = ap (λ (s : Sig). s.0) e in
    elim (cases_eq j k) [
      | inl same ↦ same
      | inr other ↦ elim (cases_lt j k) [
        | inl before ↦ let less : (get_or xs j d).0 < (get_or xs k d).0 = up j k d before in_k in absurd (omega (arith, number, less))
        | inr after ↦ let less : (get_or xs k d).0 < (get_or xs j d).0 = up k j d (omega (arith, after, other)) in_j in absurd (omega (arith, number, less))
      ]
    ]

chunk-is : (chunk i : ℕ) → i < 64 → (64 * chunk + i) / 64 ≡ chunk
chunk-is chunk i lane = omega (arith, lane)

bit-is : (chunk i : ℕ) → i < 64 → (64 * chunk + i) % 64 ≡ i
bit-is chunk i lane = omega (arith, lane)

add-none : (n m : ℕ) → m ≡ 0 → n + m ≡ n
add-none n m e = omega (arith, e)

-- the place of bit i of a chunk, and the cells of the gate's signals there
abbrev pub lane_place : Sig → ℕ → ℕ → Place
lane_place target chunk i = record { cycle = 64 * chunk + i; target = target }

abbrev pub lane_cells : Unrolling → Sig → ℕ → ℕ → List Cell
lane_cells u target chunk i = map (cell_at (64 * chunk + i)) (signals_of u.circuit.drivers target)

module _ (u : Unrolling) (is : IsProblem u) (target : Sig) (chunk : ℕ) (early : chunk < chunks_in u) (kind : Kind) (pins : List Sig)
    (driver : driver_at u.circuit.drivers target.0 ≡ Driven kind pins) (gate : is_gate (driver_at u.circuit.drivers target.0) ≡ true)
    (blocks : List Block) (are : blocks ≡ blocks_from u target chunk) (k : ℕ) (within : k < length blocks)
    (at : get_or blocks k (block_at u target chunk) ≡ block_at u target chunk) where
  abbrev signals : List Sig
  signals = signals_of u.circuit.drivers target

  blocks-are : blocks ≡ map (λ s. block_at u s chunk) signals
  blocks-are = are ∙ gate-blocks u target chunk gate

  pub count : length blocks ≡ length signals
  count = ap length blocks-are ∙ length-map signals (λ s. block_at u s chunk)

  pub block-here : (j : ℕ) (d : Block) → j < length signals → get_or blocks j d ≡ block_at u (get_or signals j target) chunk
  block-here j d h = ap (λ (bs : List Block). get_or bs j d) blocks-are ∙ get_or-map (λ s. block_at u s chunk) signals j target d h

  ascend : AllPairs (λ (a b : Sig). a.0 < b.0) signals
  ascend = AllPairs-filter (λ (a b : Sig). a.0 < b.0) (has_signal (driver_at u.circuit.drivers target.0) target) (signals_below (signals_in u)) (signals-ascend (signals_in u))

  target-within : k < length signals
  target-within = subst (λ n. k < n) count within

  target-there : get_or signals k target ≡ target
  target-there =
      let same : block_at u (get_or signals k target) chunk ≡ block_at u target chunk = sym (block-here k (block_at u target chunk) target-within) ∙ at in
      sym (block-sig u (get_or signals k target) chunk early) ∙ ap (sig_at u) same ∙ block-sig u target chunk early

  unread : Contains pins target → ⊥
  unread own = own_pin u.circuit.drivers target is.is_circuit.no_loop gate (subst (λ (d : Driver). Contains (pins_of d) target) (sym driver) own)

  -- a signal at another place is a pin
  pub pin-there : (j : ℕ) → j < length signals → j ≢ k → Contains pins (get_or signals j target)
  pin-there j h other =
      pin-among (driver_at u.circuit.drivers target.0) kind pins target (get_or signals j target) driver
      (listed-signal u.circuit.drivers target (get_or signals j target) (Contains-get_or signals j target h)).1
      (λ e. other (same-place signals ascend j k target h target-within (e ∙ sym target-there)))

  -- and each pin stands at another place
  pub pin-place : (pin : Sig) → Contains pins pin → (j : ℕ) × (j < length signals) × (j ≢ k) × (get_or signals j pin ≡ pin)
  pin-place pin h =
      let found : Contains signals pin =
      signal-listed u.circuit.drivers target pin (pins-within u is target.0 kind pins driver pin h) (pin-signal (driver_at u.circuit.drivers target.0) kind pins target pin driver h) in
      (found.0, found.1, apart found.0 found.1 found.2, found.2)
    where
      apart : (j : ℕ) → j < length signals → get_or signals j pin ≡ pin → j ≢ k
      apart j below there same =
          let is_target : pin ≡ target = sym there ∙ get_or_default signals j pin target below ∙ ap (λ n. get_or signals n target) same ∙ target-there in
          unread (subst (Contains pins) is_target h)

  -- there are two signals at least
  pub two-signals : 2 ≤ length signals
  two-signals =
      let first : Sig = get_or pins 0 target in
      let some : 0 < length pins = (some_pins kind (length pins) (pin-count u is kind pins (lane_place target chunk 0) driver)).0 in
      let other : (j : ℕ) × (j < length signals) × (j ≢ k) × (get_or signals j first ≡ first) = pin-place first (Contains-get_or pins 0 target some) in
      let apart : other.0 ≢ k = other.2 in
      omega (arith, target-within, other.1, apart)

  pub count-cells : (i : ℕ) → length (lane_cells u target chunk i) ≡ length blocks
  count-cells i = length-map signals (cell_at (64 * chunk + i)) ∙ sym count

  pub two-cells : (i : ℕ) → 2 ≤ length (lane_cells u target chunk i)
  two-cells i = subst (λ n. 2 ≤ n) (sym (length-map signals (cell_at (64 * chunk + i)))) two-signals

  module _ (i : ℕ) where
    in-signals : (j : ℕ) → j < length (lane_cells u target chunk i) → j < length signals
    in-signals j h = subst (λ n. j < n) (length-map signals (cell_at (64 * chunk + i))) h

    pub cell-there : (j : ℕ) (d : Cell) → j < length signals → get_or (lane_cells u target chunk i) j d ≡ cell_at (64 * chunk + i) (get_or signals j target)
    cell-there j d h = get_or-map (cell_at (64 * chunk + i)) signals j target d h

    same-cycle : 64 * chunk + i + delay kind ≡ 64 * chunk + i
    same-cycle = add-none (64 * chunk + i) (delay kind) (gate-delay kind pins (sym (ap is_gate driver) ∙ gate))

    module _ (lane : i < 64) (valid : is_cycle u.cycles chunk i ≡ true) (view : List PinWord) (size : length view ≡ length blocks) where
      -- the words at a place say what is known of the cell there
      says : (j : ℕ) (d : Cell) (bit : Bool) → j < length signals
          → is_set (word_for bit (words_at_place view j)) i ≡ view_has u blocks view (lit (get_or (lane_cells u target chunk i) j d) bit)
      says j d bit h =
          let s : Sig = get_or signals j target in
          let cycle : ℕ = 64 * chunk + i in
          let up : AllPairs (λ (a b : Block). a.0 < b.0) blocks = subst (AllPairs (λ (a b : Block). a.0 < b.0)) (sym are) (blocks-ascend u target chunk early) in
          let words : words_of blocks view (block_at u (get_or signals j target) chunk) ≡ words_at_place view j =
          ap (words_of blocks view) (sym (block-here j (block_at u target chunk) h)) ∙ words_of-place blocks view up size j (block_at u target chunk) (subst (λ n. j < n) (sym count) h) in
          sym (ap (λ (c : Cell). view_has u blocks view (lit c bit)) (cell-there j d h)
          ∙ ap (λ b. b && is_set (word_for bit (words_of blocks view (block_at u (get_or signals j target) ((64 * chunk + i) / 64)))) ((64 * chunk + i) % 64)) valid
          ∙ ap (λ n. is_set (word_for bit (words_of blocks view (block_at u (get_or signals j target) n))) ((64 * chunk + i) % 64)) (chunk-is chunk i lane)
          ∙ ap (λ n. is_set (word_for bit (words_of blocks view (block_at u (get_or signals j target) chunk))) n) (bit-is chunk i lane)
          ∙ ap (λ (w : PinWord). is_set (word_for bit w) i) words)

      pub gate-lane : IsLane (instance_of kind pins (lane_place target chunk i)) (lane_cells u target chunk i) k (view_has u blocks view) i view
      gate-lane = record {
        size = size ∙ sym (count-cells i);
        target_within = subst (λ n. k < n) (sym (count-cells i)) within;
        target_is = cell-there k (cell_at (64 * chunk + i + delay kind) target) target-within ∙ ap (cell_at (64 * chunk + i)) target-there ∙ ap (λ n. cell_at n target) (sym same-cycle);
        pins = λ j d h other.
            let below : j < length signals = in-signals j h in
            subst (Contains (map (cell_at (64 * chunk + i)) pins)) (sym (cell-there j d below)) (Contains-map (cell_at (64 * chunk + i)) pins (get_or signals j target) (pin-there j below other));
        each_pin = λ c h.
            let found : (pin : Sig) × Contains pins pin × (cell_at (64 * chunk + i) pin ≡ c) = map-member (cell_at (64 * chunk + i)) pins c h in
            let place : (j : ℕ) × (j < length signals) × (j ≢ k) × (get_or signals j found.0 ≡ found.0) = pin-place found.0 found.1 in (
              place.0,
              subst (λ n. place.0 < n) (sym (length-map signals (cell_at (64 * chunk + i)))) place.1,
              place.2,
              get_or-map (cell_at (64 * chunk + i)) signals place.0 found.0 c place.1 ∙ ap (cell_at (64 * chunk + i)) place.3 ∙ found.2,
            );
        distinct = cells_once (64 * chunk + i) signals (λ a b d before below e.
            let less : (get_or signals a d).0 < (get_or signals b d).0 = ascend a b d before below in
            let number : (get_or signals a d).0 ≡ (get_or signals b d).0 = ap (λ (s : Sig). s.0) e in
            omega (arith, less, number));
        says = λ j d bit h. says j d bit (in-signals j h);
      }

    -- a pin's cell stands as often among the pins' cells as the netlist says of its signal
    pub odd-there : (j : ℕ) (d : Cell) → j < length (lane_cells u target chunk i)
        → get_or (pin_parities u.circuit.drivers target) j false ≡ is_odd (get_or (lane_cells u target chunk i) j d) (map (cell_at (64 * chunk + i)) pins)
    odd-there j d h =
        let below : j < length signals = in-signals j h in
        get_or-map (is_odd_pin (driver_at u.circuit.drivers target.0)) signals j target false below
        ∙ ap (λ (x : Driver). is_odd_pin x (get_or signals j target)) driver
        ∙ sym (ap (λ (c : Cell). is_odd c (map (cell_at (64 * chunk + i)) pins)) (cell-there j d below) ∙ odd_cell-is (64 * chunk + i) (get_or signals j target) pins)
