-- What a gate's task forces in a cycle of its chunk is what the gate's instance there forces.
use Rattle.std.proofs.Common.{ℕ, ◌≡◌, ◌≢◌, ◌+◌, ◌*◌, ◌%◌, ◌<◌, ◌≤◌, ◌↔◌, ◌&&◌, Bool, true, false, List, length, map, get_or, arith, inl, inr, refl, sym, ap, ◌∙◌, subst}
use Rattle.std.specs.Prelude.{IsTrue}
use Rattle.std.specs.List.{Contains}
use Rattle.std.proofs.lemmas.Bool.{cases_Bool, and_parts, and_from, ltb-true, lt-ltb, true≢false}
use Rattle.std.proofs.lemmas.List.{length-map}
use Rattle.sr_model.specs.declared.gates.Kind.{Kind}
use Rattle.sr_model.specs.declared.gates.Family.{Family}
use Rattle.sr_model.specs.declared.cells.Sig.{Sig}
use Rattle.sr_model.specs.declared.cells.Cell.{Cell}
use Rattle.sr_model.specs.declared.cells.Lit.{Lit}
use Rattle.sr_model.specs.declared.cells.Place.{Place}
use Rattle.sr_model.specs.Gate.{family_of, IsPinCount}
use Rattle.sr_model.specs.KindLaws.{IsOfFamily}
use Rattle.sr_model.specs.AndLike.{IsAndLike}
use Rattle.sr_model.specs.XorLike.{IsXorLike, is_odd}
use Rattle.sr_model.specs.Netlist.{Driven, Instance, cell_at, cells_of, delay}
use Rattle.sr_model.specs.Closure.{Forces, passing, lit}
use Rattle.sr_model.proofs.lemmas.Instances.{Stands, stands, stands-at, instance_of}
use Rattle.sr_model.proofs.lemmas.Laws.{has_its_family}
use Rattle.sr_model.proofs.lemmas.Members.{Contains-cases}
use Rattle.sr_model.proofs.lemmas.ParityRules.{in_cycle}
use Rattle.netlist.specs.Wiring.{driver_at, is_gate, pin_parities, signals_of}
use Rattle.unroll.specs.declared.problem.Block.{Block}
use Rattle.unroll.specs.declared.words.PinWord.{PinWord}
use Rattle.unroll.specs.Bits.{is_set, is_cycle, word_for}
use Rattle.unroll.specs.Problem.{Unrolling, unrolled, IsProblem, chunks_in, block_at, sig_at, cell_of}
use Rattle.unroll.specs.Tasks.{blocks_from, task_at}
use Rattle.unroll.proofs.lemmas.Laws.{block-sig, block-chunk}
use Rattle.unroll.proofs.lemmas.Tasks.{lane-bit, lane-chunk, pin-count}
use Rattle.gate_rules.specs.Lanes.{words_at_place, IsLane}
use Rattle.gate_rules.specs.Forced.{ForcedInCycles, IsForcedExactlyIn, bit_at_place, lit_at_place, view_has}
use Rattle.gate_rules.proofs.GateLanes.{gate-delay, lane_place, lane_cells, count, block-here, cell-there, count-cells, two-cells, gate-lane, odd-there}

-- the cells of a gate's instance are in its cycle
gate-cycle : (kind : Kind) (pins : List Sig) (p : Place) (c : Cell) → delay kind ≡ 0 → Contains (cells_of (instance_of kind pins p)) c → c.cycle ≡ p.cycle
gate-cycle kind pins p c none h =
    elim (Contains-cases (cell_at (p.cycle + delay kind) p.target) (map (cell_at p.cycle) pins) c h) [
      | inl e ↦ let at : p.cycle + delay kind ≡ c.cycle = ap (λ (x : Cell). x.cycle) e in omega (arith, at, none)
      | inr later ↦ in_cycle p.cycle c pins later
    ]

place-is : (p : Place) (n : ℕ) (s : Sig) → p.cycle ≡ n → p.target ≡ s → p ≡ record { cycle = n; target = s }
place-is p n s e f = ap (λ m. record { cycle = m; target = p.target }) e ∙ ap (λ t. record { cycle = n; target = t }) f

module _ (u : Unrolling) (target : Sig) (chunk : ℕ) (early : chunk < chunks_in u) (kind : Kind) (pins : List Sig)
    (driver : driver_at u.circuit.drivers target.0 ≡ Driven kind pins) (none : delay kind ≡ 0) (mask : ℕ) (known : Lit → Bool) (i : ℕ) where
  -- what is forced in the task is forced at the gate's instance in the cycle, if there is one, and the mask has it
  pub task-instance : (s : Sig) (bit : Bool) → i < 64 → ForcedInCycles u (task_at u target chunk) mask known (lit (cell_at (64 * chunk + i) s) bit)
      → (64 * chunk + i < u.cycles) × (is_set mask i ≡ true) × Forces (instance_of kind pins (lane_place target chunk i)) (passing known) (lit (cell_at (64 * chunk + i) s) bit)
  task-instance s bit lane f =
      let p : Place = f.place in
      let st : Stands u.cycles (driver_at u.circuit.drivers f.place.target.0) f.place f.forces.instance = stands (unrolled u) f.place f.forces.instance f.forces.stands in
      let at_target : f.place.target ≡ target = sym f.belongs.0 ∙ block-sig u target chunk early in
      let driven : Driven st.kind st.pins ≡ Driven kind pins = sym st.driver ∙ ap (λ (t : Sig). driver_at u.circuit.drivers t.0) at_target ∙ driver in
      let same_kind : st.kind ≡ kind = cc in
      let same_pins : st.pins ≡ pins = cc in
      let same : f.forces.instance ≡ instance_of kind pins f.place = st.is ∙ ap (λ k. instance_of k st.pins f.place) same_kind ∙ ap (λ ps. instance_of kind ps f.place) same_pins in
      let forced : Forces (instance_of kind pins f.place) (passing known) (lit (cell_at (64 * chunk + i) s) bit) =
      subst (λ j. Forces j (passing known) (lit (cell_at (64 * chunk + i) s) bit)) same f.forces.forces in
      let in_cycle : 64 * chunk + i ≡ f.place.cycle = gate-cycle kind pins f.place (cell_at (64 * chunk + i) s) none forced.on_cells in
      let in_time : f.place.cycle + delay st.kind < u.cycles = st.in_time in (
        omega (arith, in_cycle, in_time),
        ap (is_set mask) (sym (lane-bit chunk i lane) ∙ ap (λ n. n % 64) in_cycle) ∙ f.in_mask,
        subst (λ (q : Place). Forces (instance_of kind pins q) (passing known) (lit (cell_at (64 * chunk + i) s) bit)) (place-is f.place (64 * chunk + i) target (sym in_cycle) at_target) forced,
      )

  -- and back
  pub instance-task : (l : Lit) → i < 64 → 64 * chunk + i < u.cycles → is_set mask i ≡ true → Forces (instance_of kind pins (lane_place target chunk i)) (passing known) l → ForcedInCycles u (task_at u target chunk) mask known l
  instance-task l lane in_time masked f = record {
    place = lane_place target chunk i;
    belongs = (block-sig u target chunk early, block-chunk u target chunk early ∙ sym (lane-chunk chunk i lane));
    in_mask = ap (is_set mask) (lane-bit chunk i lane) ∙ masked;
    forces = record {
      instance = instance_of kind pins (lane_place target chunk i);
      stands = stands-at (unrolled u) (lane_place target chunk i) kind pins driver (omega (arith, in_time, none));
      forces = f;
    };
  }

-- each instance of a kind is of the family
pub family-rule : (kind : Kind) (family : Family) → family ≡ family_of kind → (i : Instance) → i.kind ≡ kind → IsPinCount kind (length i.pins) → IsOfFamily family i
family-rule kind family is i at count =
    subst (λ f. IsOfFamily f i) (ap family_of at ∙ sym is) (has_its_family i (subst (λ k. IsPinCount k (length i.pins)) (sym at) count))

-- the place of a block in a list of the same items
pub place-within : (listed blocks : List Block) (k : ℕ) → listed ≡ blocks → k < length listed → k < length blocks
place-within listed blocks k same within = subst (λ (bs : List Block). k < length bs) same within

pub place-at : (listed blocks : List Block) (k : ℕ) (b own : Block) → listed ≡ blocks → b ≡ own → get_or listed k b ≡ b → get_or blocks k own ≡ own
place-at listed blocks k b own same is at = subst (λ (bs : List Block). get_or bs k own ≡ own) same (subst (λ (x : Block). get_or listed k x ≡ x) is at)

module _ (u : Unrolling) (is : IsProblem u) (target : Sig) (chunk : ℕ) (early : chunk < chunks_in u) (kind : Kind) (pins : List Sig)
    (driver : driver_at u.circuit.drivers target.0 ≡ Driven kind pins) (gate : is_gate (driver_at u.circuit.drivers target.0) ≡ true)
    (blocks : List Block) (are : blocks ≡ blocks_from u target chunk) (k : ℕ) (within : k < length blocks)
    (at : get_or blocks k (block_at u target chunk) ≡ block_at u target chunk) where
  none : delay kind ≡ 0
  none = gate-delay kind pins (sym (ap is_gate driver) ∙ gate)

  -- the literal of a bit
  lit-is : (j i : ℕ) (bit : Bool) → j < length blocks → lit_at_place u blocks j bit i ≡ lit (cell_at (64 * chunk + i) (get_or (signals_of u.circuit.drivers target) j target)) bit
  lit-is j i bit h =
      let below : j < length (signals_of u.circuit.drivers target) = subst (λ n. j < n) (count u is target chunk early kind pins driver gate blocks are k within at) h in
      let s : Sig = get_or (signals_of u.circuit.drivers target) j target in
      ap (λ (b : Block). lit (cell_of u b i) bit) (block-here u is target chunk early kind pins driver gate blocks are k within at j (record { 0 = 0 }) below)
      ∙ ap (λ n. lit (record { cycle = 64 * n + i; sig = sig_at u (block_at u (get_or (signals_of u.circuit.drivers target) j target) chunk) }) bit)
      (block-chunk u (get_or (signals_of u.circuit.drivers target) j target) chunk early)
      ∙ ap (λ t. lit (cell_at (64 * chunk + i) t) bit) (block-sig u (get_or (signals_of u.circuit.drivers target) j target) chunk early)

  lit-there : (j i : ℕ) (bit : Bool) → j < length blocks → (d : Cell) → lit (get_or (lane_cells u target chunk i) j d) bit ≡ lit_at_place u blocks j bit i
  lit-there j i bit h d =
      let below : j < length (signals_of u.circuit.drivers target) = subst (λ n. j < n) (count u is target chunk early kind pins driver gate blocks are k within at) h in
      ap (λ c. lit c bit) (cell-there u is target chunk early kind pins driver gate blocks are k within at i j d below) ∙ sym (lit-is j i bit h)

  module _ (mask : ℕ) (view words : List PinWord) (size : length view ≡ length blocks) where
    abbrev known : Lit → Bool
    known = view_has u blocks view

    -- the cycle is there, and in the mask
    abbrev is_asked : ℕ → Bool
    is_asked i = is_cycle u.cycles chunk i && is_set mask i

    -- where the words have what the instance of each cycle of the mask forces, they have what the task does
    exact : ((j i : ℕ) (bit : Bool) → j < length blocks → i < 64 → is_asked i ≡ false → bit_at_place words j bit i ≡ false)
        → ((j i : ℕ) (bit : Bool) → j < length blocks → i < 64 → is_asked i ≡ true
        → IsTrue (bit_at_place words j bit i) ↔ Forces (instance_of kind pins (lane_place target chunk i)) (passing known) (lit_at_place u blocks j bit i))
        → IsForcedExactlyIn u (task_at u target chunk) mask blocks view words
    exact invalid forced j i bit h lane =
        let s : Sig = get_or (signals_of u.circuit.drivers target) j target in
        let in_lane : ForcedInCycles u (task_at u target chunk) mask known (lit_at_place u blocks j bit i)
        → (64 * chunk + i < u.cycles) × (is_set mask i ≡ true) × Forces (instance_of kind pins (lane_place target chunk i)) (passing known) (lit (cell_at (64 * chunk + i) (get_or (signals_of u.circuit.drivers target) j target)) bit) =
        λ f. task-instance u target chunk early kind pins driver none mask known i s bit lane (subst (ForcedInCycles u (task_at u target chunk) mask known) (lit-is j i bit h) f) in
        elim (cases_Bool (is_asked i)) [
          | inl there ↦ (
            λ set.
                let both : (is_cycle u.cycles chunk i ≡ true) × (is_set mask i ≡ true) = and_parts (is_cycle u.cycles chunk i) (is_set mask i) there in
                instance-task u target chunk early kind pins driver none mask known i (lit_at_place u blocks j bit i) lane (ltb-true (64 * chunk + i) u.cycles both.0) both.1
                ((forced j i bit h lane there).0 set),
            λ f. (forced j i bit h lane there).1
                (subst (Forces (instance_of kind pins (lane_place target chunk i)) (passing known)) (sym (lit-is j i bit h)) (in_lane f).2),
          )
          | inr beyond ↦ (
            λ set. absurd (true≢false (sym set ∙ invalid j i bit h lane beyond)),
            λ f. absurd (true≢false (sym (and_from (is_cycle u.cycles chunk i) (is_set mask i) (lt-ltb (64 * chunk + i) u.cycles (in_lane f).0) (in_lane f).1) ∙ beyond)),
          )
        ]

    module _ (valid : ℕ) (valid_is : (i : ℕ) → i < 64 → is_set valid i ≡ (is_cycle u.cycles chunk i && is_set mask i))
        (invalid : (lane j : ℕ) (bit : Bool) → lane < 64 → is_set valid lane ≡ false → is_set (word_for bit (words_at_place words j)) lane ≡ false) where
      pins-count : (i : ℕ) → IsPinCount kind (length (map (cell_at (64 * chunk + i)) pins))
      pins-count i = subst (IsPinCount kind) (sym (length-map pins (cell_at (64 * chunk + i)))) (pin-count u is kind pins (lane_place target chunk i) driver)

      in-cells : (j i : ℕ) → j < length blocks → j < length (lane_cells u target chunk i)
      in-cells j i h = subst (λ n. j < n) (sym (count-cells u is target chunk early kind pins driver gate blocks are k within at i)) h

      at-lane : (i : ℕ) → i < 64 → is_cycle u.cycles chunk i ≡ true
          → IsLane (instance_of kind pins (lane_place target chunk i)) (lane_cells u target chunk i) k (view_has u blocks view) i view
      at-lane i lane there = gate-lane u is target chunk early kind pins driver gate blocks are k within at i lane there view size

      pub and_like-task : (p t : Bool) → ((i : Instance) → i.kind ≡ kind → IsPinCount kind (length i.pins) → IsAndLike p t i)
          → ((lane : ℕ) (i : Instance) (cells : List Cell) (known : Lit → Bool) → lane < 64 → is_set valid lane ≡ true → IsAndLike p t i → 2 ≤ length cells
          → IsLane i cells k known lane view → (j : ℕ) (d : Cell) (bit : Bool) → j < length cells
          → IsTrue (is_set (word_for bit (words_at_place words j)) lane) ↔ Forces i (passing known) (lit (get_or cells j d) bit))
          → IsForcedExactlyIn u (task_at u target chunk) mask blocks view words
      and_like-task p t rule forced =
          exact (λ j i bit h lane beyond. invalid i j bit lane (valid_is i lane ∙ beyond))
          (λ j i bit h lane there.
          let d : Cell = cell_at (64 * chunk + i) target in
          subst (λ l. IsTrue (bit_at_place words j bit i) ↔ Forces (instance_of kind pins (lane_place target chunk i)) (passing known) l) (lit-there j i bit h d)
          (forced i (instance_of kind pins (lane_place target chunk i)) (lane_cells u target chunk i) known lane (valid_is i lane ∙ there)
          (rule (instance_of kind pins (lane_place target chunk i)) refl (pins-count i))
          (two-cells u is target chunk early kind pins driver gate blocks are k within at i) (at-lane i lane (and_parts (is_cycle u.cycles chunk i) (is_set mask i) there).0) j d bit (in-cells j i h)))

      pub parity-task : (inverted : Bool) (odd : List Bool) → odd ≡ pin_parities u.circuit.drivers target → ((i : Instance) → i.kind ≡ kind → IsPinCount kind (length i.pins) → IsXorLike inverted i)
          → ((lane : ℕ) (i : Instance) (cells : List Cell) (known : Lit → Bool) → lane < 64 → is_set valid lane ≡ true → IsXorLike inverted i
          → IsLane i cells k known lane view
          → ((j : ℕ) (d : Cell) → j < length cells → j ≢ k → get_or odd j false ≡ is_odd (get_or cells j d) i.pins)
          → (j : ℕ) (d : Cell) (bit : Bool) → j < length cells
          → IsTrue (is_set (word_for bit (words_at_place words j)) lane) ↔ Forces i (passing known) (lit (get_or cells j d) bit))
          → IsForcedExactlyIn u (task_at u target chunk) mask blocks view words
      parity-task inverted odd odd_is rule forced =
          exact (λ j i bit h lane beyond. invalid i j bit lane (valid_is i lane ∙ beyond))
          (λ j i bit h lane there.
          let d : Cell = cell_at (64 * chunk + i) target in
          subst (λ l. IsTrue (bit_at_place words j bit i) ↔ Forces (instance_of kind pins (lane_place target chunk i)) (passing known) l) (lit-there j i bit h d)
          (forced i (instance_of kind pins (lane_place target chunk i)) (lane_cells u target chunk i) known lane (valid_is i lane ∙ there)
          (rule (instance_of kind pins (lane_place target chunk i)) refl (pins-count i)) (at-lane i lane (and_parts (is_cycle u.cycles chunk i) (is_set mask i) there).0)
          (λ n e below other. ap (λ (os : List Bool). get_or os n false) odd_is ∙ odd-there u is target chunk early kind pins driver gate blocks are k within at i n e below) j d bit (in-cells j i h)))
