-- The cells of a task's instances: their blocks, and the tasks of these blocks.
use Rattle.std.proofs.Common.{ℕ, ◌≡◌, zero, suc, ◌+◌, ◌-◌, ◌/◌, ◌<◌, ◌⊎◌, ◌&&◌, ◌||◌, true, false, not, cond, eqb, ltb, List, [], ◌∷◌, map, Some, length, arith, inl, inr, refl, sym, ap, ◌∙◌, subst}
use Rattle.std.specs.List.{All, Contains}
use Rattle.std.proofs.lemmas.Bool.{cases_Bool, cond-true, and_from, or_right, not_from_false, lt-ltb, eqb-true, eqb-false, eq-eqb}
use Rattle.std.proofs.lemmas.List.Elements.{All-contains, All-get_or, Contains-append_left, Contains-append_right}
use Rattle.sr_model.specs.declared.gates.Kind.{Kind}
use Rattle.sr_model.specs.declared.cells.Sig.{Sig}
use Rattle.sr_model.specs.declared.cells.Cell.{Cell}
use Rattle.sr_model.specs.declared.cells.Place.{Place}
use Rattle.sr_model.specs.Gate.{is_flip_flop_kind}
use Rattle.sr_model.specs.Netlist.{Driver, Input, Driven, Instance, instance_at, cell_at, cells_of, delay}
use Rattle.sr_model.proofs.lemmas.Instances.{Stands, stands, stands-at, instance_of}
use Rattle.sr_model.proofs.lemmas.Members.{not_in_nil, Contains-here, Contains-there, Contains-cases, Contains-map, list_any-from, filter-has}
use Rattle.netlist.specs.Wiring.{driver_at, has_signal, is_driven, is_flip_flop, pins_of, reads, readers, other_readers, signals_below}
use Rattle.netlist.proofs.lemmas.Signals.{signals_member}
use Rattle.unroll.specs.declared.problem.Task.{Task}
use Rattle.unroll.specs.Problem.{Unrolling, unrolled, IsProblem, signals_in, chunks_in, block_at, sig_at, chunk_at, block_of}
use Rattle.unroll.specs.Tasks.{IsTask, IsPlaceOf, IsCellOf, CellRole, task_at, task_of, chunk_of, blocks_of, blocks_from, own_tasks, adjacent_from, adjacent_tasks}
use Rattle.unroll.specs.Laws.{IsCellAt}
use Rattle.unroll.proofs.BlockNumbers.{block-sig, block-chunk, block-within, cycle-chunk, one-task}
use Rattle.unroll.proofs.TaskBlocks.{has-itself, signal-block, flip_flop-block}

map-found : {X Y : Type 0} (f : X → Y) (xs : List X) (y : Y) → Contains (map f xs) y → (x : X) × Contains xs x × (y ≡ f x)
map-found f [] y h = absurd (not_in_nil y h)
map-found f (z ∷ zs) y h =
    elim (Contains-cases (f z) (map f zs) y h) [
      | inl e ↦ (z, Contains-here z zs, sym e)
      | inr later ↦ let found : (x : _) × Contains zs x × (y ≡ f x) = map-found f zs y later in (found.0, Contains-there z zs found.0 found.1, found.2)
    ]

pub role : (u : Unrolling) (p : Place) (i : Instance) (c : Cell) → instance_at (unrolled u) p ≡ Some i → Contains (cells_of i) c → CellRole u p c
role u p i c at h =
    let s : Stands u.cycles (driver_at u.circuit.drivers p.target.0) p i = stands (unrolled u) p i at in
    let has : Contains (cells_of (instance_of s.kind s.pins p)) c = subst (λ j. Contains (cells_of j) c) s.is h in
    record {
      kind = s.kind;
      pins = s.pins;
      driver = s.driver;
      in_time = s.in_time;
      which = elim (Contains-cases (cell_at (p.cycle + delay s.kind) p.target) (map (cell_at p.cycle) s.pins) c has) [
        | inl e ↦ inl (sym e)
        | inr later ↦ inr (map-found (cell_at p.cycle) s.pins c later)
      ];
    }

-- and each such cell is one of the instance
pub role-back : (u : Unrolling) (p : Place) (c : Cell) → CellRole u p c → IsCellAt u p c
role-back u p c r = record {
  instance = instance_of r.kind r.pins p;
  stands = stands-at (unrolled u) p r.kind r.pins r.driver r.in_time;
  has_cell = elim r.which [
    | inl e ↦ subst (Contains (cells_of (instance_of r.kind r.pins p))) (sym e) (Contains-here (cell_at (p.cycle + delay r.kind) p.target) (map (cell_at p.cycle) r.pins))
    | inr (pin, h, e) ↦
        subst (Contains (cells_of (instance_of r.kind r.pins p))) (sym e)
        (Contains-there (cell_at (p.cycle + delay r.kind) p.target) (map (cell_at p.cycle) r.pins) (cell_at p.cycle pin) (Contains-map (cell_at p.cycle) r.pins pin h))
  ];
}

-- a flip-flop's target is one cycle later, a gate's is not
pub delay-cases : (kind : Kind) (pins : List Sig) → ((is_flip_flop (Driven kind pins) ≡ true) × (delay kind ≡ 1)) ⊎ ((is_flip_flop (Driven kind pins) ≡ false) × (delay kind ≡ 0))
delay-cases kind pins =
    elim (cases_Bool (is_flip_flop_kind kind)) [
      | inl e ↦ inl (e, ap (λ b. cond {A = ℕ} b 1 0) e)
      | inr e ↦ inr (e, ap (λ b. cond {A = ℕ} b 1 0) e)
    ]

-- a pin of a driver is read, and is one of its signals
pub pin-read : (driver : Driver) (kind : Kind) (pins : List Sig) (pin : Sig) → driver ≡ Driven kind pins → Contains pins pin → reads driver pin ≡ true
pin-read driver kind pins pin e h = ap (λ d. reads d pin) e ∙ list_any-from (λ (x : Sig). eqb x.0 pin.0) pins pin h (eq-eqb pin.0 pin.0 refl)

pub driven-by : (driver : Driver) (kind : Kind) (pins : List Sig) → driver ≡ Driven kind pins → is_driven driver ≡ true
driven-by driver kind pins e = ap is_driven e

pub pin-signal : (driver : Driver) (kind : Kind) (pins : List Sig) (t pin : Sig) → driver ≡ Driven kind pins → Contains pins pin → has_signal driver t pin ≡ true
pin-signal driver kind pins t pin e h =
    and_from (is_driven driver) (eqb pin.0 t.0 || reads driver pin) (driven-by driver kind pins e) (or_right (eqb pin.0 t.0) (reads driver pin) (pin-read driver kind pins pin e h))

-- one cycle later is the same chunk or the next one
pub later-chunk : (t : ℕ) → ((t + 1) / 64 ≡ t / 64) ⊎ ((t + 1) / 64 ≡ t / 64 + 1)
later-chunk t =
    elim (cases_Bool (eqb ((t + 1) / 64) (t / 64))) [
      | inl same ↦ inl (eqb-true ((t + 1) / 64) (t / 64) same)
      | inr other ↦ inr (next (eqb-false ((t + 1) / 64) (t / 64) other))
    ]
  where
    next : ((t + 1) / 64 ≡ t / 64 → ⊥) → (t + 1) / 64 ≡ t / 64 + 1
    next apart = omega arith

-- a driver in the list is at a number below its length
pub driven-within : (drivers : List Driver) (s : ℕ) (kind : Kind) (pins : List Sig) → driver_at drivers s ≡ Driven kind pins → s < length drivers
driven-within [] s kind pins e = cc
driven-within (d ∷ ds) zero kind pins e = omega arith
driven-within (d ∷ ds) (suc s) kind pins e = let below : s < length ds = driven-within ds s kind pins e in omega arith

plus-zero : (n : ℕ) → n + 0 ≡ n
plus-zero n = omega arith

module _ (u : Unrolling) (p : Place) (c : Cell) (r : CellRole u p c) where
  pub early : p.cycle / 64 < chunks_in u
  early = cycle-chunk u p.cycle (omega (arith, r.in_time))

  pub target-within : p.target.0 < signals_in u
  target-within = driven-within u.circuit.drivers p.target.0 r.kind r.pins r.driver

  -- the target's cell: of a gate it is in the cycle, of a flip-flop in the next one
  gate-cycle : delay r.kind ≡ 0 → c ≡ cell_at (p.cycle + delay r.kind) p.target → c ≡ cell_at p.cycle p.target
  gate-cycle none e = e ∙ ap (λ n. cell_at n p.target) (ap (λ n. p.cycle + n) none ∙ plus-zero p.cycle)

  flip_flop-cycle : delay r.kind ≡ 1 → c ≡ cell_at (p.cycle + delay r.kind) p.target → c ≡ cell_at (p.cycle + 1) p.target
  flip_flop-cycle one e = e ∙ ap (λ n. cell_at (p.cycle + n) p.target) one

  itself : has_signal (driver_at u.circuit.drivers p.target.0) p.target p.target ≡ true
  itself = has-itself (driver_at u.circuit.drivers p.target.0) p.target (driven-by (driver_at u.circuit.drivers p.target.0) r.kind r.pins r.driver)

  is-flip_flop : is_flip_flop (Driven r.kind r.pins) ≡ true → is_flip_flop (driver_at u.circuit.drivers p.target.0) ≡ true
  is-flip_flop e = ap is_flip_flop r.driver ∙ e

  later-within : delay r.kind ≡ 1 → (p.cycle + 1) / 64 < chunks_in u
  later-within one = cycle-chunk u (p.cycle + 1) (subst (λ n. p.cycle + n < u.cycles) one r.in_time)

  pub cell-chunk : c.cycle / 64 < chunks_in u
  cell-chunk =
      elim r.which [
        | inl at_target ↦ cycle-chunk u c.cycle (subst (λ n. n < u.cycles) (sym (ap (λ (x : Cell). x.cycle) at_target)) r.in_time)
        | inr (pin, h, at_pin) ↦ subst (λ n. n / 64 < chunks_in u) (sym (ap (λ (x : Cell). x.cycle) at_pin)) early
      ]

  at-target : c ≡ cell_at p.cycle p.target → Contains (blocks_from u p.target (p.cycle / 64)) (block_of u c)
  at-target e =
      subst (λ (x : Cell). Contains (blocks_from u p.target (p.cycle / 64)) (block_of u x)) (sym e) (signal-block u p.target (p.cycle / 64) early p.target target-within itself)

  after-target : is_flip_flop (Driven r.kind r.pins) ≡ true → delay r.kind ≡ 1 → c ≡ cell_at (p.cycle + 1) p.target → Contains (blocks_from u p.target (p.cycle / 64)) (block_of u c)
  after-target is one e =
      subst (λ (x : Cell). Contains (blocks_from u p.target (p.cycle / 64)) (block_of u x)) (sym e)
      (elim (later-chunk p.cycle) [
        | inl same ↦
            subst (λ n. Contains (blocks_from u p.target (p.cycle / 64)) (block_at u p.target n)) (sym same) (signal-block u p.target (p.cycle / 64) early p.target target-within itself)
        | inr next ↦
            subst (λ n. Contains (blocks_from u p.target (p.cycle / 64)) (block_at u p.target n)) (sym next)
            (flip_flop-block u p.target (p.cycle / 64) early target-within (is-flip_flop is) (subst (λ n. n < chunks_in u) next (later-within one)))
      ])

  at-pin : (pin : Sig) → pin.0 < signals_in u → Contains r.pins pin → c ≡ cell_at p.cycle pin → Contains (blocks_from u p.target (p.cycle / 64)) (block_of u c)
  at-pin pin within h e =
      subst (λ (x : Cell). Contains (blocks_from u p.target (p.cycle / 64)) (block_of u x)) (sym e)
      (signal-block u p.target (p.cycle / 64) early pin within (pin-signal (driver_at u.circuit.drivers p.target.0) r.kind r.pins p.target pin r.driver h))

  -- the block of a cell of an instance is one of the blocks of the task
  pub cell-block : ((pin : Sig) → Contains r.pins pin → pin.0 < signals_in u) → Contains (blocks_from u p.target (p.cycle / 64)) (block_of u c)
  cell-block wired =
      elim r.which [
        | inl e ↦ elim (delay-cases r.kind r.pins) [
          | inl (flip_flop, one) ↦ after-target flip_flop one (flip_flop-cycle one e)
          | inr (gate, none) ↦ at-target (gate-cycle none e)
        ]
        | inr (pin, h, e) ↦ at-pin pin (wired pin h) h e
      ]

  -- a driven signal's own task in a chunk, and a flip-flop's in the chunk before
  own-in-chunk : (chunk : ℕ) → Contains (adjacent_from u p.target chunk) (task_at u p.target chunk)
  own-in-chunk chunk =
      Contains-append_left (own_tasks u (driver_at u.circuit.drivers p.target.0) p.target chunk) (map (λ t. task_at u t chunk) (other_readers u.circuit.drivers p.target)) (task_at u p.target chunk)
      (subst (λ (d : Driver). Contains (own_tasks u d p.target chunk) (task_at u p.target chunk)) (sym r.driver)
      (Contains-append_right (cond (is_flip_flop (Driven r.kind r.pins) && ltb 0 chunk) (task_at u p.target (chunk - 1) ∷ []) []) (task_at u p.target chunk ∷ []) (task_at u p.target chunk)
      (Contains-here (task_at u p.target chunk) [])))

  own-before : (chunk : ℕ) → is_flip_flop (Driven r.kind r.pins) ≡ true → Contains (adjacent_from u p.target (chunk + 1)) (task_at u p.target chunk)
  own-before chunk is =
      Contains-append_left (own_tasks u (driver_at u.circuit.drivers p.target.0) p.target (chunk + 1)) (map (λ t. task_at u t (chunk + 1)) (other_readers u.circuit.drivers p.target)) (task_at u p.target chunk)
      (subst (λ (d : Driver). Contains (own_tasks u d p.target (chunk + 1)) (task_at u p.target chunk)) (sym r.driver)
      (Contains-append_left (cond (is_flip_flop (Driven r.kind r.pins) && ltb 0 (chunk + 1)) (task_at u p.target (chunk + 1 - 1) ∷ []) []) (task_at u p.target (chunk + 1) ∷ []) (task_at u p.target chunk)
      (subst (λ ts. Contains ts (task_at u p.target chunk))
      (sym (cond-true (is_flip_flop (Driven r.kind r.pins) && ltb 0 (chunk + 1)) (task_at u p.target (chunk + 1 - 1) ∷ []) []
      (and_from (is_flip_flop (Driven r.kind r.pins)) (ltb 0 (chunk + 1)) is (lt-ltb 0 (chunk + 1) (omega arith)))))
      (subst (λ n. Contains (task_at u p.target n ∷ []) (task_at u p.target chunk)) (back chunk) (Contains-here (task_at u p.target chunk) [])))))
    where
      back : (n : ℕ) → n ≡ n + 1 - 1
      back n = omega arith

  -- a reader's task in the chunk
  reader-in-chunk : (pin : Sig) → Contains r.pins pin → Contains (adjacent_from u pin (p.cycle / 64)) (task_of u p)
  reader-in-chunk pin h =
      elim (cases_Bool (eqb p.target.0 pin.0)) [
        | inl same ↦
            let e : p.target ≡ pin = ap (λ n. record { 0 = n }) (eqb-true p.target.0 pin.0 same) in
            subst (λ (s : Sig). Contains (adjacent_from u s (p.cycle / 64)) (task_of u p)) e (own-in-chunk (p.cycle / 64))
        | inr apart ↦
            Contains-append_right (own_tasks u (driver_at u.circuit.drivers pin.0) pin (p.cycle / 64)) (map (λ t. task_at u t (p.cycle / 64)) (other_readers u.circuit.drivers pin)) (task_of u p)
            (Contains-map (λ t. task_at u t (p.cycle / 64)) (other_readers u.circuit.drivers pin) p.target
            (filter-has (λ t. not (eqb t.0 pin.0)) (readers u.circuit.drivers pin) p.target
            (filter-has (λ t. reads (driver_at u.circuit.drivers t.0) pin) (signals_below (signals_in u)) p.target (signals_member (signals_in u) p.target.0 target-within)
            (pin-read (driver_at u.circuit.drivers p.target.0) r.kind r.pins pin r.driver h))
            (not_from_false (eqb p.target.0 pin.0) apart)))
      ]

  adjacent-gate : c ≡ cell_at p.cycle p.target → Contains (adjacent_from u c.sig (c.cycle / 64)) (task_of u p)
  adjacent-gate e = subst (λ (x : Cell). Contains (adjacent_from u x.sig (x.cycle / 64)) (task_of u p)) (sym e) (own-in-chunk (p.cycle / 64))

  adjacent-flip_flop : is_flip_flop (Driven r.kind r.pins) ≡ true → c ≡ cell_at (p.cycle + 1) p.target → Contains (adjacent_from u c.sig (c.cycle / 64)) (task_of u p)
  adjacent-flip_flop is e =
      subst (λ (x : Cell). Contains (adjacent_from u x.sig (x.cycle / 64)) (task_of u p)) (sym e)
      (elim (later-chunk p.cycle) [
        | inl same ↦ subst (λ n. Contains (adjacent_from u p.target n) (task_of u p)) (sym same) (own-in-chunk (p.cycle / 64))
        | inr next ↦ subst (λ n. Contains (adjacent_from u p.target n) (task_of u p)) (sym next) (own-before (p.cycle / 64) is)
      ])

  -- the task is one of those that the cell's block is in
  pub cell-adjacent : Contains (adjacent_from u c.sig (c.cycle / 64)) (task_of u p)
  cell-adjacent =
      elim r.which [
        | inl e ↦ elim (delay-cases r.kind r.pins) [
          | inl (flip_flop, one) ↦ adjacent-flip_flop flip_flop (flip_flop-cycle one e)
          | inr (gate, none) ↦ adjacent-gate (gate-cycle none e)
        ]
        | inr (pin, h, e) ↦ subst (λ (x : Cell). Contains (adjacent_from u x.sig (x.cycle / 64)) (task_of u p)) (sym e) (reader-in-chunk pin h)
      ]

-- each pin is one of the signals
pub pins-within : (u : Unrolling) → IsProblem u → (s : ℕ) (kind : Kind) (pins : List Sig) → driver_at u.circuit.drivers s ≡ Driven kind pins → (pin : Sig) → Contains pins pin → pin.0 < signals_in u
pins-within u is s kind pins e pin h =
    let all : All (λ x. x.0 < signals_in u) (pins_of (driver_at u.circuit.drivers s)) =
    All-get_or (λ d. All (λ x. x.0 < signals_in u) (pins_of d)) u.circuit.drivers s Input (driven-within u.circuit.drivers s kind pins e) is.is_circuit.wired in
    All-contains (λ (x : Sig). x.0 < signals_in u) pins pin (subst (λ (d : Driver). All (λ (x : Sig). x.0 < signals_in u) (pins_of d)) e all) h

-- the block of each cell of a task is one of its blocks
pub have_its_cells : (u : Unrolling) (t : Task) (c : Cell) → IsProblem u → IsCellOf u t c → Contains (blocks_of u t) (block_of u c)
have_its_cells u t c is of =
    let r : CellRole u of.place c = role u of.place of.instance c of.stands of.has_cell in
    let there : Contains (blocks_from u of.place.target (of.place.cycle / 64)) (block_of u c) = cell-block u of.place c r (pins-within u is of.place.target.0 r.kind r.pins r.driver) in
    subst (λ (s : Sig). Contains (blocks_from u s (chunk_of u t)) (block_of u c)) (sym of.belongs.0)
    (subst (λ n. Contains (blocks_from u of.place.target n) (block_of u c)) (sym of.belongs.1) there)

-- and the task is one of those that it is in
pub adjoin_their_tasks : (u : Unrolling) (t : Task) (c : Cell) → IsCellOf u t c → Contains (adjacent_tasks u (block_of u c)) t
adjoin_their_tasks u t c of =
    let r : CellRole u of.place c = role u of.place of.instance c of.stands of.has_cell in
    let chunk : c.cycle / 64 < chunks_in u = cell-chunk u of.place c r in
    let there : Contains (adjacent_from u c.sig (c.cycle / 64)) (task_of u of.place) = cell-adjacent u of.place c r in
    subst (Contains (adjacent_tasks u (block_of u c))) (sym (one-task u t of.place of.belongs))
    (subst (λ (s : Sig). Contains (adjacent_from u s (chunk_at u (block_of u c))) (task_of u of.place)) (sym (block-sig u c.sig (c.cycle / 64) chunk))
    (subst (λ n. Contains (adjacent_from u c.sig n) (task_of u of.place)) (sym (block-chunk u c.sig (c.cycle / 64) chunk)) there))

-- each instance is one of one task
pub each_in_one_task : (u : Unrolling) (p : Place) (i : Instance) → instance_at (unrolled u) p ≡ Some i
    → IsTask u (task_of u p) × IsPlaceOf u (task_of u p) p × ((t : Task) → IsPlaceOf u t p → t ≡ task_of u p)
each_in_one_task u p i at =
    let r : CellRole u p (cell_at (p.cycle + delay (stands (unrolled u) p i at).kind) p.target) = target-role in
    let chunk : p.cycle / 64 < chunks_in u = early u p _ r in
    let at_target : sig_at u (block_at u p.target (p.cycle / 64)) ≡ p.target = block-sig u p.target (p.cycle / 64) chunk in
    let in_chunk : chunk_at u (block_at u p.target (p.cycle / 64)) ≡ p.cycle / 64 = block-chunk u p.target (p.cycle / 64) chunk in (
      (
        block-within u p.target (p.cycle / 64) chunk (target-within u p _ r),
        ap (λ (s : Sig). is_driven (driver_at u.circuit.drivers s.0)) at_target ∙ driven-by (driver_at u.circuit.drivers p.target.0) r.kind r.pins r.driver,
      ),
      (at_target, in_chunk),
      λ t of. one-task u t p of,
    )
  where
    target-role : CellRole u p (cell_at (p.cycle + delay (stands (unrolled u) p i at).kind) p.target)
    target-role = record {
      kind = (stands (unrolled u) p i at).kind;
      pins = (stands (unrolled u) p i at).pins;
      driver = (stands (unrolled u) p i at).driver;
      in_time = (stands (unrolled u) p i at).in_time;
      which = inl refl;
    }

-- a cell of an instance is of a cycle that is there
pub cell-in_time : (u : Unrolling) (p : Place) (c : Cell) → CellRole u p c → c.cycle < u.cycles
cell-in_time u p c r =
    elim r.which [
      | inl e ↦ subst (λ n. n < u.cycles) (sym (ap (λ (x : Cell). x.cycle) e)) r.in_time
      | inr (pin, h, e) ↦ subst (λ n. n < u.cycles) (sym (ap (λ (x : Cell). x.cycle) e)) (omega (arith, r.in_time))
    ]
