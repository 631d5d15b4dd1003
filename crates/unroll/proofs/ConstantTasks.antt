-- The constant tasks are those that force something from nothing.
use Rattle.std.proofs.Common.{ℕ, cond, ◌≡◌, ◌+◌, ◌*◌, ◌/◌, ◌%◌, ◌<◌, ◌≤◌, ◌&&◌, ◌↔◌, Bool, true, not, eqb, List, [], ◌∷◌, ◌++◌, None, Some, length, get_or, arith, inl, inr, refl, sym, ap, ◌∙◌, subst}
use Rattle.std.specs.List.{AllPairs, Contains, flat_map, list_all, list_any, range_with_len, count_by}
use Rattle.std.proofs.lemmas.Bool.{cases_Bool, cond-true, cond-false, true≢false, and_parts, and_from, not-true, not_from_false, eqb-true}
use Rattle.std.proofs.lemmas.List.Elements.{All-get_or, Contains-get_or}
use Rattle.std.proofs.lemmas.List.FromFn.{length-range_with_len, get_or-range_with_len, length-map-range_with_len, get_or-map-range_with_len, map-range_with_len_more}
use Rattle.std.proofs.lemmas.List.{append-nil}
use Rattle.std.proofs.lemmas.Grind.{flat_map-append}
use Rattle.std.proofs.lemmas.List.Sums.{sum_by-cons}
use Rattle.sr_model.specs.declared.gates.Kind.{Kind}
use Rattle.sr_model.specs.declared.gates.Kind.TheVariants.{Dff}
use Rattle.sr_model.specs.declared.gates.Family.{Family}
use Rattle.sr_model.specs.declared.gates.Family.TheVariants.{AndLike, Parity}
use Rattle.sr_model.specs.declared.cells.Sig.{Sig}
use Rattle.sr_model.specs.declared.cells.Lit.{Lit}
use Rattle.sr_model.specs.declared.cells.Place.{Place}
use Rattle.sr_model.specs.Gate.{family_of, is_flip_flop_kind, IsPinCount}
use Rattle.sr_model.specs.Netlist.{Driver, Input, Driven, cell_at, delay}
use Rattle.sr_model.specs.Closure.{Forces, ForcesAt, passing, lit}
use Rattle.sr_model.specs.Worked.{nothing}
use Rattle.sr_model.proofs.lemmas.Instances.{Stands, stands, stands-at, instance_of}
use Rattle.sr_model.proofs.lemmas.Laws.{flip_flop-dff}
use Rattle.sr_model.proofs.lemmas.Members.{not_in_nil, Contains-here, Contains-there, Contains-map, map-member, list_all-at, list_all-from, list_any-from, list_any-found}
use Rattle.sr_model.proofs.lemmas.ParityRules.{AllEven, IsApartFrom, apart_from_pins, dff_apart, odd_among}
use Rattle.sr_model.proofs.lemmas.FromNothing.{HasParity, nothing_forced, even_forces}
use Rattle.netlist.specs.Wiring.{driver_at, is_driven, is_gate, pins_of, kind_of, is_odd_pin, pin_parities, signals_below, signals_of, HasPinCount}
use Rattle.netlist.proofs.lemmas.Signals.{signals_member, signal_within, own_pin}
use Rattle.unroll.specs.declared.problem.Task.{Task}
use Rattle.unroll.specs.Problem.{Unrolling, unrolled, IsProblem, signals_in, chunks_in, blocks_in}
use Rattle.unroll.specs.Tasks.{IsTask, task_at, tasks_at, constant_tasks_at, target_of, target_block, chunk_of, is_parity, is_constant, constant_tasks}
use Rattle.unroll.specs.Laws.{ForcesFromNothing}
use Rattle.unroll.proofs.BlockNumbers.{some_chunk, block-sig, block-chunk, block-within, chunk-within, sig-within, task-itself}
use Rattle.unroll.proofs.lemmas.FlatMaps.{flat_map-has, flat_map-found, ascending-flat, signals-ascend}
use Rattle.unroll.proofs.TaskBlocks.{signal-listed}
use Rattle.unroll.proofs.TaskCells.{driven-within, pin-signal, pins-within}

-- the numbers of the chunks
pub chunk-listed : (n k : ℕ) → k < n → Contains (range_with_len 0 n) k
chunk-listed n k h =
    let place : get_or (range_with_len 0 n) k k ≡ k = get_or-range_with_len 0 n k k h ∙ zero-add k in
    subst (Contains (range_with_len 0 n)) place (Contains-get_or (range_with_len 0 n) k k (subst (λ m. k < m) (sym (length-range_with_len 0 n)) h))
  where
    zero-add : (m : ℕ) → 0 + m ≡ m
    zero-add m = omega arith

pub listed-chunk : (n k : ℕ) → Contains (range_with_len 0 n) k → k < n
listed-chunk n k (i, within, at) =
    let below : i < n = subst (λ m. i < m) (length-range_with_len 0 n) within in
    let place : get_or (range_with_len 0 n) i k ≡ 0 + i = get_or-range_with_len 0 n i k below in
    omega (arith, place, at, below)

-- the kinds whose target has the parity of the pins, or the other bit
parity-kind : (kind : Kind) → is_parity (family_of kind) ≡ true → HasParity kind
parity-kind kind is = of (family_of kind) refl is where
  of : (family : Family) → family_of kind ≡ family → is_parity family ≡ true → HasParity kind
  of (Parity inverted) same e = (inverted, same)
  of (AndLike pins target) same e = absurd (true≢false (sym e))

kind-parity : (kind : Kind) → HasParity kind → is_parity (family_of kind) ≡ true
kind-parity kind parity = ap is_parity parity.1

-- none of them is the flip-flop
parity-delay : (kind : Kind) → HasParity kind → delay kind ≡ 0
parity-delay kind parity =
    elim (cases_Bool (is_flip_flop_kind kind)) [
      | inl is ↦ let wrong : family_of Dff ≡ Parity parity.0 = ap family_of (sym (flip_flop-dff kind is)) ∙ parity.1 in cc
      | inr gate ↦ ap (λ b. cond {A = ℕ} b 1 0) gate
    ]

-- what is not among the pins stands there no time
none-among : (pins : List Sig) (s : ℕ) → (Contains pins (record { 0 = s }) → ⊥) → count_by (λ pin. eqb pin.0 s) pins ≡ 0
none-among [] s absent = refl
none-among (pin ∷ pins) s absent =
    elim (cases_Bool (eqb pin.0 s)) [
      | inl at ↦
          let e : pin ≡ record { 0 = s } = ap (λ n. record { 0 = n }) (eqb-true pin.0 s at) in
          absurd (absent (subst (Contains (pin ∷ pins)) e (Contains-here pin pins)))
      | inr apart ↦
          let rest : count_by (λ (x : Sig). eqb x.0 s) pins ≡ 0 = none-among pins s (λ h. absent (Contains-there pin pins (record { 0 = s }) h)) in
          let first : count_by (λ (x : Sig). eqb x.0 s) (pin ∷ pins) ≡ cond (eqb pin.0 s) 1 0 + count_by (λ (x : Sig). eqb x.0 s) pins = sum_by-cons (λ (x : Sig). cond {A = ℕ} (eqb x.0 s) 1 0) pin pins in
          omega (arith, first, rest, ap (λ b. cond {A = ℕ} b 1 0) apart)
    ]

-- each pin stands an even number of times, and so each signal does
even-each : (kind : Kind) (pins : List Sig) → list_all (λ pin. not (is_odd_pin (Driven kind pins) pin)) pins ≡ true → AllEven pins
even-each kind pins all s =
    elim (cases_Bool (odd_among s pins)) [
      | inr even ↦ even
      | inl odd ↦
          let absent : (Contains pins (record { 0 = s }) → ⊥) = λ h.
          true≢false (sym odd ∙ not-true (odd_among s pins) (list_all-at (λ pin. not (is_odd_pin (Driven kind pins) pin)) pins all (record { 0 = s }) h)) in
          absurd (true≢false (sym odd ∙ ap (λ n. eqb (n % 2) 1) (none-among pins s absent)))
    ]

each-even : (kind : Kind) (pins : List Sig) → AllEven pins → list_all (λ pin. not (is_odd_pin (Driven kind pins) pin)) pins ≡ true
each-even kind pins even = list_all-from (λ pin. not (is_odd_pin (Driven kind pins) pin)) pins (λ pin h. not_from_false (odd_among pin.0 pins) (even pin.0))

-- a constant gate
pub record Constant (d : Driver) : Type 0 where
  pub kind : Kind
  pub pins : List Sig
  pub driver : d ≡ Driven kind pins
  pub parity : HasParity kind
  pub even : AllEven pins

pub constant-is : (d : Driver) → is_constant d ≡ true → Constant d
constant-is Input e = absurd (true≢false (sym e))
constant-is (Driven kind pins) e =
    let parts : (is_parity (family_of kind) ≡ true) × (list_all (λ pin. not (is_odd_pin (Driven kind pins) pin)) pins ≡ true) =
    and_parts (is_parity (family_of kind)) (list_all (λ pin. not (is_odd_pin (Driven kind pins) pin)) pins) e in
    record { kind = kind; pins = pins; driver = refl; parity = parity-kind kind parts.0; even = even-each kind pins parts.1 }

pub is-constant : (d : Driver) → Constant d → is_constant d ≡ true
is-constant d c =
    ap is_constant c.driver
    ∙ and_from (is_parity (family_of c.kind)) (list_all (λ pin. not (is_odd_pin (Driven c.kind c.pins) pin)) c.pins) (kind-parity c.kind c.parity) (each-even c.kind c.pins c.even)

module _ (u : Unrolling) (is : IsProblem u) (kind : Kind) (pins : List Sig) (p : Place) (driver : driver_at u.circuit.drivers p.target.0 ≡ Driven kind pins) where
  -- the target's cell is none of the pins' cells
  pub target-apart : IsApartFrom kind pins p
  target-apart =
      elim (cases_Bool (is_flip_flop_kind kind)) [
        | inl is_flip_flop ↦ subst (λ k. IsApartFrom k pins p) (sym (flip_flop-dff kind is_flip_flop)) (dff_apart pins p)
        | inr gate ↦ apart_from_pins kind pins p (λ own.
            own_pin u.circuit.drivers p.target is.is_circuit.no_loop (ap is_gate driver ∙ not_from_false (is_flip_flop_kind kind) gate)
            (subst (λ (d : Driver). Contains (pins_of d) p.target) (sym driver) own))
      ]

  -- the kind may have so many pins
  pub pin-count : IsPinCount kind (length pins)
  pin-count =
      let all : HasPinCount (driver_at u.circuit.drivers p.target.0) =
      All-get_or HasPinCount u.circuit.drivers p.target.0 Input (driven-within u.circuit.drivers p.target.0 kind pins driver) is.is_circuit.pin_counts in
      subst HasPinCount driver all

-- a constant gate forces its target from nothing, in each cycle
constant-forces : (u : Unrolling) → IsProblem u → (p : Place) → (c : Constant (driver_at u.circuit.drivers p.target.0)) → p.cycle < u.cycles
    → (l : Lit) × ForcesAt (unrolled u) (passing nothing) p l
constant-forces u is p c early = (
  lit (cell_at (p.cycle + delay c.kind) p.target) c.parity.0,
  record {
    instance = instance_of c.kind c.pins p;
    stands = stands-at (unrolled u) p c.kind c.pins c.driver (omega (arith, early, parity-delay c.kind c.parity));
    forces = even_forces c.pins p c.kind c.parity.0 c.parity.1 (pin-count u is c.kind c.pins p c.driver) (target-apart u is c.kind c.pins p c.driver) c.even nothing;
  },
)

-- what is forced from nothing is so at a constant gate
forced-constant : (u : Unrolling) → IsProblem u → (p : Place) (l : Lit) → ForcesAt (unrolled u) (passing nothing) p l → Constant (driver_at u.circuit.drivers p.target.0)
forced-constant u is p l f =
    let s : Stands u.cycles (driver_at u.circuit.drivers p.target.0) p f.instance = stands (unrolled u) p f.instance f.stands in
    let says : HasParity s.kind × AllEven s.pins =
    nothing_forced s.pins p s.kind (pin-count u is s.kind s.pins p s.driver) (target-apart u is s.kind s.pins p s.driver) l (subst (λ i. Forces i (passing nothing) l) s.is f.forces) in
    record { kind = s.kind; pins = s.pins; driver = s.driver; parity = says.0; even = says.1 }

module _ (u : Unrolling) (is : IsProblem u) where
  some : 0 < chunks_in u
  some = some_chunk u is

  listed : (s : Sig) (t : Task) → Contains (tasks_at u s) t → (chunk : ℕ) × (chunk < chunks_in u) × (task_at u s chunk ≡ t)
  listed s t h =
      let found : (chunk : ℕ) × Contains (range_with_len 0 (chunks_in u)) chunk × (task_at u s chunk ≡ t) = map-member (task_at u s) (range_with_len 0 (chunks_in u)) t h in
      (found.0, listed-chunk (chunks_in u) found.0 found.1, found.2)

  tasks-ascend : (s : Sig) → AllPairs (λ a b. a.0 < b.0) (tasks_at u s)
  tasks-ascend s i j d lt within =
      let size : length (tasks_at u s) ≡ chunks_in u = length-map-range_with_len (task_at u s) 0 (chunks_in u) in
      let first : get_or (tasks_at u s) i d ≡ task_at u s i = get_or-map-range_with_len (task_at u s) 0 (chunks_in u) i i d (omega arith) (omega arith) in
      let second : get_or (tasks_at u s) j d ≡ task_at u s j = get_or-map-range_with_len (task_at u s) 0 (chunks_in u) j j d (omega arith) (omega arith) in
      let a : (get_or (tasks_at u s) i d).0 ≡ s.0 * chunks_in u + i = ap (λ (t : Task). t.0) first in
      let b : (get_or (tasks_at u s) j d).0 ≡ s.0 * chunks_in u + j = ap (λ (t : Task). t.0) second in
      omega arith

  tasks-within : (s : Sig) (t : Task) → Contains (tasks_at u s) t → (s.0 * chunks_in u ≤ t.0) × (t.0 < (s.0 + 1) * chunks_in u)
  tasks-within s t h =
      let found : (chunk : ℕ) × (chunk < chunks_in u) × (task_at u s chunk ≡ t) = listed s t h in
      let at : s.0 * chunks_in u + found.0 ≡ t.0 = ap (λ (x : Task). x.0) found.2 in
      let more : (s.0 + 1) * chunks_in u ≡ s.0 * chunks_in u + chunks_in u = distribute s.0 (chunks_in u) in
      (omega (arith, at), omega (arith, at, more, found.1))
    where
      distribute : (x y : ℕ) → (x + 1) * y ≡ x * y + y
      distribute x y = grind arith

  is_one : Sig → Bool
  is_one s = is_constant (driver_at u.circuit.drivers s.0)

  -- the tasks of one signal are those of a constant gate, or none
  at-constant : (s : Sig) (t : Task) → Contains (constant_tasks_at u s) t → (is_one s ≡ true) × Contains (tasks_at u s) t
  unfolding is_one
  at-constant s t h =
      elim (cases_Bool (is_one s)) [
        | inl holds ↦ (holds, subst (λ ts. Contains ts t) (cond-true (is_one s) (tasks_at u s) [] holds) h)
        | inr fails ↦ absurd (not_in_nil t (subst (λ ts. Contains ts t) (cond-false (is_one s) (tasks_at u s) [] fails) h))
      ]

  constants-ascend : (s : Sig) → AllPairs (λ a b. a.0 < b.0) (constant_tasks_at u s)
  unfolding is_one
  constants-ascend s =
      elim (cases_Bool (is_one s)) [
        | inl holds ↦ subst (AllPairs (λ (a b : Task). a.0 < b.0)) (sym (cond-true (is_one s) (tasks_at u s) [] holds)) (tasks-ascend s)
        | inr fails ↦ subst (AllPairs (λ (a b : Task). a.0 < b.0)) (sym (cond-false (is_one s) (tasks_at u s) [] fails)) (λ i j d lt within. absurd (omega arith))
      ]

  ascend : AllPairs (λ a b. a.0 < b.0) (constant_tasks u)
  ascend =
      ascending-flat (λ (t : Task). t.0) (chunks_in u) (constant_tasks_at u) (signals_below (signals_in u)) (signals-ascend (signals_in u))
      (λ s h. (constants-ascend s, λ t k. tasks-within s t (at-constant s t k).1))

  -- what is listed is a task that forces something from nothing
  forces : (t : Task) → Contains (constant_tasks u) t → IsTask u t × ForcesFromNothing u t
  unfolding is_one
  forces t h =
      let found : (s : Sig) × Contains (signals_below (signals_in u)) s × Contains (constant_tasks_at u s) t = flat_map-found (constant_tasks_at u) (signals_below (signals_in u)) t h in
      let s : Sig = found.0 in
      let within : s.0 < signals_in u = signal_within (signals_in u) s found.1 in
      let of : (is_one s ≡ true) × Contains (tasks_at u s) t = at-constant s t found.2 in
      let gate : Constant (driver_at u.circuit.drivers s.0) = constant-is (driver_at u.circuit.drivers s.0) of.0 in
      let here : (chunk : ℕ) × (chunk < chunks_in u) × (task_at u s chunk ≡ t) = listed s t of.1 in
      let p : Place = record { cycle = 64 * here.0; target = s } in
      let at_target : target_of u t ≡ s = ap (target_of u) (sym here.2) ∙ block-sig u s here.0 here.1 in
      let in_chunk : chunk_of u t ≡ here.0 = ap (chunk_of u) (sym here.2) ∙ block-chunk u s here.0 here.1 in
      let forced : (l : Lit) × ForcesAt (unrolled u) (passing nothing) p l = constant-forces u is p gate (omega (arith, here.1)) in (
        (
          subst (λ (x : Task). x.0 < blocks_in u) here.2 (block-within u s here.0 here.1 within),
          ap (λ (x : Sig). is_driven (driver_at u.circuit.drivers x.0)) at_target ∙ ap is_driven gate.driver,
        ),
        record { place = p; belongs = (at_target, in_chunk ∙ times-over here.0); l = forced.0; forces = forced.1 },
      )
    where
      times-over : (n : ℕ) → n ≡ 64 * n / 64
      times-over n = omega arith

  -- and each such task is listed
  listed-from : (t : Task) → IsTask u t → ForcesFromNothing u t → Contains (constant_tasks u) t
  unfolding is_one
  listed-from t task f =
      let gate : Constant (driver_at u.circuit.drivers f.place.target.0) = forced-constant u is f.place f.l f.forces in
      let s : Sig = target_of u t in
      let within : s.0 < signals_in u = sig-within u (target_block t) some task.0 in
      let passes : is_one s ≡ true = ap is_one f.belongs.0 ∙ is-constant (driver_at u.circuit.drivers f.place.target.0) gate in
      let one : Contains (tasks_at u s) t =
      subst (Contains (tasks_at u s)) (task-itself u t)
      (Contains-map (task_at u s) (range_with_len 0 (chunks_in u)) (chunk_of u t) (chunk-listed (chunks_in u) (chunk_of u t) (chunk-within u (target_block t) some))) in
      flat_map-has (constant_tasks_at u) (signals_below (signals_in u)) s t (signals_member (signals_in u) s.0 within)
      (subst (λ ts. Contains ts t) (sym (cond-true (is_one s) (tasks_at u s) [] passes)) one)

  pub force_from_nothing : AllPairs (λ a b. a.0 < b.0) (constant_tasks u) × ((t : Task) → Contains (constant_tasks u) t ↔ (IsTask u t × ForcesFromNothing u t))
  force_from_nothing = (ascend, λ t. (forces t, λ (task, f). listed-from t task f))

-- the tasks of one more signal
pub constants-more : (u : Unrolling) (n : ℕ) → flat_map (constant_tasks_at u) (signals_below (n + 1)) ≡ flat_map (constant_tasks_at u) (signals_below n) ++ constant_tasks_at u (record { 0 = n })
constants-more u n =
    ap (flat_map (constant_tasks_at u)) (map-range_with_len_more (λ s. record { 0 = s }) 0 n n (omega arith))
    ∙ flat_map-append (constant_tasks_at u) (signals_below n) (record { 0 = n } ∷ []) ∙ ap (λ ts. flat_map (constant_tasks_at u) (signals_below n) ++ ts) (append-nil (constant_tasks_at u (record { 0 = n })))

-- some signal of a driver stands an odd number of times exactly if some pin does
pub some-odd : (drivers : List Driver) (s : Sig) (kind : Kind) (pins : List Sig) → driver_at drivers s.0 ≡ Driven kind pins → ((pin : Sig) → Contains pins pin → pin.0 < length drivers)
    → not (list_any (λ odd. odd) (pin_parities drivers s)) ≡ list_all (λ pin. not (is_odd_pin (Driven kind pins) pin)) pins
some-odd drivers s kind pins driver within =
    elim (cases_Bool (list_any (λ odd. odd) (pin_parities drivers s))) [
      | inl some ↦
          let found : (odd : Bool) × Contains (pin_parities drivers s) odd × (odd ≡ true) = list_any-found (λ odd. odd) (pin_parities drivers s) some in
          let of : (t : Sig) × Contains (signals_of drivers s) t × (is_odd_pin (driver_at drivers s.0) t ≡ found.0) = map-member (is_odd_pin (driver_at drivers s.0)) (signals_of drivers s) found.0 found.1 in
          let odd : odd_among of.0.0 pins ≡ true = sym (ap (λ d. is_odd_pin d of.0) driver) ∙ of.2 ∙ found.2 in
          ap not some ∙ sym (elim (cases_Bool (list_all (λ pin. not (is_odd_pin (Driven kind pins) pin)) pins)) [
            | inl all ↦ absurd (true≢false (sym odd ∙ even-each kind pins all of.0.0))
            | inr fails ↦ fails
          ])
      | inr none ↦
          ap not none ∙ sym (list_all-from (λ pin. not (is_odd_pin (Driven kind pins) pin)) pins (λ pin h.
          not_from_false (odd_among pin.0 pins) (elim (cases_Bool (odd_among pin.0 pins)) [
            | inr even ↦ even
            | inl odd ↦
                let among : Contains (signals_of drivers s) pin = signal-listed drivers s pin (within pin h) (pin-signal (driver_at drivers s.0) kind pins s pin driver h) in
                let here : Contains (pin_parities drivers s) (is_odd_pin (driver_at drivers s.0) pin) = Contains-map (is_odd_pin (driver_at drivers s.0)) (signals_of drivers s) pin among in
                absurd (true≢false (sym (list_any-from (λ odd. odd) (pin_parities drivers s) (is_odd_pin (driver_at drivers s.0) pin) here (ap (λ d. is_odd_pin d pin) driver ∙ odd)) ∙ none))
          ])))
    ]

-- so a parity gate none of whose signals does is constant
pub parity-constant : (u : Unrolling) → IsProblem u → (s : Sig) (kind : Kind) → kind_of (driver_at u.circuit.drivers s.0) ≡ Some kind → is_parity (family_of kind) ≡ true
    → not (list_any (λ odd. odd) (pin_parities u.circuit.drivers s)) ≡ is_constant (driver_at u.circuit.drivers s.0)
parity-constant u is s kind e parity = with-driver (driver_at u.circuit.drivers s.0) refl where
  with-driver : (d : Driver) → driver_at u.circuit.drivers s.0 ≡ d → not (list_any (λ odd. odd) (pin_parities u.circuit.drivers s)) ≡ is_constant (driver_at u.circuit.drivers s.0)
  with-driver Input driver = let none : None ≡ Some kind = ap kind_of (sym driver) ∙ e in cc
  with-driver (Driven k pins) driver =
      let same : Some k ≡ Some kind = ap kind_of (sym driver) ∙ e in
      let is_kind : k ≡ kind = cc in
      some-odd u.circuit.drivers s k pins driver (pins-within u is s.0 k pins driver)
      ∙ sym (ap is_constant driver ∙ ap (λ b. b && list_all (λ pin. not (is_odd_pin (Driven k pins) pin)) pins) (ap (λ x. is_parity (family_of x)) is_kind ∙ parity))
