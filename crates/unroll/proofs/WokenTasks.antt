-- The tasks that are woken where bits of a block are fresh.
use Rattle.std.proofs.Common.{ℕ, ◌≡◌, ◌+◌, ◌-◌, ◌/◌, ◌%◌, ◌<◌, ◌≤◌, ◌&&◌, ◌||◌, true, false, not, cond, eqb, ltb, List, [], ◌∷◌, arith, inl, inr, refl, sym, ap, subst, ◌∙◌}
use Rattle.std.specs.List.{All, Contains}
use Rattle.std.proofs.lemmas.Bool.{cases_Bool, cond-true, cond-false, and_from, and_parts, or_left, or_right, lt-ltb, ltb-false, eqb-true, not_from_false, true≢false}
use Rattle.std.proofs.lemmas.Nat.Bits.{bit_at_above}
use Rattle.std.proofs.lemmas.List.Elements.{Contains-append_left, Contains-append_right, Contains-append_cases}
use Rattle.sr_model.specs.declared.gates.Kind.{Kind}
use Rattle.sr_model.specs.declared.cells.Sig.{Sig}
use Rattle.sr_model.specs.declared.cells.Cell.{Cell}
use Rattle.sr_model.specs.declared.cells.Place.{Place}
use Rattle.sr_model.specs.Netlist.{Driver, Input, Driven, cell_at, delay}
use Rattle.sr_model.proofs.lemmas.Members.{not_in_nil, Contains-here, Contains-cases, All-from_Contains, filter-has}
use Rattle.netlist.specs.Wiring.{driver_at, is_driven, is_flip_flop, is_gate, reads, readers, other_readers, signals_below}
use Rattle.netlist.proofs.lemmas.Signals.{signals_member}
use Rattle.unroll.specs.declared.problem.InChunk.{InChunk}
use Rattle.unroll.specs.declared.problem.Task.{Task}
use Rattle.unroll.specs.Bits.{is_set}
use Rattle.unroll.specs.Problem.{Unrolling, IsProblem, IsInside, signals_in, chunks_in, block_in, block_of, bit_of, sig_at, chunk_at}
use Rattle.unroll.specs.Records.{wakes_before, wakes_own, woken_signals}
use Rattle.unroll.specs.Tasks.{CellRole, IsCellOf, IsTask, IsTaskAt, task_at, task_of}
use Rattle.unroll.specs.Laws.{IsWoken}
use Rattle.unroll.proofs.AdjacentTasks.{driven-task, reader-driven}
use Rattle.unroll.proofs.BlockNumbers.{block-sig, block-chunk, one-task}
use Rattle.unroll.proofs.TaskCells.{role, cell-chunk, delay-cases, later-chunk, pin-read, target-within}

-- a word with a bit from 1 on is above 1
later-set : (fresh i : ℕ) → 1 ≤ i → is_set fresh i ≡ true → ltb 1 fresh ≡ true
unfolding is_set
later-set fresh i above set =
    elim (cases_Bool (ltb 1 fresh)) [
      | inl is ↦ is
      | inr not ↦ let small : fresh ≤ 1 = ltb-false 1 fresh not in absurd (true≢false (sym set ∙ ap (λ n. eqb n 1) (bit_at_above fresh 1 i (omega (arith, small)) above)))
    ]

-- a driven signal's block is in its task of the chunk
own-wakes : (kind : Kind) (pins : List Sig) (s : Sig) (fresh : ℕ) → (is_flip_flop (Driven kind pins) ≡ true → (ltb 1 fresh || reads (Driven kind pins) s) ≡ true) → wakes_own (Driven kind pins) s fresh ≡ true
own-wakes kind pins s fresh so =
    elim (cases_Bool (is_flip_flop (Driven kind pins))) [
      | inl flip_flop ↦
          or_right (is_gate (Driven kind pins)) (is_flip_flop (Driven kind pins) && (ltb 1 fresh || reads (Driven kind pins) s))
          (and_from (is_flip_flop (Driven kind pins)) (ltb 1 fresh || reads (Driven kind pins) s) flip_flop (so flip_flop))
      | inr gate ↦ or_left (is_gate (Driven kind pins)) (is_flip_flop (Driven kind pins) && (ltb 1 fresh || reads (Driven kind pins) s)) (ap not gate)
    ]

module _ (u : Unrolling) (fresh : ℕ) (p : Place) (c : Cell) (r : CellRole u p c) where
  -- what is to be shown of the cell
  abbrev Wakes : Cell → Type 0
  Wakes x = is_set fresh (bit_of x) ≡ true → IsWoken u (record { sig = x.sig; chunk = x.cycle / 64 }) fresh (task_of u p)

  own : (chunk : ℕ) → (is_flip_flop (Driven r.kind r.pins) ≡ true → (ltb 1 fresh || reads (Driven r.kind r.pins) p.target) ≡ true)
      → IsWoken u (record { sig = p.target; chunk = chunk }) fresh (task_at u p.target chunk)
  own chunk so =
      let wakes : wakes_own (driver_at u.circuit.drivers p.target.0) p.target fresh ≡ true = ap (λ d. wakes_own d p.target fresh) r.driver ∙ own-wakes r.kind r.pins p.target fresh so in
      inr (
        p.target,
        Contains-append_left (cond (wakes_own (driver_at u.circuit.drivers p.target.0) p.target fresh) (p.target ∷ []) []) (other_readers u.circuit.drivers p.target) p.target
            (subst (λ ss. Contains ss p.target) (sym (cond-true (wakes_own (driver_at u.circuit.drivers p.target.0) p.target fresh) (p.target ∷ []) [] wakes)) (Contains-here p.target [])),
        refl,
      )

  before : (chunk : ℕ) → is_flip_flop (Driven r.kind r.pins) ≡ true → is_set fresh 0 ≡ true → IsWoken u (record { sig = p.target; chunk = chunk + 1 }) fresh (task_at u p.target chunk)
  before chunk flip_flop first =
      inl (
        and_from (is_flip_flop (driver_at u.circuit.drivers p.target.0)) (ltb 0 (chunk + 1) && is_set fresh 0) (ap is_flip_flop r.driver ∙ flip_flop)
            (and_from (ltb 0 (chunk + 1)) (is_set fresh 0) (lt-ltb 0 (chunk + 1) (omega arith)) first),
        ap (task_at u p.target) (back chunk),
      )
    where
      back : (n : ℕ) → n ≡ n + 1 - 1
      back n = omega arith

  gate-target : is_flip_flop (Driven r.kind r.pins) ≡ false → Wakes (cell_at p.cycle p.target)
  gate-target gate set = own (p.cycle / 64) (λ flip_flop. absurd (true≢false (sym flip_flop ∙ gate)))

  flip_flop-target : is_flip_flop (Driven r.kind r.pins) ≡ true → Wakes (cell_at (p.cycle + 1) p.target)
  flip_flop-target flip_flop set =
      elim (later-chunk p.cycle) [
        | inl same ↦
            let many : ltb 1 fresh ≡ true = later-set fresh ((p.cycle + 1) % 64) (not-first p.cycle same) set in
            subst (λ n. IsWoken u (record { sig = p.target; chunk = n }) fresh (task_of u p)) (sym same) (own (p.cycle / 64) (λ _. or_left (ltb 1 fresh) (reads (Driven r.kind r.pins) p.target) many))
        | inr next ↦
            subst (λ n. IsWoken u (record { sig = p.target; chunk = n }) fresh (task_of u p)) (sym next) (before (p.cycle / 64) flip_flop (ap (is_set fresh) (sym (at-first p.cycle next)) ∙ set))
      ]
    where
      not-first : (n : ℕ) → (n + 1) / 64 ≡ n / 64 → 1 ≤ (n + 1) % 64
      not-first n same = omega (arith, same)

      at-first : (n : ℕ) → (n + 1) / 64 ≡ n / 64 + 1 → (n + 1) % 64 ≡ 0
      at-first n next = omega (arith, next)

  at-pin : (pin : Sig) → Contains r.pins pin → Wakes (cell_at p.cycle pin)
  at-pin pin h set =
      elim (cases_Bool (eqb p.target.0 pin.0)) [
        | inl same ↦
            let e : p.target ≡ pin = ap (λ n. record { 0 = n }) (eqb-true p.target.0 pin.0 same) in
            let itself : reads (Driven r.kind r.pins) p.target ≡ true = pin-read (Driven r.kind r.pins) r.kind r.pins p.target refl (subst (Contains r.pins) (sym e) h) in
            subst (λ (s : Sig). IsWoken u (record { sig = s; chunk = p.cycle / 64 }) fresh (task_of u p)) e (own (p.cycle / 64) (λ _. or_right (ltb 1 fresh) (reads (Driven r.kind r.pins) p.target) itself))
        | inr apart ↦ inr (
          p.target,
          Contains-append_right (cond (wakes_own (driver_at u.circuit.drivers pin.0) pin fresh) (pin ∷ []) []) (other_readers u.circuit.drivers pin) p.target
              (filter-has (λ t. not (eqb t.0 pin.0)) (readers u.circuit.drivers pin) p.target
              (filter-has (λ t. reads (driver_at u.circuit.drivers t.0) pin) (signals_below (signals_in u)) p.target (signals_member (signals_in u) p.target.0 (target-within u p c r))
              (pin-read (driver_at u.circuit.drivers p.target.0) r.kind r.pins pin r.driver h))
              (not_from_false (eqb p.target.0 pin.0) apart)),
          refl,
        )
      ]

  same-cycle : delay r.kind ≡ 0 → cell_at (p.cycle + delay r.kind) p.target ≡ cell_at p.cycle p.target
  same-cycle none = ap (λ n. cell_at n p.target) (ap (λ n. p.cycle + n) none ∙ plus-zero p.cycle) where
    plus-zero : (n : ℕ) → n + 0 ≡ n
    plus-zero n = omega arith

  at-cell : Wakes c
  at-cell =
      elim r.which [
        | inl e ↦ elim (delay-cases r.kind r.pins) [
          | inl (flip_flop, one) ↦ subst Wakes (sym (e ∙ ap (λ n. cell_at (p.cycle + n) p.target) one)) (flip_flop-target flip_flop)
          | inr (gate, none) ↦ subst Wakes (sym (e ∙ same-cycle none)) (gate-target gate)
        ]
        | inr (pin, h, e) ↦ subst Wakes (sym e) (at-pin pin h)
      ]

-- a task with a cell whose bit is fresh is woken
pub fresh_bits_wake : (u : Unrolling) (at : InChunk) (fresh : ℕ) (t : Task) (c : Cell) → IsProblem u → IsInside u at → IsTask u t → IsCellOf u t c
    → block_of u c ≡ block_in u at → is_set fresh (bit_of c) ≡ true → IsWoken u at fresh t
fresh_bits_wake u at fresh t c is inside task of same set =
    let r : CellRole u of.place c = role u of.place of.instance c of.stands of.has_cell in
    let chunk : c.cycle / 64 < chunks_in u = cell-chunk u of.place c r in
    let sig : c.sig ≡ at.sig = sym (block-sig u c.sig (c.cycle / 64) chunk) ∙ ap (sig_at u) same ∙ block-sig u at.sig at.chunk inside.1 in
    let cycle : c.cycle / 64 ≡ at.chunk = sym (block-chunk u c.sig (c.cycle / 64) chunk) ∙ ap (chunk_at u) same ∙ block-chunk u at.sig at.chunk inside.1 in
    subst (IsWoken u at fresh) (sym (one-task u t of.place of.belongs))
    (subst (λ n. IsWoken u (record { sig = at.sig; chunk = n }) fresh (task_of u of.place)) cycle
    (subst (λ (s : Sig). IsWoken u (record { sig = s; chunk = c.cycle / 64 }) fresh (task_of u of.place)) sig (at-cell u fresh of.place c r set)))

-- what is woken is driven
own-driven : (d : Driver) (s : Sig) (fresh : ℕ) → wakes_own d s fresh ≡ true → is_driven d ≡ true
own-driven Input s fresh e = cc
own-driven (Driven kind pins) s fresh e = refl

flip_flop-driven : (d : Driver) → is_flip_flop d ≡ true → is_driven d ≡ true
flip_flop-driven Input e = cc
flip_flop-driven (Driven kind pins) e = refl

module _ (u : Unrolling) (at : InChunk) (fresh : ℕ) (inside : IsInside u at) where
  before-target : wakes_before u.circuit.drivers at.sig at.chunk fresh ≡ true → IsTaskAt u (record { sig = at.sig; chunk = at.chunk - 1 })
  before-target e =
      let flip_flop : is_flip_flop (driver_at u.circuit.drivers at.sig.0) ≡ true =
      (and_parts (is_flip_flop (driver_at u.circuit.drivers at.sig.0)) (ltb 0 at.chunk && is_set fresh 0) e).0 in
      record { signal = inside.0; early = omega (arith, inside.1); driven = flip_flop-driven (driver_at u.circuit.drivers at.sig.0) flip_flop }

  woken-target : (r : Sig) → Contains (woken_signals u.circuit.drivers at.sig fresh) r → IsTaskAt u (record { sig = r; chunk = at.chunk })
  woken-target r h =
      elim (Contains-append_cases (cond (wakes_own (driver_at u.circuit.drivers at.sig.0) at.sig fresh) (at.sig ∷ []) []) (other_readers u.circuit.drivers at.sig) r h) [
        | inl own ↦ elim (cases_Bool (wakes_own (driver_at u.circuit.drivers at.sig.0) at.sig fresh)) [
          | inl wakes ↦
              let among : Contains (at.sig ∷ []) r = subst (λ ss. Contains ss r) (cond-true (wakes_own (driver_at u.circuit.drivers at.sig.0) at.sig fresh) (at.sig ∷ []) [] wakes) own in
              elim (Contains-cases at.sig [] r among) [
                | inl same ↦ subst (λ (s : Sig). IsTaskAt u (record { sig = s; chunk = at.chunk })) same
                    (record { signal = inside.0; early = inside.1; driven = own-driven (driver_at u.circuit.drivers at.sig.0) at.sig fresh wakes })
                | inr none ↦ absurd (not_in_nil r none)
              ]
          | inr none ↦ absurd (not_in_nil r (subst (λ ss. Contains ss r) (cond-false (wakes_own (driver_at u.circuit.drivers at.sig.0) at.sig fresh) (at.sig ∷ []) [] none) own))
        ]
        | inr later ↦ let driven = reader-driven u.circuit.drivers at.sig r later in record { signal = driven.0; early = inside.1; driven = driven.1 }
      ]

pub woken_are_targets : (u : Unrolling) (at : InChunk) (fresh : ℕ) → IsProblem u → IsInside u at
    → (wakes_before u.circuit.drivers at.sig at.chunk fresh ≡ true → IsTaskAt u (record { sig = at.sig; chunk = at.chunk - 1 }))
    × All (λ r. IsTaskAt u (record { sig = r; chunk = at.chunk })) (woken_signals u.circuit.drivers at.sig fresh)
woken_are_targets u at fresh is inside = (
  before-target u at fresh inside,
  All-from_Contains (λ r. IsTaskAt u (record { sig = r; chunk = at.chunk })) (woken_signals u.circuit.drivers at.sig fresh) (woken-target u at fresh inside),
)

pub woken_are_tasks : (u : Unrolling) (at : InChunk) (fresh : ℕ) (t : Task) → IsProblem u → IsInside u at → IsWoken u at fresh t → IsTask u t
woken_are_tasks u at fresh t is inside woken =
    elim woken [
      | inl (wakes, e) ↦ let target = before-target u at fresh inside wakes in subst (IsTask u) (sym e) (driven-task u (at.chunk - 1) target.early at.sig target.signal target.driven)
      | inr (r, h, e) ↦ let target = woken-target u at fresh inside r h in subst (IsTask u) (sym e) (driven-task u at.chunk target.early r target.signal target.driven)
    ]
