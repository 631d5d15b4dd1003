-- The blocks that have all cells of a task with few pins.
use Rattle.std.proofs.Common.{ℕ, ◌≡◌, ◌<◌, ◌+◌, ◌/◌, ◌&&◌, ◌∷◌, [], true, false, eqb, ltb, List, map, arith, inl, inr, sym, ap, subst, ◌∙◌}
use Rattle.std.specs.List.{All, Contains}
use Rattle.std.proofs.lemmas.Bool.{cases_Bool, cases_lt, and_from, and_parts, eqb-true, lt-ltb, ltb-true, or_cases, true≢false}
use Rattle.std.proofs.lemmas.List.Elements.{All-cons, All-nil}
use Rattle.sr_model.specs.declared.gates.Kind.{Kind}
use Rattle.sr_model.specs.declared.cells.Sig.{Sig}
use Rattle.sr_model.specs.declared.cells.Cell.{Cell}
use Rattle.sr_model.specs.Gate.{is_flip_flop_kind}
use Rattle.sr_model.specs.Netlist.{Driven}
use Rattle.sr_model.proofs.lemmas.Members.{Contains-cases, Contains-here, Contains-map, Contains-there, not_in_nil}
use Rattle.netlist.specs.Wiring.{driver_at, is_flip_flop, pins_of, reads}
use Rattle.unroll.specs.declared.problem.InChunk.{InChunk}
use Rattle.unroll.specs.declared.records.Shape.{Shape}
use Rattle.unroll.specs.Records.{HasShape}
use Rattle.unroll.specs.Problem.{Unrolling, IsInside, IsProblem, block_at, block_in, block_of, chunks_in}
use Rattle.unroll.specs.Tasks.{CellRole, IsCellOf, IsTaskAt, drives_itself, goes_on_from, task_in}
use Rattle.unroll.proofs.lemmas.Laws.{block-sig, block-chunk, role}
use Rattle.unroll.proofs.lemmas.Tasks.{cell-chunk, delay-cases, later-chunk, pin-read, pins-within}
use Rattle.plain_close.specs.declared.worklist.Worklist.{Worklist}
use Rattle.plain_close.specs.Worklist.{IsWorklistOf}

module _ (u : Unrolling) (task : InChunk) (early : task.chunk < chunks_in u) (kind : Kind) (pins : List Sig) (driver : driver_at u.circuit.drivers task.sig.0 ≡ Driven kind pins) (places : List InChunk)
    (here : Contains places task) (pins_here : (pin : Sig) → Contains pins pin → Contains places (record { sig = pin; chunk = task.chunk }))
    (next_here : is_flip_flop_kind kind ≡ true → task.chunk + 1 < chunks_in u → Contains places (record { sig = task.sig; chunk = task.chunk + 1 })) where
  at-place : (s : Sig) (chunk : ℕ) (c : Cell) → c.sig ≡ s → c.cycle / 64 ≡ chunk → Contains places (record { sig = s; chunk = chunk }) → Contains (map (block_in u) places) (block_of u c)
  at-place s chunk c sig cycle listed =
      subst (Contains (map (block_in u) places)) (ap (λ (x : Sig). block_at u x chunk) (sym sig) ∙ ap (block_at u c.sig) (sym cycle)) (Contains-map (block_in u) places (record { sig = s; chunk = chunk }) listed)

  -- the places have all cells of the task
  pub has-cells : (c : Cell) → IsCellOf u (task_in u task) c → Contains (map (block_in u) places) (block_of u c)
  has-cells c of =
      elim r.which [
        | inl e ↦ elim (delay-cases r.kind r.pins) [
          | inl (flip_flop, one) ↦
              let cycle : c.cycle ≡ of.place.cycle + 1 = ap (λ (x : Cell). x.cycle) e ∙ ap (λ n. of.place.cycle + n) one in
              elim (later-chunk of.place.cycle) [
                | inl same ↦ at-place task.sig task.chunk c (ap (λ (x : Cell). x.sig) e ∙ target) (ap (λ n. n / 64) cycle ∙ same ∙ chunk) here
                | inr next ↦
                    let late : c.cycle / 64 ≡ task.chunk + 1 = ap (λ n. n / 64) cycle ∙ next ∙ ap (λ n. n + 1) chunk in
                    at-place task.sig (task.chunk + 1) c (ap (λ (x : Cell). x.sig) e ∙ target) late
                    (next_here (ap is_flip_flop (sym driven) ∙ flip_flop) (subst (λ n. n < chunks_in u) late (cell-chunk u of.place c r)))
              ]
          | inr (gate, none) ↦
              at-place task.sig task.chunk c (ap (λ (x : Cell). x.sig) e ∙ target) (ap (λ (x : Cell). x.cycle / 64) e ∙ ap (λ n. (of.place.cycle + n) / 64) none ∙ plus-zero of.place.cycle ∙ chunk) here
        ]
        | inr (pin, h, e) ↦
            at-place pin task.chunk c (ap (λ (x : Cell). x.sig) e) (ap (λ (x : Cell). x.cycle / 64) e ∙ chunk) (pins_here pin (subst (λ ps. Contains ps pin) same_pins h))
      ]
    where
      r : CellRole u of.place c
      r = role u of.place of.instance c of.stands of.has_cell

      target : of.place.target ≡ task.sig
      target = sym of.belongs.0 ∙ block-sig u task.sig task.chunk early

      chunk : of.place.cycle / 64 ≡ task.chunk
      chunk = sym of.belongs.1 ∙ block-chunk u task.sig task.chunk early

      driven : Driven r.kind r.pins ≡ Driven kind pins
      driven = sym r.driver ∙ ap (λ (s : Sig). driver_at u.circuit.drivers s.0) target ∙ driver

      same_pins : r.pins ≡ pins
      same_pins = ap pins_of driven

      plus-zero : (n : ℕ) → (n + 0) / 64 ≡ n / 64
      plus-zero n = ap (λ m. m / 64) (zero-plus n) where
        zero-plus : (k : ℕ) → k + 0 ≡ k
        zero-plus k = omega arith

-- the block of a pin is there
pub pin-inside : (u : Unrolling) → IsProblem u → (task : InChunk) → IsTaskAt u task → (kind : Kind) (pins : List Sig) → driver_at u.circuit.drivers task.sig.0 ≡ Driven kind pins → (pin : Sig) → Contains pins pin
    → IsInside u (record { sig = pin; chunk = task.chunk })
pin-inside u is task at kind pins driver pin h = (pins-within u is task.sig.0 kind pins driver pin h, at.early)

-- two places that are there, and three
pub two-inside : (u : Unrolling) (a b : InChunk) → IsInside u a → IsInside u b → All (IsInside u) (a ∷ b ∷ [])
two-inside u a b first second = All-cons (IsInside u) a (b ∷ []) first (All-cons (IsInside u) b [] second (All-nil (IsInside u)))

pub three-inside : (u : Unrolling) (a b c : InChunk) → IsInside u a → IsInside u b → IsInside u c → All (IsInside u) (a ∷ b ∷ c ∷ [])
three-inside u a b c first second third = All-cons (IsInside u) a (b ∷ c ∷ []) first (two-inside u b c second third)

abbrev pin_at : InChunk → Sig → InChunk
pin_at task pin = record { sig = pin; chunk = task.chunk }

abbrev next_of : InChunk → InChunk
next_of task = record { sig = task.sig; chunk = task.chunk + 1 }

module _ (u : Unrolling) (task : InChunk) (early : task.chunk < chunks_in u) (kind : Kind) (x : Sig) where
  -- the one pin of a gate
  pub one-pin-cells : driver_at u.circuit.drivers task.sig.0 ≡ Driven kind (x ∷ []) → is_flip_flop_kind kind ≡ false → (c : Cell) → IsCellOf u (task_in u task) c
      → Contains (map (block_in u) (task ∷ pin_at task x ∷ [])) (block_of u c)
  one-pin-cells driver gate =
      has-cells u task early kind (x ∷ []) driver (task ∷ pin_at task x ∷ []) (Contains-here task (pin_at task x ∷ [])) one (λ flip_flop late. absurd (true≢false (sym flip_flop ∙ gate)))
    where
      one : (pin : Sig) → Contains (x ∷ []) pin → Contains (task ∷ pin_at task x ∷ []) (pin_at task pin)
      one pin h = Contains-there task (pin_at task x ∷ []) (pin_at task pin) (Contains-map (pin_at task) (x ∷ []) pin h)

  -- the two pins
  pub two-pin-cells : (y : Sig) → driver_at u.circuit.drivers task.sig.0 ≡ Driven kind (x ∷ y ∷ []) → is_flip_flop_kind kind ≡ false → (c : Cell) → IsCellOf u (task_in u task) c
      → Contains (map (block_in u) (task ∷ pin_at task x ∷ pin_at task y ∷ [])) (block_of u c)
  two-pin-cells y driver gate =
      has-cells u task early kind (x ∷ y ∷ []) driver (task ∷ pin_at task x ∷ pin_at task y ∷ []) (Contains-here task (pin_at task x ∷ pin_at task y ∷ [])) two (λ flip_flop late. absurd (true≢false (sym flip_flop ∙ gate)))
    where
      two : (pin : Sig) → Contains (x ∷ y ∷ []) pin → Contains (task ∷ pin_at task x ∷ pin_at task y ∷ []) (pin_at task pin)
      two pin h = Contains-there task (pin_at task x ∷ pin_at task y ∷ []) (pin_at task pin) (Contains-map (pin_at task) (x ∷ y ∷ []) pin h)

  -- the pin of a flip-flop, and its own next block
  pub flip-flop-cells : driver_at u.circuit.drivers task.sig.0 ≡ Driven kind (x ∷ []) → (c : Cell) → IsCellOf u (task_in u task) c
      → Contains (map (block_in u) (task ∷ pin_at task x ∷ next_of task ∷ [])) (block_of u c)
  flip-flop-cells driver =
      has-cells u task early kind (x ∷ []) driver (task ∷ pin_at task x ∷ next_of task ∷ []) (Contains-here task (pin_at task x ∷ next_of task ∷ [])) one
      (λ flip_flop late. Contains-there task (pin_at task x ∷ next_of task ∷ []) (next_of task) (Contains-there (pin_at task x) (next_of task ∷ []) (next_of task) (Contains-here (next_of task) [])))
    where
      one : (pin : Sig) → Contains (x ∷ []) pin → Contains (task ∷ pin_at task x ∷ next_of task ∷ []) (pin_at task pin)
      one pin h =
          Contains-there task (pin_at task x ∷ next_of task ∷ []) (pin_at task pin)
          (elim (Contains-cases x [] pin h) [
            | inl e ↦ subst (λ s. Contains (pin_at task x ∷ next_of task ∷ []) (pin_at task s)) e (Contains-here (pin_at task x) (next_of task ∷ []))
            | inr none ↦ absurd (not_in_nil pin none)
          ])

  -- in the last chunk there is no next one
  pub last-flip-flop-cells : driver_at u.circuit.drivers task.sig.0 ≡ Driven kind (x ∷ []) → task.chunk + 1 ≡ chunks_in u → (c : Cell) → IsCellOf u (task_in u task) c
      → Contains (map (block_in u) (task ∷ pin_at task x ∷ [])) (block_of u c)
  last-flip-flop-cells driver last =
      has-cells u task early kind (x ∷ []) driver (task ∷ pin_at task x ∷ []) (Contains-here task (pin_at task x ∷ [])) one (λ flip_flop late. absurd (omega (arith, late, last)))
    where
      one : (pin : Sig) → Contains (x ∷ []) pin → Contains (task ∷ pin_at task x ∷ []) (pin_at task pin)
      one pin h = Contains-there task (pin_at task x ∷ []) (pin_at task pin) (Contains-map (pin_at task) (x ∷ []) pin h)

-- a flip-flop that does not go on is in the last chunk
pub is-last : (u : Unrolling) (task : InChunk) (kind : Kind) (pins : List Sig) → task.chunk < chunks_in u → driver_at u.circuit.drivers task.sig.0 ≡ Driven kind pins → is_flip_flop_kind kind ≡ true
    → goes_on_from u task.sig task.chunk ≡ false → task.chunk + 1 ≡ chunks_in u
is-last u task kind pins early driver flip_flop stays =
    elim (cases_lt (task.chunk + 1) (chunks_in u)) [
      | inl late ↦ absurd (true≢false (sym (and_from (is_flip_flop (driver_at u.circuit.drivers task.sig.0)) (ltb (task.chunk + 1) (chunks_in u)) (ap is_flip_flop driver ∙ flip_flop) (lt-ltb (task.chunk + 1) (chunks_in u) late)) ∙ stays))
      | inr past ↦ omega (arith, past, early)
    ]

-- and one that does has a next one
pub is-next : (u : Unrolling) (task : InChunk) → goes_on_from u task.sig task.chunk ≡ true → task.chunk + 1 < chunks_in u
is-next u task goes = ltb-true (task.chunk + 1) (chunks_in u) (and_parts (is_flip_flop (driver_at u.circuit.drivers task.sig.0)) (ltb (task.chunk + 1) (chunks_in u)) goes).1

-- only a flip-flop with its own pin drives itself
pub other-drives : (u : Unrolling) (s : Sig) (kind : Kind) (pins : List Sig) → driver_at u.circuit.drivers s.0 ≡ Driven kind pins → is_flip_flop_kind kind ≡ false → drives_itself u s ≡ false
other-drives u s kind pins driver gate = ap (λ a. a && reads (driver_at u.circuit.drivers s.0) s) (ap is_flip_flop driver ∙ gate)

pub own-drives : (u : Unrolling) (s : Sig) (kind : Kind) → driver_at u.circuit.drivers s.0 ≡ Driven kind (s ∷ []) → is_flip_flop_kind kind ≡ true → drives_itself u s ≡ true
own-drives u s kind driver flip_flop =
    and_from (is_flip_flop (driver_at u.circuit.drivers s.0)) (reads (driver_at u.circuit.drivers s.0) s) (ap is_flip_flop driver ∙ flip_flop)
    (pin-read (driver_at u.circuit.drivers s.0) kind (s ∷ []) s driver (Contains-here s []))

pub apart-drives : (u : Unrolling) (s pin : Sig) (kind : Kind) → driver_at u.circuit.drivers s.0 ≡ Driven kind (pin ∷ []) → (pin ≡ s → ⊥) → drives_itself u s ≡ false
apart-drives u s pin kind driver apart =
    elim (cases_Bool (drives_itself u s)) [
      | inl drives ↦ absurd (apart (read-pin (subst (λ d. reads d s ≡ true) driver (and_parts (is_flip_flop (driver_at u.circuit.drivers s.0)) (reads (driver_at u.circuit.drivers s.0) s) drives).1)))
      | inr apart_from ↦ apart_from
    ]
  where
    read-pin : reads (Driven kind (pin ∷ [])) s ≡ true → pin ≡ s
    read-pin h = elim (or_cases (eqb pin.0 s.0) false h) [
      | inl same ↦ ap (λ n. record { 0 = n }) (eqb-true pin.0 s.0 same)
      | inr never ↦ absurd (true≢false (sym never))
    ]

-- the shape that a record tells
pub shape-of : (u : Unrolling) (q : Worklist) → IsWorklistOf u q → (s x y : Sig) (told wanted : Shape) → told ≡ wanted → HasShape told (driver_at q.records.now s.0) s x y
    → HasShape wanted (driver_at u.circuit.drivers s.0) s x y
shape-of u q of s x y told wanted is shape = subst (λ w. HasShape w (driver_at u.circuit.drivers s.0) s x y) is (subst (λ ds. HasShape told (driver_at ds s.0) s x y) of.records shape)
