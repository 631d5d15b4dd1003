-- The test of a cell finds exactly the cells of the instances of a task.
use Rattle.std.proofs.Common.{ℕ, ◌≡◌, ◌+◌, ◌-◌, ◌/◌, ◌<◌, ◌≤◌, ◌↔◌, ◌&&◌, true, eqb, leb, ltb, map, arith, inl, inr, refl, sym, ap, ◌∙◌, subst}
use Rattle.std.specs.List.{Contains}
use Rattle.std.proofs.lemmas.Bool.{true≢false, and_parts, and_from, or_cases, or_left, or_right, ltb-true, lt-ltb, leb-true, le-leb, eqb-true, eq-eqb}
use Rattle.sr_model.specs.declared.cells.Sig.{Sig}
use Rattle.sr_model.specs.declared.cells.Cell.{Cell}
use Rattle.sr_model.specs.declared.cells.Place.{Place}
use Rattle.sr_model.specs.Netlist.{Driver, Input, Driven, cell_at, cells_of, delay}
use Rattle.sr_model.proofs.lemmas.Instances.{instance_of, stands-at}
use Rattle.sr_model.proofs.lemmas.Members.{Contains-here, Contains-there, Contains-map, list_any-found}
use Rattle.netlist.specs.Wiring.{driver_at, is_driven, reads}
use Rattle.unroll.specs.declared.problem.Task.{Task}
use Rattle.unroll.specs.Problem.{Unrolling, IsProblem, unrolled}
use Rattle.unroll.specs.Tasks.{CellRole, IsTask, IsCellOf, target_of, chunk_of, delay_of, is_pin_cell, is_target_cell, has_cell}
use Rattle.unroll.proofs.TaskCells.{role, pin-read, driven-by}

module _ (u : Unrolling) (t : Task) (c : Cell) where
  -- a pin's cell
  from-pin : is_pin_cell u (target_of u t) (chunk_of u t) c ≡ true → IsCellOf u t c
  from-pin e =
      let first : ((reads (driver_at u.circuit.drivers (target_of u t).0) c.sig && eqb (c.cycle / 64) (chunk_of u t)) ≡ true)
      × (ltb (c.cycle + delay_of (driver_at u.circuit.drivers (target_of u t).0)) u.cycles ≡ true) = and_parts _ _ e in
      let second : (reads (driver_at u.circuit.drivers (target_of u t).0) c.sig ≡ true) × (eqb (c.cycle / 64) (chunk_of u t) ≡ true) = and_parts _ _ first.0 in
      with-driver (driver_at u.circuit.drivers (target_of u t).0) refl second.0 (eqb-true (c.cycle / 64) (chunk_of u t) second.1)
      (ltb-true (c.cycle + delay_of (driver_at u.circuit.drivers (target_of u t).0)) u.cycles first.1)
    where
      with-driver : (d : Driver) → driver_at u.circuit.drivers (target_of u t).0 ≡ d → reads d c.sig ≡ true → c.cycle / 64 ≡ chunk_of u t → c.cycle + delay_of d < u.cycles → IsCellOf u t c
      with-driver Input e has chunk early = absurd (true≢false (sym has))
      with-driver (Driven kind pins) e has chunk early =
          let p : Place = record { cycle = c.cycle; target = target_of u t } in
          let found : (pin : Sig) × Contains pins pin × (eqb pin.0 c.sig.0 ≡ true) = list_any-found (λ pin. eqb pin.0 c.sig.0) pins has in
          let same : found.0 ≡ c.sig = ap (λ n. record { 0 = n }) (eqb-true found.0.0 c.sig.0 found.2) in
          record {
            place = p;
            belongs = (refl, sym chunk);
            instance = instance_of kind pins p;
            stands = stands-at (unrolled u) p kind pins e early;
            has_cell = subst (λ (s : Sig). Contains (cells_of (instance_of kind pins p)) (cell_at c.cycle s)) same
                (Contains-there (cell_at (c.cycle + delay kind) (target_of u t)) (map (cell_at c.cycle) pins) (cell_at c.cycle found.0) (Contains-map (cell_at c.cycle) pins found.0 found.1));
          }

  -- the target's cell
  from-target : is_target_cell u (target_of u t) (chunk_of u t) c ≡ true → IsCellOf u t c
  from-target e =
      let first : _ × (ltb c.cycle u.cycles ≡ true) = and_parts _ _ e in
      let second : _ × (eqb ((c.cycle - delay_of (driver_at u.circuit.drivers (target_of u t).0)) / 64) (chunk_of u t) ≡ true) = and_parts _ _ first.0 in
      let third : _ × (leb (delay_of (driver_at u.circuit.drivers (target_of u t).0)) c.cycle ≡ true) = and_parts _ _ second.0 in
      let fourth : (is_driven (driver_at u.circuit.drivers (target_of u t).0) ≡ true) × (eqb c.sig.0 (target_of u t).0 ≡ true) = and_parts _ _ third.0 in
      with-driver (driver_at u.circuit.drivers (target_of u t).0) refl fourth.0 (ap (λ n. record { 0 = n }) (eqb-true c.sig.0 (target_of u t).0 fourth.1))
      (leb-true (delay_of (driver_at u.circuit.drivers (target_of u t).0)) c.cycle third.1)
      (eqb-true ((c.cycle - delay_of (driver_at u.circuit.drivers (target_of u t).0)) / 64) (chunk_of u t) second.1) (ltb-true c.cycle u.cycles first.1)
    where
      with-driver : (d : Driver) → driver_at u.circuit.drivers (target_of u t).0 ≡ d → is_driven d ≡ true → c.sig ≡ target_of u t → delay_of d ≤ c.cycle → (c.cycle - delay_of d) / 64 ≡ chunk_of u t
          → c.cycle < u.cycles → IsCellOf u t c
      with-driver Input e driven at late chunk early = absurd (true≢false (sym driven))
      with-driver (Driven kind pins) e driven at late chunk early =
          let p : Place = record { cycle = c.cycle - delay kind; target = target_of u t } in
          let cycle : c.cycle - delay kind + delay kind ≡ c.cycle = omega (arith, late) in
          let is : cell_at (c.cycle - delay kind + delay kind) (target_of u t) ≡ c = ap (λ n. cell_at n (target_of u t)) cycle ∙ ap (cell_at c.cycle) (sym at) in
          record {
            place = p;
            belongs = (refl, sym chunk);
            instance = instance_of kind pins p;
            stands = stands-at (unrolled u) p kind pins e (subst (λ n. n < u.cycles) (sym cycle) early);
            has_cell = subst (Contains (cells_of (instance_of kind pins p))) is
                (Contains-here (cell_at (c.cycle - delay kind + delay kind) (target_of u t)) (map (cell_at (c.cycle - delay kind)) pins));
          }

  -- a cell of an instance is one of the two
  tested : IsCellOf u t c → has_cell u t c ≡ true
  tested of = at-place of.place of.belongs.0 of.belongs.1 (role u of.place of.instance c of.stands of.has_cell) where
    at-place : (p : Place) → target_of u t ≡ p.target → chunk_of u t ≡ p.cycle / 64 → CellRole u p c → has_cell u t c ≡ true
    at-place p at chunk r =
        let driver_is : driver_at u.circuit.drivers (target_of u t).0 ≡ Driven r.kind r.pins = ap (λ (s : Sig). driver_at u.circuit.drivers s.0) at ∙ r.driver in
        let delay_is : delay_of (driver_at u.circuit.drivers (target_of u t).0) ≡ delay r.kind = ap delay_of driver_is in
        elim r.which [
          | inl e ↦
              let cycle : c.cycle ≡ p.cycle + delay r.kind = ap (λ (x : Cell). x.cycle) e in
              let sig : c.sig.0 ≡ (target_of u t).0 = ap (λ (x : Cell). x.sig.0) e ∙ ap (λ (s : Sig). s.0) (sym at) in
              let back : (c.cycle - delay_of (driver_at u.circuit.drivers (target_of u t).0)) / 64 ≡ chunk_of u t =
              ap (λ n. (c.cycle - n) / 64) delay_is ∙ ap (λ n. n / 64) (less c.cycle p.cycle (delay r.kind) cycle) ∙ sym chunk in
              or_right (is_pin_cell u (target_of u t) (chunk_of u t) c) (is_target_cell u (target_of u t) (chunk_of u t) c)
              (and_from _ _ (and_from _ _ (and_from _ _ (and_from _ _ (driven-by (driver_at u.circuit.drivers (target_of u t).0) r.kind r.pins driver_is) (eq-eqb c.sig.0 (target_of u t).0 sig))
              (le-leb (delay_of (driver_at u.circuit.drivers (target_of u t).0)) c.cycle (omega (arith, cycle, delay_is)))) (eq-eqb _ (chunk_of u t) back))
              (lt-ltb c.cycle u.cycles (omega (arith, cycle, r.in_time))))
          | inr (pin, h, e) ↦
              let cycle : c.cycle ≡ p.cycle = ap (λ (x : Cell). x.cycle) e in
              let sig : pin ≡ c.sig = sym (ap (λ (x : Cell). x.sig) e) in
              or_left (is_pin_cell u (target_of u t) (chunk_of u t) c) (is_target_cell u (target_of u t) (chunk_of u t) c)
              (and_from _ _ (and_from _ _
              (pin-read (driver_at u.circuit.drivers (target_of u t).0) r.kind r.pins c.sig driver_is (subst (Contains r.pins) sig h))
              (eq-eqb (c.cycle / 64) (chunk_of u t) (ap (λ n. n / 64) cycle ∙ sym chunk)))
              (lt-ltb (c.cycle + delay_of (driver_at u.circuit.drivers (target_of u t).0)) u.cycles (omega (arith, cycle, delay_is, r.in_time))))
        ]
      where
        less : (m n k : ℕ) → m ≡ n + k → m - k ≡ n
        less m n k e = omega (arith, e)

  found : has_cell u t c ≡ true → IsCellOf u t c
  found e =
      elim (or_cases (is_pin_cell u (target_of u t) (chunk_of u t) c) (is_target_cell u (target_of u t) (chunk_of u t) c) e) [
        | inl pin ↦ from-pin pin
        | inr target ↦ from-target target
      ]

pub are_its_cells : (u : Unrolling) (t : Task) (c : Cell) → IsProblem u → IsTask u t → (has_cell u t c ≡ true) ↔ IsCellOf u t c
are_its_cells u t c is task = (found u t c, tested u t c)
