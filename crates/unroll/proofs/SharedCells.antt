-- Two instances of a task have no cell in common, unless its flip-flop drives itself.
use Rattle.std.proofs.Common.{◌≡◌, ◌+◌, true, false, arith, inl, inr, sym, ap, subst, ◌∙◌}
use Rattle.std.specs.List.{Contains}
use Rattle.std.proofs.lemmas.Bool.{and_from, true≢false}
use Rattle.sr_model.specs.declared.cells.Sig.{Sig}
use Rattle.sr_model.specs.declared.cells.Cell.{Cell}
use Rattle.sr_model.specs.declared.cells.Place.{Place}
use Rattle.sr_model.specs.Netlist.{delay}
use Rattle.netlist.specs.Wiring.{driver_at, is_flip_flop, reads}
use Rattle.unroll.specs.declared.problem.Task.{Task}
use Rattle.unroll.specs.Problem.{Unrolling}
use Rattle.unroll.specs.Tasks.{IsCellOf, CellRole, delay_of, drives_itself, target_of}
use Rattle.unroll.proofs.TaskCells.{role, delay-cases, pin-read}

module _ (u : Unrolling) (c : Cell) (a b : Place) (same : a.target ≡ b.target) (other : drives_itself u a.target ≡ false) (ra : CellRole u a c) (rb : CellRole u b c) where
  delay-is : (p : Place) (r : CellRole u p c) → delay_of (driver_at u.circuit.drivers p.target.0) ≡ delay r.kind
  delay-is p r = ap delay_of r.driver

  one-delay : delay ra.kind ≡ delay rb.kind
  one-delay = sym (delay-is a ra) ∙ ap (λ (s : Sig). delay_of (driver_at u.circuit.drivers s.0)) same ∙ delay-is b rb

  -- what drives itself is no flip-flop
  no-delay : (pin : Sig) → Contains rb.pins pin → pin ≡ b.target → delay rb.kind ≡ 0
  no-delay pin h is =
      elim (delay-cases rb.kind rb.pins) [
        | inr (gate, none) ↦ none
        | inl (flip_flop, one) ↦
            let itself : drives_itself u b.target ≡ true =
            and_from (is_flip_flop (driver_at u.circuit.drivers b.target.0)) (reads (driver_at u.circuit.drivers b.target.0) b.target) (ap is_flip_flop rb.driver ∙ flip_flop)
            (pin-read (driver_at u.circuit.drivers b.target.0) rb.kind rb.pins b.target rb.driver (subst (Contains rb.pins) is h)) in
            absurd (true≢false (sym itself ∙ ap (drives_itself u) (sym same) ∙ other))
      ]

module _ (u : Unrolling) (c : Cell) (a b : Place) (same : a.target ≡ b.target) (other : drives_itself u a.target ≡ false) (ra : CellRole u a c) (rb : CellRole u b c) where
  same-back : drives_itself u b.target ≡ false
  same-back = ap (drives_itself u) (sym same) ∙ other

  one-cycle : a.cycle ≡ b.cycle
  one-cycle =
      elim ra.which [
        | inl e ↦ elim rb.which [
          | inl f ↦
              let ea : c.cycle ≡ a.cycle + delay ra.kind = ap (λ (x : Cell). x.cycle) e in
              let eb : c.cycle ≡ b.cycle + delay rb.kind = ap (λ (x : Cell). x.cycle) f in
              let d : delay ra.kind ≡ delay rb.kind = one-delay u c a b same other ra rb in
              omega (arith, ea, eb, d)
          | inr (pin, h, f) ↦
              let ea : c.cycle ≡ a.cycle + delay ra.kind = ap (λ (x : Cell). x.cycle) e in
              let eb : c.cycle ≡ b.cycle = ap (λ (x : Cell). x.cycle) f in
              let d : delay ra.kind ≡ delay rb.kind = one-delay u c a b same other ra rb in
              let none : delay rb.kind ≡ 0 = no-delay u c a b same other ra rb pin h (sym (ap (λ (x : Cell). x.sig) f) ∙ ap (λ (x : Cell). x.sig) e ∙ same) in
              omega (arith, ea, eb, d, none)
        ]
        | inr (pin, h, e) ↦ elim rb.which [
          | inl f ↦
              let ea : c.cycle ≡ a.cycle = ap (λ (x : Cell). x.cycle) e in
              let eb : c.cycle ≡ b.cycle + delay rb.kind = ap (λ (x : Cell). x.cycle) f in
              let d : delay rb.kind ≡ delay ra.kind = one-delay u c b a (sym same) same-back rb ra in
              let none : delay ra.kind ≡ 0 = no-delay u c b a (sym same) same-back rb ra pin h (sym (ap (λ (x : Cell). x.sig) e) ∙ ap (λ (x : Cell). x.sig) f ∙ sym same) in
              omega (arith, ea, eb, d, none)
          | inr (pin_b, h_b, f) ↦ sym (ap (λ (x : Cell). x.cycle) e) ∙ ap (λ (x : Cell). x.cycle) f
        ]
      ]

  pub one-place : a ≡ b
  one-place = ap (λ n. record { cycle = n; target = a.target }) one-cycle ∙ ap (λ s. record { cycle = b.cycle; target = s }) same

pub share_no_cell : (u : Unrolling) (t : Task) (c : Cell) → drives_itself u (target_of u t) ≡ false → (one other : IsCellOf u t c) → one.place ≡ other.place
share_no_cell u t c apart one other =
    one-place u c one.place other.place (sym one.belongs.0 ∙ other.belongs.0) (ap (drives_itself u) (sym one.belongs.0) ∙ apart)
    (role u one.place one.instance c one.stands one.has_cell) (role u other.place other.instance c other.stands other.has_cell)
