-- What the instance at a place is.
use Rattle.std.proofs.Common.{◌≡◌, ℕ, ◌+◌, ◌<◌, List, map, Some, None, ltb, inl, inr, sym, refl, ap, ◌∙◌, slice_index_or}
use Rattle.std.proofs.lemmas.Bool.{cases_Bool, cond-true, cond-false, ltb-true, lt-ltb}
use Rattle.sr_model.specs.declared.gates.Kind.{Kind}
use Rattle.sr_model.specs.declared.cells.Sig.{Sig}
use Rattle.sr_model.specs.declared.cells.Place.{Place}
use Rattle.sr_model.specs.Netlist.{Driver, Input, Driven, Unrolled, Instance, instance_at, instance_from, cell_at, delay}

-- the instance of a gate or flip-flop in a cycle
abbrev pub instance_of : Kind → List Sig → Place → Instance
instance_of kind pins p = record { kind = kind; target = cell_at (p.cycle + delay kind) p.target; pins = map (cell_at p.cycle) pins }

pub record Stands (cycles : ℕ) (d : Driver) (p : Place) (i : Instance) : Type 0 where
  pub kind : Kind
  pub pins : List Sig
  pub driver : d ≡ Driven kind pins
  pub in_time : p.cycle + delay kind < cycles
  pub is : i ≡ instance_of kind pins p

same_some : {X : Type 0} (x y : X) → Some x ≡ Some y → x ≡ y
same_some x y e = cc

pub stands_from : (cycles : ℕ) (d : Driver) (p : Place) (i : Instance) → instance_from cycles d p ≡ Some i → Stands cycles d p i
stands_from cycles Input p i e = cc
stands_from cycles (Driven kind pins) p i e =
    let later : ℕ = p.cycle + delay kind in
    elim (cases_Bool (ltb later cycles)) [
      | inl early ↦ record {
        kind = kind;
        pins = pins;
        driver = refl;
        in_time = ltb-true later cycles early;
        is = same_some i (instance_of kind pins p) (sym e ∙ cond-true (ltb later cycles) (Some (instance_of kind pins p)) None early);
      }
      | inr late ↦ let none : None ≡ Some i = sym (cond-false (ltb later cycles) (Some (instance_of kind pins p)) None late) ∙ e in cc
    ]

pub stands : (u : Unrolled) (p : Place) (i : Instance) → instance_at u p ≡ Some i → Stands u.cycles (slice_index_or u.drivers p.target.0 Input) p i
stands u p i e = stands_from u.cycles (slice_index_or u.drivers p.target.0 Input) p i e

pub stands-at : (u : Unrolled) (p : Place) (kind : Kind) (pins : List Sig) → slice_index_or u.drivers p.target.0 Input ≡ Driven kind pins
    → p.cycle + delay kind < u.cycles → instance_at u p ≡ Some (instance_of kind pins p)
stands-at u p kind pins e h =
    ap (λ d. instance_from u.cycles d p) e ∙ cond-true (ltb (p.cycle + delay kind) u.cycles) (Some (instance_of kind pins p)) None (lt-ltb (p.cycle + delay kind) u.cycles h)
