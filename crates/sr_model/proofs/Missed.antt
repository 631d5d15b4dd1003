-- The rules miss what follows only from two gates together: n = NOT(a), o = OR(a, n) makes o 1 in every execution.
use Rattle.std.proofs.Common.{◌≡◌, ℕ, zero, suc, ◌+◌, ◌||◌, Bool, true, false, not, List, [], ◌∷◌, arith, inl, inr, subst, refl, ap, ◌∙◌, slice_index_or}
use Rattle.std.proofs.lemmas.Bool.{false≢true}
use Rattle.sr_model.specs.declared.gates.Kind.TheVariants.{Not, Or}
use Rattle.sr_model.specs.declared.cells.Sig.{Sig}
use Rattle.sr_model.specs.declared.cells.Cell.{Cell}
use Rattle.sr_model.specs.declared.cells.Lit.{Lit}
use Rattle.sr_model.specs.declared.cells.Place.{Place}
use Rattle.sr_model.specs.Netlist.{Input, Driven, Instance, Valuation, IsExecution, cell_at}
use Rattle.sr_model.specs.Closure.{Forces, Closure, IsClosed, passing, lit}
use Rattle.sr_model.specs.Worked.{sig, cell, missed, nothing}
use Rattle.sr_model.proofs.lemmas.Members.{not_in_nil, Contains-cases, Contains-here}
use Rattle.sr_model.proofs.FromNothing.{and_forces_nothing}
use Rattle.sr_model.proofs.KindLaws.{has_its_family}
use Rattle.sr_model.proofs.ClosureLaws.{least}
use Rattle.sr_model.proofs.lemmas.Instances.{stands, Stands, instance_of}

pub always : (v : Valuation) → IsExecution missed v → v (cell 2 0) ≡ true
always v runs =
    let n : v (cell 1 0) ≡ not (v (cell 0 0)) = runs (record { cycle = 0; target = sig 1 }) _ refl in
    let o : v (cell 2 0) ≡ (v (cell 0 0) || (v (cell 1 0) || false)) = runs (record { cycle = 0; target = sig 2 }) _ refl in
    o ∙ ap (λ b. v (cell 0 0) || (b || false)) n ∙ either (v (cell 0 0)) where
      either : (b : Bool) → (b || (not b || false)) ≡ true
      either true = refl
      either false = refl

-- cells of different signals
differ : (t s m n : ℕ) → (m ≡ n → ⊥) → cell_at t (sig m) ≡ cell_at s (sig n) → ⊥
differ t s m n apart e = apart (ap (λ c. c.sig.0) e)

none_for : (n : ℕ) (p : Place) (i : Instance) → p.target.0 ≡ n → Stands 1 (slice_index_or missed.drivers n Input) p i → (l : Lit) → Forces i (passing nothing) l → ⊥
none_for zero p i at s l f = let e : Input ≡ Driven s.kind s.pins = s.driver in cc
none_for (suc zero) p i at s l f =
    let e : Driven Not (sig 0 ∷ []) ≡ Driven s.kind s.pins = s.driver in
    let not_here : i ≡ instance_of Not (sig 0 ∷ []) p = cc (s.is, e) in
    let pin : Cell = cell_at p.cycle (sig 0) in
    let g : Forces (instance_of Not (sig 0 ∷ []) p) (passing nothing) l = subst (λ j. Forces j (passing nothing) l) not_here f in
    and_forces_nothing true false (instance_of Not (sig 0 ∷ []) p) (has_its_family (instance_of Not (sig 0 ∷ []) p) refl)
    (λ h. elim (Contains-cases pin [] (cell_at (p.cycle + 0) p.target) h) [
      | inl e ↦ let same : 0 ≡ p.target.0 = ap (λ c. c.sig.0) e in omega arith
      | inr h ↦ not_in_nil (cell_at (p.cycle + 0) p.target) h
    ]) pin (Contains-here pin []) l g
none_for (suc (suc zero)) p i at s l f =
    let pins : List Sig = sig 0 ∷ sig 1 ∷ [] in
    let e : Driven Or pins ≡ Driven s.kind s.pins = s.driver in
    let or_here : i ≡ instance_of Or pins p = cc (s.is, e) in
    let a : Cell = cell_at p.cycle (sig 0) in
    let b : Cell = cell_at p.cycle (sig 1) in
    let g : Forces (instance_of Or pins p) (passing nothing) l = subst (λ j. Forces j (passing nothing) l) or_here f in
    and_forces_nothing false false (instance_of Or pins p) (has_its_family (instance_of Or pins p) (omega arith, omega arith))
    (λ h. elim (Contains-cases a (b ∷ []) (cell_at (p.cycle + 0) p.target) h) [
      | inl e ↦ let same : 0 ≡ p.target.0 = ap (λ c. c.sig.0) e in omega arith
      | inr h ↦ elim (Contains-cases b [] (cell_at (p.cycle + 0) p.target) h) [
        | inl e ↦ let same : 1 ≡ p.target.0 = ap (λ c. c.sig.0) e in omega arith
        | inr h ↦ not_in_nil (cell_at (p.cycle + 0) p.target) h
      ]
    ]) a (Contains-here a (b ∷ [])) l g
none_for (suc (suc (suc n))) p i at s l f = let e : Input ≡ Driven s.kind s.pins = s.driver in cc

nothing_closed : IsClosed missed (passing nothing)
nothing_closed l (p, f) = absurd (none_for p.target.0 p f.instance refl (stands missed p f.instance f.stands) l f.forces)

pub never : Closure missed (passing nothing) (lit (cell 2 0) true) → ⊥
never h = false≢true (least missed (passing nothing) (passing nothing) nothing_closed (λ l given. given) (lit (cell 2 0) true) h)
