-- What is forced where nothing is known: the target of a parity gate each of whose signals stands an even number of times.
use Rattle.std.proofs.Common.{◌≡◌, ℕ, ◌+◌, ◌≤◌, Bool, true, false, List, [], ◌∷◌, length, map, arith, inl, inr, sym, subst, refl, ◌∙◌}
use Rattle.std.specs.List.{Contains}
use Rattle.std.proofs.lemmas.Bool.{true≢false, false≢true, cases_Bool}
use Rattle.std.proofs.lemmas.List.{length-map}
use Rattle.sr_model.specs.declared.gates.Family.{Family}
use Rattle.sr_model.specs.declared.gates.Family.TheVariants.{AndLike, Parity}
use Rattle.sr_model.specs.declared.gates.Kind.{Kind}
use Rattle.sr_model.specs.declared.cells.Sig.{Sig}
use Rattle.sr_model.specs.declared.cells.Cell.{Cell}
use Rattle.sr_model.specs.declared.cells.Lit.{Lit}
use Rattle.sr_model.specs.declared.cells.Place.{Place}
use Rattle.sr_model.specs.AndLike.{IsAndLike}
use Rattle.sr_model.specs.Gate.{family_of, IsPinCount}
use Rattle.sr_model.specs.Netlist.{cell_eq, Instance, cells_of, cell_at, delay}
use Rattle.sr_model.specs.KindLaws.{IsOfFamily}
use Rattle.sr_model.specs.Closure.{Forces, passing, lit}
use Rattle.sr_model.specs.Worked.{nothing}
use Rattle.sr_model.specs.XorLike.{is_odd, IsXorLike}
use Rattle.sr_model.proofs.lemmas.Instances.{instance_of}
use Rattle.sr_model.proofs.lemmas.Members.{Contains-cases, Contains-here}
use Rattle.sr_model.proofs.Rows.{cell_cases, cell_eq-swap}
use Rattle.sr_model.proofs.AndLike.{bit_cases, target_t, target_other, pin_p, pin_other}
use Rattle.sr_model.proofs.OddCells.{target_odd, pin_odd}
use Rattle.sr_model.proofs.OddPins.{AllEven, IsApartFrom, all_even-from, all_even-cells}
use Rattle.sr_model.specs.RuleLaws.{XorForces}
use Rattle.sr_model.proofs.XorLike.{is_odd-member, xor_forces}
use Rattle.sr_model.proofs.XorChoice.{xor_lone-exact, no_others}
use Rattle.sr_model.proofs.KindLaws.{has_its_family, some_pins}

-- an and-like gate with a pin forces nothing from nothing
pub and_forces_nothing : (p t : Bool) (i : Instance) → IsAndLike p t i → (Contains i.pins i.target → ⊥) → (c : Cell) → Contains i.pins c → (l : Lit) → Forces i (passing nothing) l → ⊥
and_forces_nothing p t i and_like apart c has_pin l f =
    elim (Contains-cases i.target i.pins l.cell f.on_cells) [
      | inl e ↦
          let g : Forces i (passing nothing) (lit i.target l.bit) = subst (λ d. Forces i (passing nothing) (lit d l.bit)) (sym e) f in
          elim (bit_cases l.bit t) [
            | inl b ↦ false≢true (target_t p t i and_like nothing apart (subst (λ b. Forces i (passing nothing) (lit i.target b)) b g) refl c has_pin)
            | inr b ↦ false≢true (target_other p t i and_like nothing apart (subst (λ b. Forces i (passing nothing) (lit i.target b)) b g) refl).2
          ]
      | inr h ↦
          elim (bit_cases l.bit p) [
            | inl b ↦ false≢true (pin_p p t i and_like nothing apart l.cell h (subst (λ b. Forces i (passing nothing) (lit l.cell b)) b f) refl)
            | inr b ↦ false≢true (pin_other p t i and_like nothing apart l.cell h (subst (λ b. Forces i (passing nothing) (lit l.cell b)) b f) refl)
          ]
    ]

-- what a parity gate forces from nothing is at its target, and no cell stands an odd number of times among its pins
pub xor_forces_nothing : (inverted : Bool) (i : Instance) → IsXorLike inverted i → (Contains i.pins i.target → ⊥) → (l : Lit) → Forces i (passing nothing) l
    → (c : Cell) → is_odd c i.pins ≡ false
xor_forces_nothing inverted i xor_like apart l f c =
    let x : XorForces inverted i nothing l = xor_forces inverted i xor_like nothing l f refl in
    let at_target : i.target ≡ l.cell = elim (cell_cases i.target l.cell) [
      | inl e ↦ e
      | inr differ ↦ absurd (false≢true (x.others i.target (target_odd i apart) differ))
    ] in
    elim (cases_Bool (is_odd c i.pins)) [
      | inr even ↦ even
      | inl odd ↦ elim (cell_cases i.target c) [
        | inl e ↦ absurd (apart (subst (Contains i.pins) (sym e) (is_odd-member c i.pins odd)))
        | inr differ ↦
            let odd_cell : is_odd c (cells_of i) ≡ true = pin_odd i c differ ∙ odd in
            absurd (false≢true (x.others c odd_cell (subst (λ d. cell_eq c d ≡ false) at_target (cell_eq-swap i.target c differ))))
      ]
    ]

-- conversely its target is forced
pub xor_forces_target : (inverted : Bool) (i : Instance) → IsXorLike inverted i → (Contains i.pins i.target → ⊥) → ((c : Cell) → is_odd c i.pins ≡ false) → (known : Lit → Bool)
    → Forces i (passing known) (lit i.target inverted)
xor_forces_target inverted i xor_like apart even known =
    let lone : (d : Cell) → is_odd d (cells_of i) ≡ true → cell_eq d i.target ≡ false → ⊥ = λ d odd differ.
    true≢false (sym odd ∙ pin_odd i d (cell_eq-swap d i.target differ) ∙ even d) in
    (xor_lone-exact inverted i xor_like known (lit i.target inverted) (target_odd i apart) (no_others i i.target lone)).1 refl

has_pin : (cycle : ℕ) (pins : List Sig) → 1 ≤ length pins → (c : Cell) × Contains (map (cell_at cycle) pins) c
has_pin cycle [] some = let wrong : ⊥ = omega arith in absurd wrong
has_pin cycle (pin ∷ pins) some = (cell_at cycle pin, Contains-here (cell_at cycle pin) (map (cell_at cycle) pins))

-- the kind's gate has the parity of its pins, or the other bit
abbrev pub HasParity : Kind → Type 0
HasParity kind = (inverted : Bool) × (family_of kind ≡ Parity inverted)

module _ (pins : List Sig) (p : Place) where
  and_none : (kind : Kind) (a t : Bool) → IsAndLike a t (instance_of kind pins p) → IsApartFrom kind pins p → 1 ≤ length pins → (l : Lit) → Forces (instance_of kind pins p) (passing nothing) l → ⊥
  and_none kind a t and_like apart some l f =
      let pin : (c : Cell) × Contains (map (cell_at p.cycle) pins) c = has_pin p.cycle pins some in
      and_forces_nothing a t (instance_of kind pins p) and_like apart pin.0 pin.1 l f

  of_family : (kind : Kind) → IsPinCount kind (length pins) → IsOfFamily (family_of kind) (instance_of kind pins p)
  of_family kind count = has_its_family (instance_of kind pins p) (subst (IsPinCount kind) (sym (length-map pins (cell_at p.cycle))) count)

  from_family : (kind : Kind) (family : Family) → family_of kind ≡ family → IsOfFamily family (instance_of kind pins p) → IsApartFrom kind pins p → 1 ≤ length pins
      → (l : Lit) → Forces (instance_of kind pins p) (passing nothing) l → HasParity kind × AllEven pins
  from_family kind (AndLike a t) e and_like apart some l f = absurd (and_none kind a t and_like apart some l f)
  from_family kind (Parity inverted) e xor_like apart some l f =
      ((inverted, e), all_even-from p.cycle pins (xor_forces_nothing inverted (instance_of kind pins p) xor_like apart l f))

  -- only a parity gate forces something from nothing, and only where each signal stands an even number of times
  pub nothing_forced : (kind : Kind) → IsPinCount kind (length pins) → IsApartFrom kind pins p → (l : Lit) → Forces (instance_of kind pins p) (passing nothing) l
      → HasParity kind × AllEven pins
  nothing_forced kind count apart l f = from_family kind (family_of kind) refl (of_family kind count) apart (some_pins kind (length pins) count).0 l f

  -- conversely such a gate forces its target, whatever is known
  pub even_forces : (kind : Kind) (inverted : Bool) → family_of kind ≡ Parity inverted → IsPinCount kind (length pins) → IsApartFrom kind pins p → AllEven pins
      → (known : Lit → Bool) → Forces (instance_of kind pins p) (passing known) (lit (cell_at (p.cycle + delay kind) p.target) inverted)
  even_forces kind inverted e count apart even known =
      let xor_like : IsXorLike inverted (instance_of kind pins p) = subst (λ family. IsOfFamily family (instance_of kind pins p)) e (of_family kind count) in
      xor_forces_target inverted (instance_of kind pins p) xor_like apart (all_even-cells p.cycle pins even) known
