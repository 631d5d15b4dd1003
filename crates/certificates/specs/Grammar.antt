-- What a certificate's lines claim of a circuit over so many cycles.
use Rattle.std.specs.Prelude.{ℕ, ◌≡◌, ◌<◌, ⊤, Bool, List, Some, IsSome}
use Rattle.std.specs.List.{slice_get}
use Rattle.sr_model.specs.declared.cells.Cell.{Cell}
use Rattle.sr_model.specs.declared.cells.Place.{Place}
use Rattle.sr_model.specs.Netlist.{instance_at}
use Rattle.netlist.specs.Circuit.{Circuit, unrolled_over}
use Rattle.certificates.specs.declared.claim.Fact.{Fact}
use Rattle.certificates.specs.declared.claim.Claim.{Claim}
use Rattle.certificates.specs.declared.claim.Claim.TheVariants.{Forced, End, Contradiction}
use Rattle.certificates.specs.Forms.{LineForm, FactLine, EndLine, ContradictionLine, HasForm}

-- the cell has this name and cycle, and the cycle is there
pub record IsCellOf (c : Circuit) (cycles : ℕ) (name : List ℕ) (cycle : ℕ) (cell : Cell) : Type 0 where
  pub named : slice_get c.names cell.sig.0 ≡ Some name
  pub is_cycle : cell.cycle ≡ cycle
  pub early : cycle < cycles

-- the place has this target and cycle, and an instance stands there
pub record IsPlaceOf (c : Circuit) (cycles : ℕ) (target : List ℕ) (at : ℕ) (place : Place) : Type 0 where
  pub named : slice_get c.names place.target.0 ≡ Some target
  pub is_cycle : place.cycle ≡ at
  pub stands : IsSome (instance_at (unrolled_over c cycles) place)

-- the literal and the place of a fact are those of a line with these words
pub record IsFactOf (c : Circuit) (cycles : ℕ) (name : List ℕ) (cycle : ℕ) (bit : Bool) (target : List ℕ) (at : ℕ) (fact : Fact) : Type 0 where
  pub cell : IsCellOf c cycles name cycle fact.lit.cell
  pub is_bit : fact.lit.bit ≡ bit
  pub place : IsPlaceOf c cycles target at fact.place

-- a line of this form makes the claim
abbrev pub Means : Circuit → ℕ → LineForm → Claim → Type 0
Means c cycles (FactLine name cycle bit target at) (Forced fact) = IsFactOf c cycles name cycle bit target at fact
Means c cycles EndLine End = ⊤
Means c cycles (ContradictionLine name cycle) (Contradiction cell) = IsCellOf c cycles name cycle cell
Means c cycles _ _ = ⊥

-- the text is a line that makes the claim
pub record States (c : Circuit) (cycles : ℕ) (text : List ℕ) (claim : Claim) : Type 0 where
  pub form : LineForm
  pub has_form : HasForm text form
  pub means : Means c cycles form claim

-- the text has none of the forms
abbrev pub IsFormFault : List ℕ → Type 0
IsFormFault text = (form : LineForm) → HasForm text form → ⊥

-- it has a form, and names a signal, cycle or instance that is not there
pub record IsCellFault (c : Circuit) (cycles : ℕ) (text : List ℕ) : Type 0 where
  pub form : LineForm
  pub has_form : HasForm text form
  pub means_none : (claim : Claim) → Means c cycles form claim → ⊥
