-- What an instance forces, exactly, by its family. Known are the literals that pass a test.
use Rattle.std.specs.Prelude.{◌≡◌, ◌⊎◌, ◌↔◌, Bool, true, false, not}
use Rattle.std.specs.List.{Contains}
use Rattle.sr_model.specs.declared.cells.Cell.{Cell}
use Rattle.sr_model.specs.declared.cells.Lit.{Lit}
use Rattle.sr_model.specs.AndLike.{IsAndLike}
use Rattle.sr_model.specs.Closure.{Forces, passing, lit}
use Rattle.sr_model.specs.Netlist.{Instance, Valuation, cell_eq, cells_of}
use Rattle.sr_model.specs.XorLike.{parity, is_odd, IsXorLike}

-- An and-like gate forces
-- the target's t, where it or each pin's p is known;
-- the target's other bit, where it or some pin's other bit is known;
-- a pin's p, where it or the target's t is known;
-- a pin's other bit, where it is known, or the target's other bit and p at each other pin are.
pub record ForcesAsAnd (p t : Bool) (i : Instance) (known : Lit → Bool) : Type 0 where
  pub target : Forces i (passing known) (lit i.target t) ↔ ((known (lit i.target t) ≡ true) ⊎ ((c : Cell) → Contains i.pins c → known (lit c p) ≡ true))
  pub target_other : (some : Cell) → Contains i.pins some
      → Forces i (passing known) (lit i.target (not t)) ↔ ((known (lit i.target (not t)) ≡ true) ⊎ ((c : Cell) × Contains i.pins c × (known (lit c (not p)) ≡ true)))
  pub pin : (c : Cell) → Contains i.pins c → Forces i (passing known) (lit c p) ↔ ((known (lit c p) ≡ true) ⊎ (known (lit i.target t) ≡ true))
  pub pin_other : (c : Cell) → Contains i.pins c
      → Forces i (passing known) (lit c (not p))
      ↔ ((known (lit c (not p)) ≡ true) ⊎ ((known (lit i.target (not t)) ≡ true) × ((d : Cell) → Contains i.pins d → cell_eq c d ≡ false → known (lit d p) ≡ true)))

-- The literal's cell stands an odd number of times, and the bits that are known at each other such cell leave it this bit alone.
pub record XorForces (inverted : Bool) (i : Instance) (known : Lit → Bool) (l : Lit) : Type 0 where
  pub on_cells : Contains (cells_of i) l.cell
  pub odd : is_odd l.cell (cells_of i) ≡ true
  pub choice : Valuation
  pub balanced : parity choice (cells_of i) ≡ inverted
  pub chosen : choice l.cell ≡ l.bit
  pub others : (d : Cell) → is_odd d (cells_of i) ≡ true → cell_eq d l.cell ≡ false → known (lit d (choice d)) ≡ true

-- A parity gate forces
-- of a cell that stands an even number of times nothing but what is known;
-- of a cell that stands an odd number of times, as another does, what is known, and what the others leave alone;
-- of a cell that alone stands an odd number of times the one bit.
pub record ForcesAsParity (inverted : Bool) (i : Instance) (known : Lit → Bool) : Type 0 where
  pub even : (l : Lit) → Contains (cells_of i) l.cell → is_odd l.cell (cells_of i) ≡ false → Forces i (passing known) l ↔ (known l ≡ true)
  pub odd : (l : Lit) (d : Cell) → is_odd l.cell (cells_of i) ≡ true → is_odd d (cells_of i) ≡ true → cell_eq d l.cell ≡ false
      → Forces i (passing known) l ↔ ((known l ≡ true) ⊎ XorForces inverted i known l)
  pub alone : (l : Lit) → is_odd l.cell (cells_of i) ≡ true → ((d : Cell) → is_odd d (cells_of i) ≡ true → cell_eq d l.cell ≡ false → ⊥)
      → Forces i (passing known) l ↔ (l.bit ≡ inverted)

-- each and-like instance forces so, whose target is none of its pins
abbrev pub AndLikeForces : Type 0
AndLikeForces = (p t : Bool) (i : Instance) → IsAndLike p t i → ¬ Contains i.pins i.target → (known : Lit → Bool) → ForcesAsAnd p t i known

-- each parity instance forces so, whose target is none of its pins
abbrev pub ParityForces : Type 0
ParityForces = (inverted : Bool) (i : Instance) → IsXorLike inverted i → ¬ Contains i.pins i.target → (known : Lit → Bool) → ForcesAsParity inverted i known
