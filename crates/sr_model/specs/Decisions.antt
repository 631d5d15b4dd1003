-- The laws of what can be decided: whether a literal follows, and whether there is a contradiction.
use Rattle.std.specs.Prelude.{ℕ, ◌⊎◌, Bool, List}
use Rattle.std.specs.List.{Contains}
use Rattle.sr_model.specs.declared.cells.Cell.{Cell}
use Rattle.sr_model.specs.declared.cells.Lit.{Lit}
use Rattle.sr_model.specs.Netlist.{Unrolled}
use Rattle.sr_model.specs.Closure.{LitSet, Closure, IsWithin, SameLits, HasBoth, IsClash, passing}
use Rattle.sr_model.specs.Dump.{Row, Known, dump_has}

-- the closure of what a test gives is what a test gives
abbrev pub ClosureIsATest : Type 0
ClosureIsATest = (u : Unrolled) (base : Lit → Bool) → (known : Lit → Bool) × SameLits (passing known) (Closure u (passing base))

-- the set has not both literals of any cell
abbrev pub IsConsistent : LitSet → Type 0
IsConsistent known = (c : Cell) → HasBoth known c → ⊥

-- the base leads to a contradiction: a cell is the first one, at some level
abbrev pub HasFirstClash : Unrolled → LitSet → Type 0
HasFirstClash u base = (c : Cell) × (i : ℕ) × IsClash u base c i

-- where a list has the cells of the base, the closure is consistent or there is a first contradiction
abbrev pub ClashOrNone : Type 0
ClashOrNone =
    (u : Unrolled) (base : Lit → Bool) (cells : List Cell) → IsWithin (passing base) (λ l. Contains cells l.cell)
    → IsConsistent (Closure u (passing base)) ⊎ HasFirstClash u (passing base)

-- so it is with each dump
abbrev pub DumpClashOrNone : Type 0
DumpClashOrNone = (u : Unrolled) (rows : List Row) → IsConsistent (Known u rows) ⊎ HasFirstClash u (passing (dump_has rows))
