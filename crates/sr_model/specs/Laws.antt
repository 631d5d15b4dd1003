-- The laws of the closure, for each netlist and number of cycles, and each set of literals that a test gives.
use Rattle.std.specs.Prelude.{ℕ, suc, Bool, List}
use Rattle.std.specs.List.{Contains}
use Rattle.sr_model.specs.declared.cells.Cell.{Cell}
use Rattle.sr_model.specs.declared.cells.Lit.{Lit}
use Rattle.sr_model.specs.Netlist.{Unrolled, Instance, cells_of, Valuation, IsExecution, Has}
use Rattle.sr_model.specs.Closure.{Closure, Forces, ForcesSomewhere, IsWithin, SameLits, IsClosed, level, passing, HasBoth}
use Rattle.sr_model.specs.Dump.{Row, Known, Matches}

-- the closure has the base
abbrev pub HasBase : Type 0
HasBase = (u : Unrolled) (base : Lit → Bool) → IsWithin (passing base) (Closure u (passing base))

-- the closure is closed
abbrev pub ClosureIsClosed : Type 0
ClosureIsClosed = (u : Unrolled) (base : Lit → Bool) → IsClosed u (Closure u (passing base))

-- each closed set that has the base has the closure
abbrev pub IsLeast : Type 0
IsLeast =
    (u : Unrolled) (base closed : Lit → Bool) → IsClosed u (passing closed) → IsWithin (passing base) (passing closed)
    → IsWithin (Closure u (passing base)) (passing closed)

-- a larger base has a closure that is no smaller
abbrev pub IsMonotone : Type 0
IsMonotone =
    (u : Unrolled) (few many : Lit → Bool) → IsWithin (passing few) (passing many)
    → IsWithin (Closure u (passing few)) (Closure u (passing many))

-- the closure is the union of the levels
abbrev pub IsUnionOfLevels : Type 0
IsUnionOfLevels = (u : Unrolled) (base : Lit → Bool) → SameLits (Closure u (passing base)) (λ l. (i : ℕ) × level u (passing base) i l)

-- an execution that has the base has the closure
abbrev pub IsSound : Type 0
IsSound =
    (u : Unrolled) (base : Lit → Bool) (v : Valuation) → IsExecution u v → IsWithin (passing base) (Has v)
    → IsWithin (Closure u (passing base)) (Has v)

-- where the closure has both literals of a cell, no execution has the base
abbrev pub ContradictionExcludes : Type 0
ContradictionExcludes =
    (u : Unrolled) (base : Lit → Bool) (c : Cell) → HasBoth (Closure u (passing base)) c
    → (v : Valuation) → IsExecution u v → IsWithin (passing base) (Has v) → ⊥

-- what is known from a dump is so in each execution that matches it, and where both literals of a cell are known none matches
abbrev pub KnownIsSound : Type 0
KnownIsSound =
    (u : Unrolled) (rows : List Row) (v : Valuation) → IsExecution u v → Matches v rows
    → IsWithin (Known u rows) (Has v) × ((c : Cell) → HasBoth (Known u rows) c → ⊥)

-- known literals that lie between the base and its closure
abbrev pub IsBetween : Unrolled → (Lit → Bool) → (Lit → Bool) → Type 0
IsBetween u base known = IsWithin (passing base) (passing known) × IsWithin (passing known) (Closure u (passing base))

-- what literals between the base and its closure force is in the closure
abbrev pub ForcedStaysBetween : Type 0
ForcedStaysBetween =
    (u : Unrolled) (base known : Lit → Bool) → IsBetween u base known
    → IsWithin (ForcesSomewhere u (passing known)) (Closure u (passing base))

-- closed literals between the base and its closure are the closure
abbrev pub ClosedBetweenIsAll : Type 0
ClosedBetweenIsAll =
    (u : Unrolled) (base known : Lit → Bool) → IsBetween u base known → IsClosed u (passing known)
    → SameLits (passing known) (Closure u (passing base))

-- literals between the base and its closure have the same closure
abbrev pub SameClosure : Type 0
SameClosure =
    (u : Unrolled) (base known : Lit → Bool) → IsBetween u base known
    → SameLits (Closure u (passing known)) (Closure u (passing base))

-- a level that the next one adds nothing to is the closure
abbrev pub StableLevel : Type 0
StableLevel =
    (u : Unrolled) (base : Lit → Bool) (i : ℕ) → IsWithin (level u (passing base) (suc i)) (level u (passing base) i)
    → SameLits (level u (passing base) i) (Closure u (passing base))

-- what is forced at an instance depends on the known literals of the instance's cells alone
abbrev pub ForcedByCells : Type 0
ForcedByCells =
    (i : Instance) (known same : Lit → Bool) → ((l : Lit) → Contains (cells_of i) l.cell → passing known l → passing same l)
    → IsWithin (Forces i (passing known)) (Forces i (passing same))

-- what few literals force at an instance, more literals force there too
abbrev pub ForcedGrows : Type 0
ForcedGrows =
    (i : Instance) (few many : Lit → Bool) → IsWithin (passing few) (passing many)
    → IsWithin (Forces i (passing few)) (Forces i (passing many))
