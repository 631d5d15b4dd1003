-- The laws of logs.
use Rattle.std.specs.Prelude.{ℕ, ◌≡◌, ◌⊎◌, ◌↔◌, Bool, IsTrue, List, Option, Some, None}
use Rattle.std.specs.List.{Any}
use Rattle.sr_model.specs.declared.cells.Cell.{Cell}
use Rattle.sr_model.specs.declared.cells.Lit.{Lit}
use Rattle.sr_model.specs.Netlist.{Unrolled}
use Rattle.sr_model.specs.Closure.{Closure, IsClash, passing}
use Rattle.sr_model.specs.Dump.{Row, dump_has}
use Rattle.plain_close.specs.declared.log.Step.{Step}
use Rattle.plain_close.specs.Log.{IsLog}

-- a base has one log at most
abbrev pub HasOneLog : Type 0
HasOneLog = (u : Unrolled) (base : Lit → Bool) (steps others : List Step) (clash other : Option Cell) → IsLog u (passing base) steps clash → IsLog u (passing base) others other → (steps ≡ others) × (clash ≡ other)

-- the literals of a dump have one
abbrev pub DumpHasLog : Type 0
DumpHasLog = (u : Unrolled) (rows : List Row) → (steps : List Step) × (clash : Option Cell) × IsLog u (passing (dump_has rows)) steps clash

-- the clash of a log is that of the base
abbrev pub ClashIsFirst : Type 0
ClashIsFirst = (u : Unrolled) (base : Lit → Bool) (steps : List Step) (cell : Cell) → IsLog u (passing base) steps (Some cell) → (i : ℕ) × IsClash u (passing base) cell i

-- without one the base and the literals of the steps are all that follows
abbrev pub LogIsWhole : Type 0
LogIsWhole = (u : Unrolled) (base : Lit → Bool) (steps : List Step) (l : Lit) → IsLog u (passing base) steps None → Closure u (passing base) l ↔ (IsTrue (base l) ⊎ Any (λ step. step.lit ≡ l) steps)
