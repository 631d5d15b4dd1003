-- Two worked cases: what one record restores, and what the rules miss.
use Rattle.std.specs.Prelude.{ℕ, Bool, true, false, List, [], ◌∷◌, Some, None}
use Rattle.sr_model.specs.declared.gates.Kind.TheVariants.{And, Or, Not, Dff}
use Rattle.sr_model.specs.declared.cells.Sig.{Sig}
use Rattle.sr_model.specs.declared.cells.Cell.{Cell}
use Rattle.sr_model.specs.declared.cells.Lit.{Lit}
use Rattle.sr_model.specs.Netlist.{Input, Driven, Unrolled, Valuation, IsExecution, Has}
use Rattle.sr_model.specs.Closure.{Closure, lit, passing}
use Rattle.sr_model.specs.Dump.{Row, Known}

abbrev pub sig : ℕ → Sig
sig s = record { 0 = s }

abbrev pub cell : ℕ → ℕ → Cell
cell s t = record { cycle = t; sig = sig s }

-- INPUT(a), INPUT(b), n = NOT(a), g = AND(n, b), q = DFF(g), r = DFF(n), over two cycles
abbrev pub worked : Unrolled
worked = record {
  drivers = Input ∷ Input ∷ Driven Not (sig 0 ∷ []) ∷ Driven And (sig 2 ∷ sig 1 ∷ []) ∷ Driven Dff (sig 3 ∷ []) ∷ Driven Dff (sig 2 ∷ []) ∷ [];
  cycles = 2;
}

-- q x1
abbrev pub traced : List Row
traced = record { sig = sig 4; bits = None ∷ Some true ∷ [] } ∷ []

-- r is 1 in cycle 1
abbrev pub RestoresR : Type 0
RestoresR = Known worked traced (lit (cell 5 1) true)

-- INPUT(a), n = NOT(a), o = OR(a, n), in one cycle
abbrev pub missed : Unrolled
missed = record {
  drivers = Input ∷ Driven Not (sig 0 ∷ []) ∷ Driven Or (sig 0 ∷ sig 1 ∷ []) ∷ [];
  cycles = 1;
}

abbrev pub nothing : Lit → Bool
nothing l = false

-- o is 1 in every execution, and yet does not follow from nothing
abbrev pub RulesMissO : Type 0
RulesMissO = ((v : Valuation) → IsExecution missed v → Has v (lit (cell 2 0) true)) × ¬ Closure missed (passing nothing) (lit (cell 2 0) true)
