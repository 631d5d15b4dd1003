-- The literals of a dump, and what is known from it.
use Rattle.std.specs.Prelude.{◌==◌, ◌&&◌, Bool, true, false, not, List, Option, Some, None, slice_get}
use Rattle.std.specs.List.{list_any}
use Rattle.sr_model.specs.declared.cells.Sig.{Sig}
use Rattle.sr_model.specs.declared.cells.Lit.{Lit}
use Rattle.sr_model.specs.Netlist.{Unrolled, Valuation, Has}
use Rattle.sr_model.specs.Closure.{Closure, IsWithin, passing}

-- a recorded signal: for each cycle its bit, or none for x
pub record Row : Type 0 where
  pub sig : Sig
  pub bits : List (Option Bool)

abbrev pub is_bit : Option (Option Bool) → Bool → Bool
is_bit (Some (Some true)) b = b
is_bit (Some (Some false)) b = not b
is_bit (Some None) b = false
is_bit None b = false

-- whether the dump has the literal
abbrev pub dump_has : List Row → Lit → Bool
dump_has rows l = list_any (λ row. (row.sig.0 == l.cell.sig.0) && is_bit (slice_get row.bits l.cell.cycle) l.bit) rows

-- each literal of the dump is one of the execution's
abbrev pub Matches : Valuation → List Row → Type 0
Matches v rows = IsWithin (passing (dump_has rows)) (Has v)

abbrev pub Known : Unrolled → List Row → Lit → Type 0
Known u rows = Closure u (passing (dump_has rows))
