-- Laws of tables: a table is a dump, which makes the same rows again, and its bits are those of each execution that matches.
use Rattle.std.specs.Prelude.{ℕ, ◌≡◌, ◌≢◌, ◌<◌, ◌≤◌, Bool, length}
use Rattle.std.specs.List.{All, AllPairs}
use Rattle.sr_model.specs.declared.cells.Lit.{Lit}
use Rattle.sr_model.specs.Netlist.{Valuation, IsExecution}
use Rattle.sr_model.specs.Closure.{SameLits, passing}
use Rattle.sr_model.specs.Decisions.{IsConsistent}
use Rattle.sr_model.specs.Dump.{Known, Matches}
use Rattle.sr_model.specs.Limits.{block_count, max_blocks}
use Rattle.netlist.specs.Circuit.{Circuit, IsCircuit, unrolled_over}
use Rattle.dump_reader.specs.Recording.{Recording, IsCount}
use Rattle.dump_reader.specs.Grammar.{Spells}
use Rattle.report.specs.Table.{known_rows, shown, table_text}

-- The text of a table is a dump of its netlist, with the rows that it shows, where the cells are not too many for a dump: the ratio line is a comment.
abbrev pub TableIsDump : Type 0
TableIsDump =
    (c : Circuit) (cycles : ℕ) (known : Lit → Bool) (traced : ℕ) (all : Bool) → IsCircuit c → IsCount cycles → block_count (length c.drivers) cycles ≤ max_blocks
    → Spells c.names (length c.drivers) (table_text c cycles known traced all) (known_rows c cycles known all)

-- the test passes what is known from the dump
abbrev pub IsKnownFrom : Circuit → Recording → (Lit → Bool) → Type 0
IsKnownFrom c d known = SameLits (passing known) (Known (unrolled_over c d.cycles) d.rows)

-- what is known from the rows of a table, taken as a dump, makes a table with the same rows, and has no contradiction
abbrev pub TableAgain : Type 0
TableAgain =
    (c : Circuit) (d : Recording) (known again : Lit → Bool) (all : Bool) → IsKnownFrom c d known → IsConsistent (passing known) → IsKnownFrom c (known_rows c d.cycles known all) again
    → (known_rows c d.cycles again all ≡ known_rows c d.cycles known all) × IsConsistent (passing again)

-- each execution that matches a dump matches the table of what is known from it
abbrev pub TableIsSound : Type 0
TableIsSound =
    (c : Circuit) (d : Recording) (known : Lit → Bool) (all : Bool) → IsKnownFrom c d known
    → (v : Valuation) → IsExecution (unrolled_over c d.cycles) v → Matches v d.rows → Matches v (known_rows c d.cycles known all).rows

-- no signal has two rows in a table
abbrev pub ShowsEachOnce : Type 0
ShowsEachOnce = (c : Circuit) (all : Bool) → AllPairs (λ a b. a ≢ b) (shown c all)

-- its rows are of signals of the netlist
abbrev pub ShowsSignals : Type 0
ShowsSignals = (c : Circuit) (all : Bool) → All (λ s. s.0 < length c.drivers) (shown c all)
