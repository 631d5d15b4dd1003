-- Each text has one reading or one refusal, and what is printed reads as what it was.
use Rattle.std.specs.Prelude.{ℕ, ◌≡◌, ◌≢◌, ◌⊎◌, ◌↔◌, ◌<◌, ◌≤◌, IsTrue, List, length, Some, option_and_then, Contains}
use Rattle.std.specs.List.{All, slice_get}
use Rattle.sr_model.specs.declared.cells.Lit.{Lit}
use Rattle.sr_model.specs.Dump.{dump_has}
use Rattle.sr_model.specs.Limits.{block_count, max_blocks}
use Rattle.netlist.specs.Circuit.{Circuit, IsCircuit}
use Rattle.dump_reader.specs.declared.refusal.DumpRefusal.{DumpRefusal}
use Rattle.dump_reader.specs.declared.refusal.DumpRefusal.TheVariants.{NoMemory}
use Rattle.dump_reader.specs.Recording.{Recording, IsRecording}
use Rattle.dump_reader.specs.Grammar.{NamesSignal, Spells, bit_read}
use Rattle.dump_reader.specs.Refusal.{IsRefusal}
use Rattle.dump_reader.specs.Print.{printed}

-- a text is one dump of a netlist at most
abbrev pub HasOneReading : Type 0
HasOneReading = (c : Circuit) (text : List ℕ) (a b : Recording) → IsCircuit c → Spells c.names (length c.drivers) text a → Spells c.names (length c.drivers) text b → a ≡ b

-- it is refused in one way at most
abbrev pub IsRefusedOnce : Type 0
IsRefusedOnce = (c : Circuit) (text : List ℕ) (a b : DumpRefusal) → IsCircuit c → IsRefusal c.names (length c.drivers) text a → IsRefusal c.names (length c.drivers) text b → (a ≢ NoMemory) → (b ≢ NoMemory) → a ≡ b

-- where it is a dump, it is refused for want of memory alone
abbrev pub DumpsAreNotRefused : Type 0
DumpsAreNotRefused = (c : Circuit) (text : List ℕ) (r : Recording) (e : DumpRefusal) → IsCircuit c → Spells c.names (length c.drivers) text r → IsRefusal c.names (length c.drivers) text e → e ≡ NoMemory

-- it is a dump, or has a refusal other than want of memory
abbrev pub IsReadOrRefused : Type 0
IsReadOrRefused = (c : Circuit) (text : List ℕ) → ((r : Recording) × Spells c.names (length c.drivers) text r) ⊎ ((e : DumpRefusal) × IsRefusal c.names (length c.drivers) text e × (e ≢ NoMemory))

-- what a text spells is a recording of the netlist's signals
abbrev pub SpellsRecording : Type 0
SpellsRecording = (c : Circuit) (text : List ℕ) (r : Recording) → IsCircuit c → Spells c.names (length c.drivers) text r → IsRecording r × All (λ row. row.sig.0 < length c.drivers) r.rows

-- one of the lines names the literal's signal, and the character of the literal's cycle is its bit
abbrev pub RecordsLiteral : List (List ℕ) → List (ℕ × List ℕ) → Lit → Type 0
RecordsLiteral names lines l =
    (line : ℕ × List ℕ) × (characters : List ℕ) × Contains lines line × NamesSignal names line.1 l.cell.sig characters × (option_and_then bit_read (slice_get characters l.cell.cycle) ≡ Some (Some l.bit))

-- the literals of a dump are those that the lines of its rows record
abbrev pub HasLiteralsOfRows : Type 0
HasLiteralsOfRows = (c : Circuit) (text : List ℕ) (r : Recording) (l : Lit) → IsCircuit c → (spells : Spells c.names (length c.drivers) text r) → IsTrue (dump_has r.rows l) ↔ RecordsLiteral c.names spells.lines l

-- the printed text of a recording spells it, where its cells are not too many
abbrev pub IsReadBack : Type 0
IsReadBack = (c : Circuit) (r : Recording) → IsCircuit c → IsRecording r → All (λ row. row.sig.0 < length c.drivers) r.rows → block_count (length c.drivers) r.cycles ≤ max_blocks → Spells c.names (length c.drivers) (printed c.names r) r
