-- Each text has one reading or one refusal.
use Rattle.std.specs.Prelude.{ℕ, ◌≡◌, ◌≢◌, ◌⊎◌, List, All}
use Rattle.sr_model.specs.Declaration.{Declaration}
use Rattle.netlist.specs.Numbering.{IsStatement}
use Rattle.netlist.specs.Checks.{without_lines}
use Rattle.bench_reader.specs.declared.reader.BenchRefusal.{BenchRefusal}
use Rattle.bench_reader.specs.declared.reader.BenchRefusal.TheVariants.{NoMemory}
use Rattle.bench_reader.specs.Grammar.{Spells}
use Rattle.bench_reader.specs.Refusal.{IsRefusal}

-- a text has one reading at most
abbrev pub HasOneReading : Type 0
HasOneReading = (text : List ℕ) (a b : List (ℕ × Declaration)) → Spells text a → Spells text b → a ≡ b

-- it is refused in one way at most
abbrev pub IsRefusedOnce : Type 0
IsRefusedOnce = (text : List ℕ) (a b : BenchRefusal) → IsRefusal text a → IsRefusal text b → (a ≢ NoMemory) → (b ≢ NoMemory) → a ≡ b

-- where it is read, it is refused for want of memory alone
abbrev pub ReadTextsAreNotRefused : Type 0
ReadTextsAreNotRefused = (text : List ℕ) (stated : List (ℕ × Declaration)) (r : BenchRefusal) → Spells text stated → IsRefusal text r → r ≡ NoMemory

-- it has a reading, or a refusal other than want of memory
abbrev pub IsReadOrRefused : Type 0
IsReadOrRefused = (text : List ℕ) → ((stated : List (ℕ × Declaration)) × Spells text stated) ⊎ ((r : BenchRefusal) × IsRefusal text r × (r ≢ NoMemory))

-- what it states are statements as a netlist is built of
abbrev pub SpellsStatements : Type 0
SpellsStatements = (text : List ℕ) (stated : List (ℕ × Declaration)) → Spells text stated → All IsStatement (without_lines stated)
