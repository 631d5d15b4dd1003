-- What is said of a refusal.
use Rattle.std.specs.Prelude.{ℕ, ◌≡◌, List}
use Rattle.bench_reader.specs.declared.reader.BenchRefusal.{BenchRefusal}
use Rattle.bench_reader.specs.declared.reader.BenchRefusal.TheVariants.{Syntax, NameLong, UnknownKind, WrongPins, NoMemory}
use Rattle.bench_reader.specs.Grammar.{Form, IsKnownKind, HasRightPins, IsSyntaxFault, IsNameFault, IsKindFault, IsPinFault, IsFirstFault}

-- the text, which stands in this line, is bad in this way
abbrev pub IsLineRefusal : List ℕ → ℕ → BenchRefusal → Type 0
IsLineRefusal text number (Syntax line) = (line ≡ number) × IsSyntaxFault text
IsLineRefusal text number (NameLong line) = (line ≡ number) × IsNameFault text
IsLineRefusal text number (UnknownKind line) = (line ≡ number) × IsKindFault text
IsLineRefusal text number (WrongPins line) = (line ≡ number) × IsPinFault text
IsLineRefusal text number NoMemory = Unit {0}

-- the first bad line of the text is bad in this way
abbrev pub IsRefusal : List ℕ → BenchRefusal → Type 0
IsRefusal text (Syntax line) = IsFirstFault IsSyntaxFault text line
IsRefusal text (NameLong line) = IsFirstFault IsNameFault text line
IsRefusal text (UnknownKind line) = IsFirstFault IsKindFault text line
IsRefusal text (WrongPins line) = IsFirstFault IsPinFault text line
IsRefusal text NoMemory = Unit {0}

-- the form, which has short names, is bad in this way
abbrev pub IsFormRefusal : Form → ℕ → BenchRefusal → Type 0
IsFormRefusal form number (UnknownKind line) = (line ≡ number) × (¬ IsKnownKind form)
IsFormRefusal form number (WrongPins line) = (line ≡ number) × IsKnownKind form × (¬ HasRightPins form)
IsFormRefusal form number NoMemory = Unit {0}
IsFormRefusal form number _ = ⊥
