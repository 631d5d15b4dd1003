-- What is said of a refusal.
use Rattle.std.specs.Prelude.{ℕ, ◌≡◌, List}
use Rattle.sr_model.specs.Dump.{Row}
use Rattle.dump_reader.specs.declared.refusal.DumpRefusal.{DumpRefusal}
use Rattle.dump_reader.specs.declared.refusal.DumpRefusal.TheVariants.{Head, Cycles, TooManyCells, RowSyntax, UnknownSignal, TwiceNamed, RowLength, BadBit, NoMemory}
use Rattle.dump_reader.specs.Grammar.{IsHeadFault, IsCyclesFault, IsCellsFault, IsSyntaxFault, IsNameFault, IsTwiceFault, IsLengthFault, IsBitFault, IsRowFault}

-- the first bad line of the text is bad in this way
abbrev pub IsRefusal : List (List ℕ) → ℕ → List ℕ → DumpRefusal → Type 0
IsRefusal names signals text (Head line) = IsHeadFault text line
IsRefusal names signals text (Cycles line) = IsCyclesFault text line
IsRefusal names signals text (TooManyCells line product) = IsCellsFault signals text line product
IsRefusal names signals text (RowSyntax line) = IsRowFault (λ cycles rows bad. IsSyntaxFault bad) names signals text line
IsRefusal names signals text (UnknownSignal line) = IsRowFault (λ cycles rows bad. IsNameFault names bad) names signals text line
IsRefusal names signals text (TwiceNamed line) = IsRowFault (λ cycles rows bad. IsTwiceFault names rows bad) names signals text line
IsRefusal names signals text (RowLength line) = IsRowFault (IsLengthFault names) names signals text line
IsRefusal names signals text (BadBit line) = IsRowFault (IsBitFault names) names signals text line
IsRefusal names signals text NoMemory = Unit {0}

-- the text, which stands in this line behind lines of these rows, is bad in this way
abbrev pub IsRowRefusal : List (List ℕ) → ℕ → List Row → ℕ → List ℕ → DumpRefusal → Type 0
IsRowRefusal names cycles rows number text (RowSyntax line) = (line ≡ number) × IsSyntaxFault text
IsRowRefusal names cycles rows number text (UnknownSignal line) = (line ≡ number) × IsNameFault names text
IsRowRefusal names cycles rows number text (TwiceNamed line) = (line ≡ number) × IsTwiceFault names rows text
IsRowRefusal names cycles rows number text (RowLength line) = (line ≡ number) × IsLengthFault names cycles rows text
IsRowRefusal names cycles rows number text (BadBit line) = (line ≡ number) × IsBitFault names cycles rows text
IsRowRefusal names cycles rows number text NoMemory = Unit {0}
IsRowRefusal names cycles rows number text _ = ⊥
