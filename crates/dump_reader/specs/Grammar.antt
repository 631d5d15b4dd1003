-- The grammar of a dump's text.
use Rattle.std.specs.Prelude.{ℕ, ◌≡◌, ◌≢◌, ◌≤◌, ◌<◌, ◌==◌, ◌||◌, Bool, true, false, List, [], ◌∷◌, length, map, Option, Some, None, IsSome, if◌then◌else◌, Contains}
use Rattle.std.specs.List.{All, AllPairs, AllZip, slice_get}
use Rattle.std.specs.Fmt.{decimal}
use Rattle.sr_model.specs.declared.cells.Sig.{Sig}
use Rattle.sr_model.specs.Dump.{Row}
use Rattle.sr_model.specs.Limits.{block_count, max_blocks}
use Rattle.dump_reader.specs.Recording.{Recording, IsCount, recorded}
use Rattle.sr_text.specs.Lines.{FirstFault, numbered, past_end}
use Rattle.dump_reader.specs.Head.{cycles_word, format, version}
use Rattle.dump_reader.specs.Tokens.{HasTwoTokens}

-- the first line: its format and version
abbrev pub IsHead : List ℕ → Type 0
IsHead text = HasTwoTokens text format version

-- the line of so many cycles
abbrev pub IsCyclesLine : ℕ → List ℕ → Type 0
IsCyclesLine cycles text = IsCount cycles × HasTwoTokens text cycles_word (decimal cycles)

-- the bit of a character: 0 or 1, or none for x or X; other bytes have no meaning
abbrev pub bit_read : ℕ → Option (Option Bool)
bit_read c = if c == 48 then Some (Some false) else if c == 49 then Some (Some true) else if c == 120 || c == 88 then Some None else None

-- the text is the name of a signal and some characters
pub record NamesSignal (names : List (List ℕ)) (text : List ℕ) (sig : Sig) (characters : List ℕ) : Type 0 where
  pub name : List ℕ
  pub tokens : HasTwoTokens text name characters
  pub is_name : slice_get names sig.0 ≡ Some name

-- the text states this row: its signal's name, and a character for each cycle
pub record StatesRow (names : List (List ℕ)) (cycles : ℕ) (text : List ℕ) (row : Row) : Type 0 where
  pub characters : List ℕ
  pub names_signal : NamesSignal names text row.sig characters
  pub full : length characters ≡ cycles
  pub bits : map bit_read characters ≡ map Some row.bits

-- the lines state these rows, and no signal has two
pub record StateRows (names : List (List ℕ)) (cycles : ℕ) (lines : List (ℕ × List ℕ)) (rows : List Row) : Type 0 where
  pub each : AllZip (λ line row. StatesRow names cycles line.1 row) lines rows
  pub once : AllPairs (λ a b. a ≢ b) (recorded rows)

-- the text begins with a head and a line of so many cycles, the one with this number, and these lines follow
pub record HasFront (text : List ℕ) (number cycles : ℕ) (lines : List (ℕ × List ℕ)) : Type 0 where
  pub head : ℕ × List ℕ
  pub cycles_line : List ℕ
  pub whole : numbered text ≡ head ∷ (number, cycles_line) ∷ lines
  pub is_head : IsHead head.1
  pub is_cycles_line : IsCyclesLine cycles cycles_line

-- the front of a text whose cells are not too many for so many signals
pub record HasFittingFront (signals : ℕ) (text : List ℕ) (cycles : ℕ) (lines : List (ℕ × List ℕ)) : Type 0 where
  pub number : ℕ
  pub front : HasFront text number cycles lines
  pub few : block_count signals cycles ≤ max_blocks

-- the text is that of a dump with these rows, of a netlist with so many signals and these names
pub record Spells (names : List (List ℕ)) (signals : ℕ) (text : List ℕ) (r : Recording) : Type 0 where
  pub lines : List (ℕ × List ℕ)
  pub front : HasFittingFront signals text r.cycles lines
  pub rows : StateRows names r.cycles lines r.rows

-- The first of the lines is not of this kind, and has this number; or there is no line, and the number is the one past the end.
abbrev pub FailsFirst : (List ℕ → Type 0) → ℕ → List (ℕ × List ℕ) → ℕ → Type 0
FailsFirst IsKind past [] number = number ≡ past
FailsFirst IsKind past (line ∷ lines) number = (number ≡ line.0) × ¬ IsKind line.1

-- the first line is no head
abbrev pub IsHeadFault : List ℕ → ℕ → Type 0
IsHeadFault text number = FailsFirst IsHead (past_end text) (numbered text) number

-- the first line is a head, and the next gives no number of cycles
pub record IsCyclesFault (text : List ℕ) (number : ℕ) : Type 0 where
  pub head : ℕ × List ℕ
  pub lines : List (ℕ × List ℕ)
  pub whole : numbered text ≡ head ∷ lines
  pub is_head : IsHead head.1
  pub fault : FailsFirst (λ line. (cycles : ℕ) × IsCyclesLine cycles line) (past_end text) lines number

-- the cells of so many cycles are too many
pub record IsCellsFault (signals : ℕ) (text : List ℕ) (number product : ℕ) : Type 0 where
  pub cycles : ℕ
  pub lines : List (ℕ × List ℕ)
  pub front : HasFront text number cycles lines
  pub is_product : product ≡ block_count signals cycles
  pub many : max_blocks < product

-- the text has not two tokens
abbrev pub IsSyntaxFault : List ℕ → Type 0
IsSyntaxFault text = (first second : List ℕ) → HasTwoTokens text first second → ⊥

-- it has two, and the first is the name of no signal
abbrev pub IsNameFault : List (List ℕ) → List ℕ → Type 0
IsNameFault names text = (first : List ℕ) × (second : List ℕ) × HasTwoTokens text first second × ¬ Contains names first

-- it names a signal that has a row
abbrev pub IsTwiceFault : List (List ℕ) → List Row → List ℕ → Type 0
IsTwiceFault names rows text = (sig : Sig) × (characters : List ℕ) × NamesSignal names text sig characters × Contains (recorded rows) sig

-- it names a signal without a row
abbrev pub NamesNewSignal : List (List ℕ) → List Row → List ℕ → List ℕ → Type 0
NamesNewSignal names rows text characters = (sig : Sig) × NamesSignal names text sig characters × ¬ Contains (recorded rows) sig

-- it names a signal without a row, and has not a character for each cycle
abbrev pub IsLengthFault : List (List ℕ) → ℕ → List Row → List ℕ → Type 0
IsLengthFault names cycles rows text = (characters : List ℕ) × NamesNewSignal names rows text characters × (length characters ≢ cycles)

-- it names a signal without a row, and has a character for each cycle, one of which is no bit
abbrev pub IsBitFault : List (List ℕ) → ℕ → List Row → List ℕ → Type 0
IsBitFault names cycles rows text = (characters : List ℕ) × NamesNewSignal names rows text characters × (length characters ≡ cycles) × ¬ All (λ c. IsSome (bit_read c)) characters

-- rows follow the front, and the line behind them is bad in this way, which may depend on the cycles and on those rows
pub record IsRowFault (IsFault : ℕ → List Row → List ℕ → Type 0) (names : List (List ℕ)) (signals : ℕ) (text : List ℕ) (number : ℕ) : Type 0 where
  pub cycles : ℕ
  pub lines : List (ℕ × List ℕ)
  pub front : HasFittingFront signals text cycles lines
  pub first : FirstFault (StateRows names cycles) (IsFault cycles) lines number
