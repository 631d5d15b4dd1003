-- The grammar of a netlist's text: what each line states.
use Rattle.std.specs.Prelude.{ℕ, ◌≡◌, ◌≢◌, ◌==◌, ◌||◌, Bool, false, IsTrue, List, [], ◌∷◌, length, codes, if◌then◌else◌, Option, Some, None, option_and_then, nat_le}
use Rattle.std.specs.List.{AllZip, list_all}
use Rattle.std.specs.Str.{str_eq_ignore_ascii_case}
use Rattle.sr_text.specs.Lines.{FirstFault, numbered}
use Rattle.sr_text.specs.Text.{is_blank}
use Rattle.sr_text.specs.Name.{is_name_byte}
use Rattle.sr_model.specs.Gate.{IsPinCount}
use Rattle.sr_model.specs.declared.gates.Kind.{Kind}
use Rattle.sr_model.specs.Declaration.{Declaration, InputNamed, OutputNamed, DriverNamed}
use Rattle.bench_reader.specs.Kinds.{kind_named}

-- what a line is made of: names, and the marks ( ) , and =
pub data Token : Type 0 where
  Name : List ℕ → Token
  Open : Token
  Close : Token
  Comma : Token
  Equals : Token

abbrev pub is_mark : ℕ → Bool
is_mark b = b == 40 || b == 41 || b == 44 || b == 61

-- the token of a mark
abbrev pub mark_of : ℕ → Token
mark_of b = if b == 40 then Open else if b == 41 then Close else if b == 44 then Comma else Equals

abbrev pub begins_with_name : List ℕ → Bool
begins_with_name [] = false
begins_with_name (b ∷ text) = is_name_byte b

-- a byte before the name that follows at once
abbrev pub longer_name : ℕ → List Token → List Token
longer_name b (Name name ∷ ts) = Name (b ∷ name) ∷ ts
longer_name b ts = Name (b ∷ []) ∷ ts

-- the tokens of a byte and a text, by the tokens of the text
abbrev pub with_byte : ℕ → List ℕ → List Token → Option (List Token)
with_byte b text ts =
    if is_blank b then Some ts
    else if is_mark b then Some (mark_of b ∷ ts)
    else if is_name_byte b then Some (if begins_with_name text then longer_name b ts else Name (b ∷ []) ∷ ts)
    else None

-- Each run of name bytes is a name, and each mark stands alone; blanks part them. There are none where another byte stands.
abbrev pub tokens : List ℕ → Option (List Token)
tokens [] = Some []
tokens (b ∷ text) = option_and_then (with_byte b text) (tokens text)

-- the pins of a gate, with the bracket behind them
abbrev pub pin_tokens : List (List ℕ) → List Token
pin_tokens [] = Close ∷ []
pin_tokens (pin ∷ []) = Name pin ∷ Close ∷ []
pin_tokens (pin ∷ next ∷ pins) = Name pin ∷ Comma ∷ pin_tokens (next ∷ pins)

-- what a line has, as it stands: INPUT(name), OUTPUT(name), or target = word(pins)
pub data Form : Type 0 where
  InputForm : List ℕ → Form
  OutputForm : List ℕ → Form
  DriverForm : List ℕ → List ℕ → List (List ℕ) → Form

-- the tokens of a word with one name in brackets
abbrev pub port_tokens : List ℕ → List ℕ → List Token
port_tokens word name = Name word ∷ Open ∷ Name name ∷ Close ∷ []

-- the form has these tokens; INPUT and OUTPUT are read in any case
abbrev pub HasTokens : List Token → Form → Type 0
HasTokens ts (InputForm name) = (word : List ℕ) × IsTrue (str_eq_ignore_ascii_case word (codes "INPUT")) × (ts ≡ port_tokens word name)
HasTokens ts (OutputForm name) = (word : List ℕ) × IsTrue (str_eq_ignore_ascii_case word (codes "OUTPUT")) × (ts ≡ port_tokens word name)
HasTokens ts (DriverForm target word pins) = (pins ≢ []) × (ts ≡ Name target ∷ Equals ∷ Name word ∷ Open ∷ pin_tokens pins)

-- the text has the form
abbrev pub HasForm : List ℕ → Form → Type 0
HasForm text form = (ts : List Token) × (tokens text ≡ Some ts) × HasTokens ts form

-- the names of signals in a form; the word of a kind is none
abbrev pub signal_names : Form → List (List ℕ)
signal_names (InputForm name) = name ∷ []
signal_names (OutputForm name) = name ∷ []
signal_names (DriverForm target word pins) = target ∷ pins

-- at most 255 bytes
abbrev pub is_short : List ℕ → Bool
is_short name = nat_le (length name) 255

-- each signal's name is short
abbrev pub HasShortNames : Form → Type 0
HasShortNames form = IsTrue (list_all is_short (signal_names form))

-- the word of a kind, and the number of pins, are right
abbrev pub IsKnownKind : Form → Type 0
IsKnownKind (DriverForm target word pins) = kind_named word ≢ None
IsKnownKind _ = Unit {0}

abbrev pub HasRightPins : Form → Type 0
HasRightPins (DriverForm target word pins) = (kind : Kind) → kind_named word ≡ Some kind → IsPinCount kind (length pins)
HasRightPins _ = Unit {0}

-- what a form declares
abbrev pub Declares : Form → Declaration → Type 0
Declares (InputForm name) d = d ≡ InputNamed name
Declares (OutputForm name) d = d ≡ OutputNamed name
Declares (DriverForm target word pins) d = (kind : Kind) × (kind_named word ≡ Some kind) × (d ≡ DriverNamed target kind pins)

-- the text states this declaration
pub record States (text : List ℕ) (d : Declaration) : Type 0 where
  pub form : Form
  pub has_form : HasForm text form
  pub short : HasShortNames form
  pub right_pins : HasRightPins form
  pub declares : Declares form d

-- the text has none of the forms
abbrev pub IsSyntaxFault : List ℕ → Type 0
IsSyntaxFault text = (form : Form) → HasForm text form → ⊥

-- the text has a form, with a name that is too long
abbrev pub IsNameFault : List ℕ → Type 0
IsNameFault text = (form : Form) × HasForm text form × ¬ HasShortNames form

-- the text has a form with short names, and its word names no kind
abbrev pub IsKindFault : List ℕ → Type 0
IsKindFault text = (form : Form) × HasForm text form × HasShortNames form × ¬ IsKnownKind form

-- the text has a form with short names and a kind that may not have so many pins
abbrev pub IsPinFault : List ℕ → Type 0
IsPinFault text = (form : Form) × HasForm text form × HasShortNames form × IsKnownKind form × ¬ HasRightPins form

-- the lines state these declarations, each with its line's number
abbrev pub StateEach : List (ℕ × List ℕ) → List (ℕ × Declaration) → Type 0
StateEach lines stated = AllZip (λ line d. (d.0 ≡ line.0) × States line.1 d.1) lines stated

-- the text states these declarations, each with its line's number; a line that is empty once it is cut states nothing
abbrev pub Spells : List ℕ → List (ℕ × Declaration) → Type 0
Spells text stated = StateEach (numbered text) stated

-- the first line that is not in the grammar has this number, and this is so of it once it is cut
abbrev pub IsFirstFault : (List ℕ → Type 0) → List ℕ → ℕ → Type 0
IsFirstFault IsFault text number = FirstFault StateEach (λ stated bad. IsFault bad) (numbered text) number
