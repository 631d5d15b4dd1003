-- The forms of a certificate's lines.
use Rattle.std.specs.Prelude.{ℕ, ◌≡◌, ◌<◌, ◌^◌, Bool, true, false, IsTrue, List, [], ◌∷◌, codes, Option, option_map}
use Rattle.std.specs.Fmt.{decimal}
use Rattle.sr_text.specs.Name.{is_name}
use Rattle.certificates.specs.Tokens.{tokens_of}
use Rattle.certificates.specs.declared.form.Form.{Form}
use Rattle.certificates.specs.declared.form.Form.TheVariants.{Fact, End, Contradiction}

-- the words of the first line: the format and its version
abbrev pub format : List ℕ
format = codes "srcert"

abbrev pub version : List ℕ
version = codes "1"

-- the word between a literal and the place that forces it
abbrev pub by_word : List ℕ
by_word = codes "by"

-- the words of the last line
abbrev pub end_word : List ℕ
end_word = codes "end"

abbrev pub contradiction_word : List ℕ
contradiction_word = codes "contradiction"

abbrev pub digit : Bool → List ℕ
digit false = codes "0"
digit true = codes "1"

-- the first line: its format and version
abbrev pub IsHead : List ℕ → Type 0
IsHead text = tokens_of text ≡ format ∷ version ∷ []

-- the form of a line, by its words and numbers: of a literal with the place that forces it, of the end, or of a contradiction
pub data LineForm : Type 0 where
  FactLine : (name : List ℕ) (cycle : ℕ) (bit : Bool) (target : List ℕ) (at : ℕ) → LineForm
  EndLine : LineForm
  ContradictionLine : (name : List ℕ) (cycle : ℕ) → LineForm

-- the tokens are those of a line of this form
abbrev pub AreTokensOf : List (List ℕ) → LineForm → Type 0
AreTokensOf tokens (FactLine name cycle bit target at) =
    (tokens ≡ name ∷ decimal cycle ∷ digit bit ∷ by_word ∷ target ∷ decimal at ∷ []) × IsTrue (is_name name) × (cycle < 2 ^ 64) × IsTrue (is_name target) × (at < 2 ^ 64)
AreTokensOf tokens EndLine = tokens ≡ end_word ∷ []
AreTokensOf tokens (ContradictionLine name cycle) = (tokens ≡ contradiction_word ∷ name ∷ decimal cycle ∷ []) × IsTrue (is_name name) × (cycle < 2 ^ 64)

-- the text is a line of this form
abbrev pub HasForm : List ℕ → LineForm → Type 0
HasForm text form = AreTokensOf (tokens_of text) form

-- what is seen of a form that was read
abbrev pub form_seen : Form → LineForm
form_seen (Fact name cycle bit target at) = FactLine name.now cycle bit target.now at
form_seen End = EndLine
form_seen (Contradiction name cycle) = ContradictionLine name.now cycle

abbrev pub forms_seen : Option Form → Option LineForm
forms_seen form = option_map form_seen form
