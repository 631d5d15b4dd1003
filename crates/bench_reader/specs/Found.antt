-- How a line's form is found from the front.
use Rattle.std.specs.Prelude.{ℕ, ◌≡◌, ◌↔◌, List, [], ◌∷◌, ◌++◌, map, Option, Some, option_map}
use Rattle.std.specs.List.{flat_map}
use denote.Bor.{Bor}
use Rattle.bench_reader.specs.declared.form.Form as read
use Rattle.bench_reader.specs.declared.form.Form.TheVariants as forms
use Rattle.bench_reader.specs.Grammar.{Token, Name, Comma, tokens, Form, InputForm, OutputForm, DriverForm, HasTokens}

-- the form that was read, with these pins
abbrev pub form_with : List (Bor (List ℕ)) → read.Form → Form
form_with pins (forms.Input name) = InputForm name.now
form_with pins (forms.Output name) = OutputForm name.now
form_with pins (forms.Driver target word) = DriverForm target.now word.now (map (λ pin. pin.now) pins)

abbrev pub form_of : List (Bor (List ℕ)) → Option read.Form → Option Form
form_of pins found = option_map (form_with pins) found

-- these tokens and those of the text are those of the form
abbrev pub Completes : List Token → List ℕ → Form → Type 0
Completes before text form = (ts : List Token) × (tokens text ≡ Some ts) × HasTokens (before ++ ts) form

-- the form that is found is the one that the tokens complete, or there is none
abbrev pub IsFound : List Token → List ℕ → Option Form → Type 0
IsFound before text found = (form : Form) → (found ≡ Some form) ↔ Completes before text form

-- names, each with a comma behind it
abbrev pub with_commas : List (List ℕ) → List Token
with_commas names = flat_map (λ name. Name name ∷ Comma ∷ []) names
