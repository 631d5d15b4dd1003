-- Each text is read or refused.
use Rattle.std.proofs.Common.{◌≡◌, ◌≢◌, ◌⊎◌, ℕ, List, [], ◌∷◌, ◌++◌, length, Option, Some, None, refl, sym, subst, ◌∙◌, inl, inr}
use Rattle.std.specs.List.{list_all}
use Rattle.std.proofs.lemmas.Bool.{cases_Bool, both_ways}
use Rattle.sr_text.specs.Lines.{numbered}
use Rattle.sr_model.specs.declared.gates.Kind.{Kind}
use Rattle.sr_model.specs.Gate.{IsPinCount}
use Rattle.sr_model.proofs.lemmas.Laws.{pin_count_decided}
use Rattle.sr_model.specs.Declaration.{Declaration, InputNamed, OutputNamed, DriverNamed}
use Rattle.bench_reader.specs.declared.reader.BenchRefusal.{BenchRefusal}
use Rattle.bench_reader.specs.declared.reader.BenchRefusal.TheVariants.{Syntax, NameLong, UnknownKind, WrongPins, NoMemory}
use Rattle.bench_reader.specs.Grammar.{Form, InputForm, OutputForm, DriverForm, HasForm, is_short, signal_names, HasRightPins, Declares, States, Spells}
use Rattle.bench_reader.specs.Kinds.{kind_named}
use Rattle.bench_reader.specs.Refusal.{IsRefusal, IsLineRefusal, IsFormRefusal}
use Rattle.bench_reader.specs.Laws.{IsReadOrRefused}
use Rattle.bench_reader.proofs.FormOrNone.{form_or_none}
use Rattle.bench_reader.proofs.Lines.{HasRead, line_refusal, states, read_more, refusal_of, whole_read}

-- a form declares something, or is bad in some way
abbrev DeclaresOrBad : Form → ℕ → Type 0
DeclaresOrBad form number = ((d : Declaration) × HasRightPins form × Declares form d) ⊎ ((r : BenchRefusal) × IsFormRefusal form number r × (r ≢ NoMemory))

driver_declares : (target word : List ℕ) (pins : List (List ℕ)) (number : ℕ) (found : Option Kind) → kind_named word ≡ found → DeclaresOrBad (DriverForm target word pins) number
driver_declares target word pins number None e = inr (UnknownKind number, (refl, λ known. known e), λ other. cc)
driver_declares target word pins number (Some kind) e =
    elim (pin_count_decided kind (length pins)) [
      | inl right ↦ inl (DriverNamed target kind pins, (λ k is. subst (λ j. IsPinCount j (length pins)) (let both = sym e ∙ is in let same : kind ≡ k = cc in same) right), (kind, e, refl))
      | inr wrong ↦ inr (WrongPins number, (refl, (λ none. let both = sym e ∙ none in absurd cc), λ right. wrong (right kind e)), λ other. cc)
    ]

form_declares : (form : Form) (number : ℕ) → DeclaresOrBad form number
form_declares (InputForm name) number = inl (InputNamed name, tt, refl)
form_declares (OutputForm name) number = inl (OutputNamed name, tt, refl)
form_declares (DriverForm target word pins) number = driver_declares target word pins number (kind_named word) refl

-- a line that has something states a declaration, or is bad in some way
abbrev StatesOrBad : List ℕ → ℕ → Type 0
StatesOrBad text number = ((d : Declaration) × States text d) ⊎ ((r : BenchRefusal) × IsLineRefusal text number r × (r ≢ NoMemory))

form_states : (text : List ℕ) (number : ℕ) (form : Form) → HasForm text form → StatesOrBad text number
form_states text number form has =
    elim (cases_Bool (list_all is_short (signal_names form))) [
      | inr long ↦ inr (NameLong number, (refl, (form, has, λ short. both_ways (list_all is_short (signal_names form)) long short)), λ other. cc)
      | inl short ↦ elim (form_declares form number) [
        | inl (d, right, declares) ↦ inl (d, states text form d has short (right, declares))
        | inr (r, bad, some) ↦ inr (r, line_refusal text form number r has short bad, some)
      ]
    ]

line_states : (text : List ℕ) (number : ℕ) → StatesOrBad text number
line_states text number =
    elim (form_or_none text) [
      | inl (form, has) ↦ form_states text number form has
      | inr none ↦ inr (Syntax number, (refl, none), λ other. cc)
    ]

abbrev Outcome : List ℕ → Type 0
Outcome text = ((stated : List (ℕ × Declaration)) × Spells text stated) ⊎ ((r : BenchRefusal) × IsRefusal text r × (r ≢ NoMemory))

-- the lines that are left, behind those that were read
lines_read : (text : List ℕ) (left : List (ℕ × List ℕ)) (stated : List (ℕ × Declaration)) → HasRead text stated left → Outcome text
lines_read text [] stated read = inl (stated, whole_read text stated [] read refl)
lines_read text (line ∷ rest) stated read =
    elim (line_states line.1 line.0) [
      | inr (r, bad, other) ↦ inr (r, refusal_of text line.1 line.0 stated (line ∷ rest) rest r read refl bad, other)
      | inl (d, says) ↦ lines_read text rest (stated ++ (line.0, d) ∷ []) (read_more text line.1 line.0 d stated (stated ++ (line.0, d) ∷ []) (line ∷ rest) rest read refl says refl)
    ]

pub read_or_refused : IsReadOrRefused
read_or_refused text = lines_read text (numbered text) [] ([], refl, tt)
