-- What a line states, how it is refused, and what the lines so far state.
use Rattle.std.proofs.Common.{◌≡◌, ℕ, ◌&&◌, List, [], ◌∷◌, ◌++◌, map, refl, sym, ap, subst, ◌∙◌, append_assoc}
use Rattle.std.specs.List.{list_all}
use Rattle.std.proofs.lemmas.List.{append-nil}
use Rattle.std.proofs.lemmas.Slice.Zip.{all_zipped_more}
use Rattle.sr_model.specs.Declaration.{Declaration}
use Rattle.sr_text.specs.Lines.{numbered}
use Rattle.bench_reader.specs.declared.reader.BenchRefusal.{BenchRefusal}
use Rattle.bench_reader.specs.declared.reader.BenchRefusal.TheVariants.{Syntax, NameLong, UnknownKind, WrongPins, NoMemory}
use Rattle.bench_reader.specs.Grammar.{Form, HasForm, is_short, HasShortNames, HasRightPins, Declares, States, StateEach, Spells, IsFirstFault}
use Rattle.bench_reader.specs.Refusal.{IsRefusal, IsLineRefusal, IsFormRefusal}
use denote.Bor.{Bor}

pub line_refusal : (text : List ℕ) (form : Form) (number : ℕ) (r : BenchRefusal) → HasForm text form → HasShortNames form → IsFormRefusal form number r → IsLineRefusal text number r
line_refusal text form number (Syntax line) has short bad = absurd bad
line_refusal text form number (NameLong line) has short bad = absurd bad
line_refusal text form number (UnknownKind line) has short bad = (bad.0, (form, has, short, bad.1))
line_refusal text form number (WrongPins line) has short bad = (bad.0, (form, has, short, bad.1, bad.2))
line_refusal text form number NoMemory has short bad = bad

pub states : (text : List ℕ) (form : Form) (d : Declaration) → HasForm text form → HasShortNames form → HasRightPins form × Declares form d → States text d
states text form d has short both = record { form = form; has_form = has; short = short; right_pins = both.0; declares = both.1 }

pub all_short : (names : List (Bor (List ℕ))) → list_all (λ name. is_short name.now) names ≡ list_all is_short (map (λ name. name.now) names)
all_short [] = refl
all_short (name ∷ names) = ap (λ rest. is_short name.now && rest) (all_short names)

-- some lines state these declarations, and these lines are left
abbrev pub HasRead : List ℕ → List (ℕ × Declaration) → List (ℕ × List ℕ) → Type 0
HasRead text stated left = (before : List (ℕ × List ℕ)) × (numbered text ≡ before ++ left) × StateEach before stated

pub read_more : (text line : List ℕ) (number : ℕ) (d : Declaration) (stated longer : List (ℕ × Declaration)) (left rest : List (ℕ × List ℕ)) → HasRead text stated left → left ≡ (number, line) ∷ rest
    → States line d → longer ≡ stated ++ (number, d) ∷ [] → HasRead text longer rest
read_more text line number d stated longer left rest (before, whole, state) next says is =
    let more = before ++ (number, line) ∷ [] in (
      more,
      whole ∙ ap (λ (ls : List (ℕ × List ℕ)). before ++ ls) next ∙ sym (append_assoc before ((number, line) ∷ []) rest),
      subst (StateEach more) (sym is) (all_zipped_more (λ (l : ℕ × List ℕ) (x : ℕ × Declaration). (x.0 ≡ l.0) × States l.1 x.1) before stated (number, line) (number, d) state (refl, says)),
    )

first_fault : (IsFault : List ℕ → Type 0) (text line : List ℕ) (number at : ℕ) (stated : List (ℕ × Declaration)) (left rest : List (ℕ × List ℕ)) → HasRead text stated left → left ≡ (number, line) ∷ rest
    → at ≡ number → IsFault line → IsFirstFault IsFault text at
first_fault IsFault text line number at stated left rest (before, whole, state) next same fault =
    subst (IsFirstFault IsFault text) (sym same) (record {
      before = before;
      bad = line;
      after = rest;
      whole = whole ∙ ap (λ (ls : List (ℕ × List ℕ)). before ++ ls) next;
      said = stated;
      say = state;
      fault = fault;
    })

-- where the next line is refused, so is the text
pub refusal_of : (text line : List ℕ) (number : ℕ) (stated : List (ℕ × Declaration)) (left rest : List (ℕ × List ℕ)) (r : BenchRefusal) → HasRead text stated left → left ≡ (number, line) ∷ rest
    → IsLineRefusal line number r → IsRefusal text r
refusal_of text line number stated left rest (Syntax at) read next bad = first_fault _ text line number at stated left rest read next bad.0 bad.1
refusal_of text line number stated left rest (NameLong at) read next bad = first_fault _ text line number at stated left rest read next bad.0 bad.1
refusal_of text line number stated left rest (UnknownKind at) read next bad = first_fault _ text line number at stated left rest read next bad.0 bad.1
refusal_of text line number stated left rest (WrongPins at) read next bad = first_fault _ text line number at stated left rest read next bad.0 bad.1
refusal_of text line number stated left rest NoMemory read next bad = bad

pub whole_read : (text : List ℕ) (stated : List (ℕ × Declaration)) (left : List (ℕ × List ℕ)) → HasRead text stated left → left ≡ [] → Spells text stated
whole_read text stated left (before, whole, state) none =
    subst (λ (lines : List (ℕ × List ℕ)). StateEach lines stated) (sym (whole ∙ ap (λ (ls : List (ℕ × List ℕ)). before ++ ls) none ∙ append-nil before)) state
