-- What a text states has names of signals, and as many pins as each kind may have.
use Rattle.std.proofs.Common.{◌≡◌, ℕ, ◌≤◌, ◌==◌, true, not, IsTrue, eqb, List, [], ◌∷◌, length, map, Some, None, cond, refl, sym, ap, subst, ◌∙◌, inl, inr, arith, rules}
use Rattle.std.specs.Prelude.{⊤}
use Rattle.std.specs.List.{All, list_all}
use Rattle.std.proofs.lemmas.Bool.{cases_Bool, cond-true, cond-false, and_parts, and_from}
use Rattle.std.proofs.lemmas.List.Elements.{All-nil, All-cons, All-map}
use Rattle.std.proofs.lemmas.Option.{option_and_then_some}
use Rattle.sr_text.specs.Lines.{numbered}
use Rattle.sr_text.specs.Text.{is_blank}
use Rattle.sr_text.specs.Name.{is_name_byte, is_name}
use Rattle.sr_model.specs.Room.{WithRoom}
use Rattle.sr_model.specs.declared.statements.Numbered.{Numbered}
use Rattle.sr_model.specs.Declaration.{Declaration, declared, declarations_of, declaration_of}
use Rattle.netlist.specs.Numbering.{IsSignalName, IsStatement}
use Rattle.bench_reader.specs.Grammar.{Token, Name, Open, Close, Comma, Equals, is_mark, mark_of, begins_with_name, longer_name, with_byte, tokens, pin_tokens, Form, InputForm, OutputForm, DriverForm, HasTokens, is_short, signal_names, HasRightPins, Declares, States, StateEach, Spells}
use Rattle.bench_reader.specs.Laws.{SpellsStatements}
use Rattle.bench_reader.proofs.Tokens.{class_of, a_blank, a_mark, a_name, another}

-- each name among the tokens may stand as a name
abbrev AreNames : List Token → Type 0
AreNames [] = ⊤
AreNames (Name name ∷ ts) = IsTrue (is_name name) × AreNames ts
AreNames (Open ∷ ts) = AreNames ts
AreNames (Close ∷ ts) = AreNames ts
AreNames (Comma ∷ ts) = AreNames ts
AreNames (Equals ∷ ts) = AreNames ts

name_of_byte : (b : ℕ) → is_name_byte b ≡ true → is_name (b ∷ []) ≡ true
name_of_byte b e = rw e refl

name_before : (b : ℕ) (name : List ℕ) → is_name_byte b ≡ true → is_name name ≡ true → is_name (b ∷ name) ≡ true
name_before b name e is =
    let bytes : list_all is_name_byte name ≡ true = (and_parts (not (length name == 0)) (list_all is_name_byte name) is).1 in
    let some : not (length (b ∷ name) == 0) ≡ true = search (rules, arith) in
    and_from (not (length (b ∷ name) == 0)) (list_all is_name_byte (b ∷ name)) some (and_from (is_name_byte b) (list_all is_name_byte name) e bytes)

longer_names : (b : ℕ) (ts : List Token) → is_name_byte b ≡ true → AreNames ts → AreNames (longer_name b ts)
longer_names b [] e are = (name_of_byte b e, tt)
longer_names b (Name name ∷ ts) e are = (name_before b name e are.0, are.1)
longer_names b (Open ∷ ts) e are = (name_of_byte b e, are)
longer_names b (Close ∷ ts) e are = (name_of_byte b e, are)
longer_names b (Comma ∷ ts) e are = (name_of_byte b e, are)
longer_names b (Equals ∷ ts) e are = (name_of_byte b e, are)

mark_names : (b : ℕ) (ts : List Token) → AreNames ts → AreNames (mark_of b ∷ ts)
mark_names b ts are =
    elim (cases_Bool (eqb b 40)) [
      | inl e ↦ subst (λ t. AreNames (t ∷ ts)) (sym (cond-true (eqb b 40) Open _ e)) are
      | inr no40 ↦ elim (cases_Bool (eqb b 41)) [
        | inl e ↦ subst (λ t. AreNames (t ∷ ts)) (sym (cond-false (eqb b 40) Open _ no40 ∙ cond-true (eqb b 41) Close _ e)) are
        | inr no41 ↦ elim (cases_Bool (eqb b 44)) [
          | inl e ↦ subst (λ t. AreNames (t ∷ ts)) (sym (cond-false (eqb b 40) Open _ no40 ∙ cond-false (eqb b 41) Close _ no41 ∙ cond-true (eqb b 44) Comma Equals e)) are
          | inr no44 ↦ subst (λ t. AreNames (t ∷ ts)) (sym (cond-false (eqb b 40) Open _ no40 ∙ cond-false (eqb b 41) Close _ no41 ∙ cond-false (eqb b 44) Comma Equals no44)) are
        ]
      ]
    ]

byte_names : (b : ℕ) (text : List ℕ) (ts all : List Token) → AreNames ts → with_byte b text ts ≡ Some all → AreNames all
byte_names b text ts all are e = elim (class_of b) [
  | a_blank f ↦ let same : ts ≡ all = (let both = sym (cond-true (is_blank b) (Some ts) _ f) ∙ e in cc) in subst AreNames same are
  | a_mark f m ↦ let same : mark_of b ∷ ts ≡ all = (let both = sym (cond-false (is_blank b) (Some ts) _ f ∙ cond-true (is_mark b) (Some (mark_of b ∷ ts)) _ m) ∙ e in cc) in
      subst AreNames same (mark_names b ts are)
  | a_name f m n ↦
      let is : Some (cond (begins_with_name text) (longer_name b ts) (Name (b ∷ []) ∷ ts)) ≡ Some all =
      sym (cond-false (is_blank b) (Some ts) _ f ∙ cond-false (is_mark b) (Some (mark_of b ∷ ts)) _ m ∙ cond-true (is_name_byte b) _ None n) ∙ e in
      elim (cases_Bool (begins_with_name text)) [
        | inl later ↦ let same : longer_name b ts ≡ all = (let both = ap (λ x. Some x) (sym (cond-true (begins_with_name text) (longer_name b ts) (Name (b ∷ []) ∷ ts) later)) ∙ is in cc) in
            subst AreNames same (longer_names b ts n are)
        | inr first ↦ let same : Name (b ∷ []) ∷ ts ≡ all = (let both = ap (λ x. Some x) (sym (cond-false (begins_with_name text) (longer_name b ts) (Name (b ∷ []) ∷ ts) first)) ∙ is in cc) in
            subst AreNames same (name_of_byte b n, are)
      ]
  | another f m n ↦ absurd (let none : None ≡ Some all =
      sym (cond-false (is_blank b) (Some ts) _ f ∙ cond-false (is_mark b) (Some (mark_of b ∷ ts)) _ m ∙ cond-false (is_name_byte b) _ None n) ∙ e in cc)
]

are_names : (text : List ℕ) (ts : List Token) → tokens text ≡ Some ts → AreNames ts
are_names [] ts e = let empty : [] ≡ ts = cc in subst AreNames empty tt
are_names (b ∷ text) ts e = option_and_then_some (with_byte b text) (tokens text) ts e (λ rest is all. byte_names b text rest ts (are_names text rest is) all)

abbrev AllNames : List (List ℕ) → Type 0
AllNames names = IsTrue (list_all is_name names)

pin_names_are : (pins : List (List ℕ)) → AreNames (pin_tokens pins) → AllNames pins
pin_names_are [] are = refl
pin_names_are (pin ∷ []) are = and_from (is_name pin) true are.0 refl
pin_names_are (pin ∷ next ∷ pins) are = and_from (is_name pin) (list_all is_name (next ∷ pins)) are.0 (pin_names_are (next ∷ pins) are.1)

form_names : (ts : List Token) (form : Form) → AreNames ts → HasTokens ts form → AllNames (signal_names form)
form_names ts (InputForm name) are (w, is, e) = let all = subst AreNames e are in and_from (is_name name) true all.1.0 refl
form_names ts (OutputForm name) are (w, is, e) = let all = subst AreNames e are in and_from (is_name name) true all.1.0 refl
form_names ts (DriverForm target w pins) are (some, e) =
    let all = subst AreNames e are in and_from (is_name target) (list_all is_name pins) all.0 (pin_names_are pins all.1.1)

signal_names_are : (names : List (List ℕ)) → AllNames names → IsTrue (list_all is_short names) → All IsSignalName names
signal_names_are [] are short = All-nil IsSignalName
signal_names_are (name ∷ names) are short =
    let a = and_parts (is_name name) (list_all is_name names) are in
    let b = and_parts (is_short name) (list_all is_short names) short in
    let few : length name ≤ 255 = search (rules, arith) in
    All-cons IsSignalName name names (a.0, few) (signal_names_are names a.1 b.1)

declared_is : (form : Form) (d : Declaration) → Declares form d → HasRightPins form → All IsSignalName (signal_names form) → IsStatement d
declared_is (InputForm name) d e right are = subst IsStatement (sym e) (tt, are)
declared_is (OutputForm name) d e right are = subst IsStatement (sym e) (tt, are)
declared_is (DriverForm target w pins) d (kind, is, e) right are = subst IsStatement (sym e) (right kind is, are)

stated_is : (text : List ℕ) (d : Declaration) → States text d → IsStatement d
stated_is text d is =
    declared_is is.form d is.declares is.right_pins (signal_names_are (signal_names is.form) (form_names is.has_form.0 is.form (are_names text is.has_form.0 is.has_form.1) is.has_form.2) is.short)

each_is : (lines : List (ℕ × List ℕ)) (stated : List (ℕ × Declaration)) → StateEach lines stated → All (λ x. IsStatement x.1) stated
each_is [] [] state = All-nil (λ x. IsStatement x.1)
each_is [] (x ∷ stated) state = absurd state
each_is (line ∷ lines) [] state = absurd state
each_is (line ∷ lines) (x ∷ stated) state = All-cons (λ y. IsStatement y.1) x stated (stated_is line.1 x.1 state.0.1) (each_is lines stated state.1)

declared-of : (numbered : List Numbered) → map (λ (x : ℕ × Declaration). x.1) (map (λ s. (s.line, declaration_of s.statement)) numbered) ≡ map (λ s. declaration_of s.statement) numbered
declared-of [] = refl
declared-of (s ∷ numbered) = ap (λ (ds : List Declaration). declaration_of s.statement ∷ ds) (declared-of numbered)

pub spells_statements : SpellsStatements
spells_statements text stated spells = All-map IsStatement (λ (x : ℕ × Declaration). x.1) stated (each_is (numbered text) stated spells)

-- the statements of a text that was read
pub spelled_are : (text : List ℕ) (s : WithRoom Numbered) → Spells text (declarations_of s) → All IsStatement (declared s)
spelled_are text s spells = subst (λ (ds : List Declaration). All IsStatement ds) (declared-of s.items) (spells_statements text (declarations_of s) spells)
