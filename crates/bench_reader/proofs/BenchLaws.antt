-- A text has one reading, or is refused in one way.
use Rattle.std.proofs.Common.{◌≡◌, ◌≢◌, ℕ, ◌<◌, IsTrue, List, [], ◌∷◌, ◌++◌, length, refl, sym, ap, subst, ◌∙◌, inl, inr, arith, rules}
use Rattle.std.specs.Prelude.{codes}
use Rattle.std.specs.Str.{str_eq_ignore_ascii_case}
use Rattle.sr_model.specs.Declaration.{Declaration}
use Rattle.sr_text.specs.Lines.{numbered}
use Rattle.sr_text.proofs.lemmas.FirstFaults.{Line, part}
use Rattle.bench_reader.specs.declared.reader.BenchRefusal.TheVariants.{Syntax, NameLong, UnknownKind, WrongPins, NoMemory}
use Rattle.bench_reader.specs.Grammar.{Token, Form, InputForm, OutputForm, DriverForm, HasTokens, HasForm, HasShortNames, HasRightPins, IsKnownKind, Declares, States, StateEach, Spells, IsFirstFault, IsSyntaxFault, IsNameFault, IsKindFault, IsPinFault}
use Rattle.bench_reader.specs.Laws.{HasOneReading, IsRefusedOnce, ReadTextsAreNotRefused}
use Rattle.bench_reader.proofs.Forms.{driver_is}

input_is_no_output : (word : List ℕ) → IsTrue (str_eq_ignore_ascii_case word (codes "INPUT")) → IsTrue (str_eq_ignore_ascii_case word (codes "OUTPUT")) → ⊥
input_is_no_output [] a b = absurd cc
input_is_no_output (c ∷ word) a b = search (rules, arith)

some_pins : (pins : List (List ℕ)) → pins ≢ [] → 0 < length pins
some_pins [] some = absurd (some refl)
some_pins (pin ∷ pins) some = omega arith

one_form : (ts : List Token) (f g : Form) → HasTokens ts f → HasTokens ts g → f ≡ g
one_form ts (InputForm a) (InputForm b) (w, is, e) (x, is_x, h) = let same = sym e ∙ h in cc
one_form ts (InputForm a) (OutputForm b) (w, is, e) (x, is_x, h) =
    let words : x ≡ w = let same = sym h ∙ e in cc in
    absurd (input_is_no_output w is (subst (λ (y : List ℕ). IsTrue (str_eq_ignore_ascii_case y (codes "OUTPUT"))) words is_x))
one_form ts (OutputForm a) (InputForm b) (w, is, e) (x, is_x, h) =
    let words : x ≡ w = let same = sym h ∙ e in cc in
    absurd (input_is_no_output w (subst (λ (y : List ℕ). IsTrue (str_eq_ignore_ascii_case y (codes "INPUT"))) words is_x) is)
one_form ts (OutputForm a) (OutputForm b) (w, is, e) (x, is_x, h) = let same = sym e ∙ h in cc
one_form ts (InputForm a) (DriverForm t k pins) (w, is, e) (some, h) = absurd (let same = sym e ∙ h in cc)
one_form ts (OutputForm a) (DriverForm t k pins) (w, is, e) (some, h) = absurd (let same = sym e ∙ h in cc)
one_form ts (DriverForm t k pins) g (some, e) has = sym (driver_is t k pins g (some_pins pins some) (subst (λ (x : List Token). HasTokens x g) e has))

same_form : (text : List ℕ) (f g : Form) → HasForm text f → HasForm text g → f ≡ g
same_form text f g (ts, e, has) (us, h, has_g) =
    let same : us ≡ ts = let both = sym h ∙ e in cc in
    one_form ts f g has (subst (λ (x : List Token). HasTokens x g) same has_g)

one_declaration : (f : Form) (d e : Declaration) → Declares f d → Declares f e → d ≡ e
one_declaration (InputForm name) d e a b = a ∙ sym b
one_declaration (OutputForm name) d e a b = a ∙ sym b
one_declaration (DriverForm t w pins) d e (k, is, a) (j, js, b) =
    let kinds : k ≡ j = let both = sym is ∙ js in cc in
    cc

states_once : (text : List ℕ) (d e : Declaration) → States text d → States text e → d ≡ e
states_once text d e a b =
    let forms : b.form ≡ a.form = same_form text b.form a.form b.has_form a.has_form in
    one_declaration a.form d e a.declares (subst (λ f. Declares f e) forms b.declares)

same_stated : (lines : List Line) (a b : List (ℕ × Declaration)) → StateEach lines a → StateEach lines b → a ≡ b
same_stated [] [] [] is_a is_b = refl
same_stated [] [] (y ∷ b) is_a is_b = absurd is_b
same_stated [] (x ∷ a) b is_a is_b = absurd is_a
same_stated (line ∷ lines) [] b is_a is_b = absurd is_a
same_stated (line ∷ lines) (x ∷ a) [] is_a is_b = absurd is_b
same_stated (line ∷ lines) (x ∷ a) (y ∷ b) is_a is_b =
    ap (λ n. (n, x.1) ∷ a) (is_a.0.0 ∙ sym is_b.0.0) ∙ ap (λ (d : Declaration). (y.0, d) ∷ a) (states_once line.1 x.1 y.1 is_a.0.1 is_b.0.1)
    ∙ ap (λ (others : List (ℕ × Declaration)). y ∷ others) (same_stated lines a b is_a.1 is_b.1)

pub one_reading : HasOneReading
one_reading text a b is_a is_b = same_stated (numbered text) a b is_a is_b

-- a line that states nothing
abbrev NotRead : List ℕ → Type 0
NotRead text = (d : Declaration) → States text d → ⊥

syntax_not_read : (text : List ℕ) → IsSyntaxFault text → NotRead text
syntax_not_read text none d is = none is.form is.has_form

name_not_read : (text : List ℕ) → IsNameFault text → NotRead text
name_not_read text (f, has, long) d is = long (subst HasShortNames (same_form text is.form f is.has_form has) is.short)

known_by : (f : Form) (d : Declaration) → Declares f d → IsKnownKind f
known_by (InputForm name) d is = tt
known_by (OutputForm name) d is = tt
known_by (DriverForm t w pins) d (k, is, e) = λ none. absurd (let both = sym is ∙ none in cc)

kind_not_read : (text : List ℕ) → IsKindFault text → NotRead text
kind_not_read text (f, has, short, unknown) d is = unknown (subst IsKnownKind (same_form text is.form f is.has_form has) (known_by is.form d is.declares))

pin_not_read : (text : List ℕ) → IsPinFault text → NotRead text
pin_not_read text (f, has, short, known, wrong) d is = wrong (subst HasRightPins (same_form text is.form f is.has_form has) is.right_pins)

-- a line that is read can't be bad
never_read : (before after : List Line) (bad : Line) (stated : List (ℕ × Declaration)) → StateEach (before ++ bad ∷ after) stated → NotRead bad.1 → ⊥
never_read [] after bad [] state not_read = absurd state
never_read [] after bad (x ∷ stated) state not_read = not_read x.1 state.0.1
never_read (line ∷ before) after bad [] state not_read = absurd state
never_read (line ∷ before) after bad (x ∷ stated) state not_read = never_read before after bad stated state.1 not_read

-- two first faults are of one line, at one number
same_fault : (P Q : List ℕ → Type 0) (text : List ℕ) (i j : ℕ) → ((t : List ℕ) → P t → NotRead t) → ((t : List ℕ) → Q t → NotRead t) → IsFirstFault P text i → IsFirstFault Q text j
    → (i ≡ j) × ((t : List ℕ) × P t × Q t)
same_fault P Q text i j not_p not_q a b =
    elim (part a.before b.before a.after b.after (i, a.bad) (j, b.bad) (sym a.whole ∙ b.whole)) [
      | inl same ↦ (ap (λ (l : Line). l.0) same.1, (a.bad, a.fault, subst Q (sym (ap (λ (l : Line). l.1) same.1)) b.fault))
      | inr (inl on) ↦ absurd (never_read a.before on.0 (i, a.bad) b.said (subst (λ (ls : List Line). StateEach ls b.said) on.1 b.say) (not_p a.bad a.fault))
      | inr (inr on) ↦ absurd (never_read b.before on.0 (j, b.bad) a.said (subst (λ (ls : List Line). StateEach ls a.said) on.1 a.say) (not_q b.bad b.fault))
    ]

not_read : (P : List ℕ → Type 0) (text : List ℕ) (i : ℕ) (stated : List (ℕ × Declaration)) → ((t : List ℕ) → P t → NotRead t) → Spells text stated → IsFirstFault P text i → ⊥
not_read P text i stated not_p spells fault =
    never_read fault.before fault.after (i, fault.bad) stated (subst (λ (ls : List Line). StateEach ls stated) fault.whole spells) (not_p fault.bad fault.fault)

pub not_both : ReadTextsAreNotRefused
not_both text stated (Syntax i) spells bad = absurd (not_read IsSyntaxFault text i stated syntax_not_read spells bad)
not_both text stated (NameLong i) spells bad = absurd (not_read IsNameFault text i stated name_not_read spells bad)
not_both text stated (UnknownKind i) spells bad = absurd (not_read IsKindFault text i stated kind_not_read spells bad)
not_both text stated (WrongPins i) spells bad = absurd (not_read IsPinFault text i stated pin_not_read spells bad)
not_both text stated NoMemory spells bad = refl

-- a form that a line has
abbrev WithForm : (Form → Type 0) → List ℕ → Type 0
WithForm P t = (f : Form) × HasForm t f × P f

name_form : (t : List ℕ) → IsNameFault t → WithForm (λ f. Unit {0}) t
name_form t (f, has, long) = (f, has, tt)

kind_form : (t : List ℕ) → IsKindFault t → WithForm HasShortNames t
kind_form t (f, has, short, unknown) = (f, has, short)

pin_form : (t : List ℕ) → IsPinFault t → WithForm HasShortNames t
pin_form t (f, has, short, known, wrong) = (f, has, short)

syntax_alone : (Q : List ℕ → Type 0) (P : Form → Type 0) (text : List ℕ) (i j : ℕ) → ((t : List ℕ) → Q t → NotRead t) → ((t : List ℕ) → Q t → WithForm P t) → IsFirstFault IsSyntaxFault text i
    → IsFirstFault Q text j → ⊥
syntax_alone Q P text i j not_q with_form is_a is_b =
    let both = (same_fault IsSyntaxFault Q text i j syntax_not_read not_q is_a is_b).1 in
    let form = with_form both.0 both.2 in
    both.1 form.0 form.1

name_alone : (Q : List ℕ → Type 0) (text : List ℕ) (i j : ℕ) → ((t : List ℕ) → Q t → NotRead t) → ((t : List ℕ) → Q t → WithForm HasShortNames t) → IsFirstFault IsNameFault text i
    → IsFirstFault Q text j → ⊥
name_alone Q text i j not_q with_form is_a is_b =
    let both = (same_fault IsNameFault Q text i j name_not_read not_q is_a is_b).1 in
    let form = with_form both.0 both.2 in
    both.1.2 (subst HasShortNames (same_form both.0 form.0 both.1.0 form.1 both.1.1) form.2)

kind_alone : (text : List ℕ) (i j : ℕ) → IsFirstFault IsKindFault text i → IsFirstFault IsPinFault text j → ⊥
kind_alone text i j is_a is_b =
    let both = (same_fault IsKindFault IsPinFault text i j kind_not_read pin_not_read is_a is_b).1 in
    both.1.3 (subst IsKnownKind (same_form both.0 both.2.0 both.1.0 both.2.1 both.1.1) both.2.3)

pub one_refusal : IsRefusedOnce
one_refusal text NoMemory b is_a is_b some_a some_b = absurd (some_a refl)
one_refusal text a NoMemory is_a is_b some_a some_b = absurd (some_b refl)
one_refusal text (Syntax i) (Syntax j) is_a is_b some_a some_b = ap (λ n. Syntax n) (same_fault IsSyntaxFault IsSyntaxFault text i j syntax_not_read syntax_not_read is_a is_b).0
one_refusal text (NameLong i) (NameLong j) is_a is_b some_a some_b = ap (λ n. NameLong n) (same_fault IsNameFault IsNameFault text i j name_not_read name_not_read is_a is_b).0
one_refusal text (UnknownKind i) (UnknownKind j) is_a is_b some_a some_b = ap (λ n. UnknownKind n) (same_fault IsKindFault IsKindFault text i j kind_not_read kind_not_read is_a is_b).0
one_refusal text (WrongPins i) (WrongPins j) is_a is_b some_a some_b = ap (λ n. WrongPins n) (same_fault IsPinFault IsPinFault text i j pin_not_read pin_not_read is_a is_b).0
one_refusal text (Syntax i) (NameLong j) is_a is_b some_a some_b = absurd (syntax_alone IsNameFault _ text i j name_not_read name_form is_a is_b)
one_refusal text (Syntax i) (UnknownKind j) is_a is_b some_a some_b = absurd (syntax_alone IsKindFault _ text i j kind_not_read kind_form is_a is_b)
one_refusal text (Syntax i) (WrongPins j) is_a is_b some_a some_b = absurd (syntax_alone IsPinFault _ text i j pin_not_read pin_form is_a is_b)
one_refusal text (NameLong i) (Syntax j) is_a is_b some_a some_b = absurd (syntax_alone IsNameFault _ text j i name_not_read name_form is_b is_a)
one_refusal text (UnknownKind i) (Syntax j) is_a is_b some_a some_b = absurd (syntax_alone IsKindFault _ text j i kind_not_read kind_form is_b is_a)
one_refusal text (WrongPins i) (Syntax j) is_a is_b some_a some_b = absurd (syntax_alone IsPinFault _ text j i pin_not_read pin_form is_b is_a)
one_refusal text (NameLong i) (UnknownKind j) is_a is_b some_a some_b = absurd (name_alone IsKindFault text i j kind_not_read kind_form is_a is_b)
one_refusal text (NameLong i) (WrongPins j) is_a is_b some_a some_b = absurd (name_alone IsPinFault text i j pin_not_read pin_form is_a is_b)
one_refusal text (UnknownKind i) (NameLong j) is_a is_b some_a some_b = absurd (name_alone IsKindFault text j i kind_not_read kind_form is_b is_a)
one_refusal text (WrongPins i) (NameLong j) is_a is_b some_a some_b = absurd (name_alone IsPinFault text j i pin_not_read pin_form is_b is_a)
one_refusal text (UnknownKind i) (WrongPins j) is_a is_b some_a some_b = absurd (kind_alone text i j is_a is_b)
one_refusal text (WrongPins i) (UnknownKind j) is_a is_b some_a some_b = absurd (kind_alone text j i is_b is_a)
