-- What a printed text states.
use Rattle.std.proofs.Common.{◌≡◌, ◌≢◌, ℕ, suc, ◌+◌, ◌-◌, ◌<◌, ◌==◌, ◌&&◌, Bool, true, false, not, eqb, List, [], ◌∷◌, ◌++◌, length, get_or, map, refl, sym, ap, subst, ◌∙◌, arith, rules, append_assoc, inl, inr}
use Rattle.std.specs.Prelude.{codes, nat_lt}
use Rattle.std.specs.List.{All, list_all, flat_map, prefix_len}
use Rattle.std.proofs.lemmas.Bool.{and_parts, and_from, cases_Bool, cond-false, eq-eqb, false≢true, ltb-true, not-true}
use Rattle.std.proofs.lemmas.List.{append-nil, get_or_at, length-append}
use Rattle.std.proofs.lemmas.List.Concat.{flat_map-append}
use Rattle.std.proofs.lemmas.List.Elements.{All-map}
use Rattle.std.proofs.lemmas.List.Folds.{flat_map-map}
use Rattle.std.proofs.lemmas.List.Sums.{AllPass-from_list_all}
use Rattle.sr_model.specs.declared.cells.Sig.{Sig}
use Rattle.sr_model.specs.Declaration.{Declaration, InputNamed, OutputNamed, DriverNamed}
use Rattle.sr_model.specs.Gate.{IsPinCount}
use Rattle.sr_model.specs.Netlist.{Driver, Input, Driven}
use Rattle.sr_text.specs.Lines.{with_line_feed}
use Rattle.sr_text.specs.Name.{is_name_byte, is_name}
use Rattle.sr_text.specs.Text.{is_blank}
use Rattle.sr_text.proofs.lemmas.PrintedLines.{IsPrinted, ArePrinted, from_number, numbered_printed}
use Rattle.netlist.specs.Circuit.{Circuit}
use Rattle.netlist.specs.Numbering.{IsSignalName, IsStatement}
use Rattle.netlist.specs.Wiring.{driver_at, signals_below}
use Rattle.bench_reader.specs.Grammar.{tokens, InputForm, OutputForm, DriverForm, is_short, States, StateEach, Spells}
use Rattle.bench_reader.specs.Kinds.{kind_text}
use Rattle.bench_reader.specs.Printed.{name_in, listed, port_line, driver_line, bench_text}
use Rattle.bench_reader.proofs.KindWords.{printed_kind, has_pins}
use Rattle.bench_reader.proofs.SignalNames.{flat_agree}
use Rattle.bench_reader.proofs.Tokens.{name_is_no_blank}
use Rattle.bench_reader.proofs.PrintedTokens.{tokens-port, tokens-driver, name_bytes}

-- ---- the statements of a netlist, in the order of their lines

abbrev pub driver_stated : List (List ℕ) → Sig → Driver → List Declaration
driver_stated names s Input = []
driver_stated names s (Driven kind pins) = DriverNamed (name_in names s) kind (map (name_in names) pins) ∷ []

abbrev pub inputs_stated : Circuit → List Declaration
inputs_stated c = map (λ s. InputNamed (name_in c.names s)) c.inputs

abbrev pub outputs_stated : Circuit → List Declaration
outputs_stated c = map (λ s. OutputNamed (name_in c.names s)) c.outputs

abbrev pub drivers_stated : Circuit → List Sig → List Declaration
drivers_stated c signals = flat_map (λ s. driver_stated c.names s (driver_at c.drivers s.0)) signals

abbrev pub stated_by : Circuit → List Declaration
stated_by c = inputs_stated c ++ outputs_stated c ++ drivers_stated c (signals_below (length c.drivers))

-- ---- and their lines

-- a statement's line, without the bracket at its end
abbrev front_of : Declaration → List ℕ
front_of (InputNamed name) = codes "INPUT" ++ codes "(" ++ name
front_of (OutputNamed name) = codes "OUTPUT" ++ codes "(" ++ name
front_of (DriverNamed target kind pins) = target ++ codes " = " ++ kind_text kind ++ codes "(" ++ listed pins

abbrev line_of : Declaration → List ℕ
line_of d = front_of d ++ codes ")\n"

abbrev pub body_of : Declaration → List ℕ
body_of d = front_of d ++ 41 ∷ []

drivers_text : (c : Circuit) (signals : List Sig) → flat_map (λ s. driver_line c.names s (driver_at c.drivers s.0)) signals ≡ flat_map line_of (drivers_stated c signals)
drivers_text c [] = refl
drivers_text c (s ∷ signals) =
    ap (λ (t : List ℕ). t ++ flat_map (λ s. driver_line c.names s (driver_at c.drivers s.0)) signals) (one (driver_at c.drivers s.0))
    ∙ ap (λ (t : List ℕ). flat_map line_of (driver_stated c.names s (driver_at c.drivers s.0)) ++ t) (drivers_text c signals)
    ∙ sym (flat_map-append line_of (driver_stated c.names s (driver_at c.drivers s.0)) (drivers_stated c signals))
  where
    one : (driver : Driver) → driver_line c.names s driver ≡ flat_map line_of (driver_stated c.names s driver)
    one Input = refl
    one (Driven kind pins) = sym (append-nil (driver_line c.names s (Driven kind pins)))

pub text_stated : (c : Circuit) → bench_text c ≡ flat_map with_line_feed (map body_of (stated_by c))
text_stated c =
    let ins = flat_map (λ s. port_line (codes "INPUT") (name_in c.names s)) c.inputs in
    let outs = flat_map (λ s. port_line (codes "OUTPUT") (name_in c.names s)) c.outputs in
    let signals = signals_below (length c.drivers) in
    ap (λ (t : List ℕ). ins ++ outs ++ t) (drivers_text c signals)
    ∙ ap (λ (t : List ℕ). ins ++ t ++ flat_map line_of (drivers_stated c signals)) (sym (flat_map-map line_of (λ s. OutputNamed (name_in c.names s)) c.outputs))
    ∙ ap (λ (t : List ℕ). t ++ flat_map line_of (outputs_stated c) ++ flat_map line_of (drivers_stated c signals)) (sym (flat_map-map line_of (λ s. InputNamed (name_in c.names s)) c.inputs))
    ∙ ap (λ (t : List ℕ). t ++ flat_map line_of (drivers_stated c signals)) (sym (flat_map-append line_of (inputs_stated c) (outputs_stated c)))
    ∙ sym (flat_map-append line_of (inputs_stated c ++ outputs_stated c) (drivers_stated c signals))
    ∙ flat_agree line_of (λ d. with_line_feed (body_of d)) (stated_by c) (λ d. sym (append_assoc (front_of d) (41 ∷ []) (10 ∷ [])))
    ∙ sym (flat_map-map with_line_feed body_of (stated_by c))

-- ---- each line states its statement

All-first : {X : Type 0} (P : X → Type 0) (x : X) (xs : List X) → All P (x ∷ xs) → P x
All-first P x xs all = all 0 x (omega arith)

All-rest : {X : Type 0} (P : X → Type 0) (x : X) (xs : List X) → All P (x ∷ xs) → All P xs
All-rest P x xs all k d lt = all (suc k) d (omega arith)

names_are : (names : List (List ℕ)) → All IsSignalName names → list_all is_name names ≡ true
names_are [] all = refl
names_are (name ∷ names) all = and_from (is_name name) (list_all is_name names) (All-first IsSignalName name names all).0 (names_are names (All-rest IsSignalName name names all))

names_short : (names : List (List ℕ)) → All IsSignalName names → list_all is_short names ≡ true
names_short [] all = refl
names_short (name ∷ names) all =
    let few = (All-first IsSignalName name names all).1 in
    let short : is_short name ≡ true = search (rules, arith) in
    and_from (is_short name) (list_all is_short names) short (names_short names (All-rest IsSignalName name names all))

-- a byte that neither ends a line nor begins a comment
abbrev is_plain : ℕ → Bool
is_plain b = nat_lt 31 b && not (b == 35)

name_is_plain : (b : ℕ) → is_name_byte b ≡ true → is_plain b ≡ true
name_is_plain b n = elim (cases_Bool (is_plain b)) [ inl p ↦ p | inr e ↦ absurd (search (arith, rules)) ]

list_all-weaker : (p q : ℕ → Bool) (xs : List ℕ) → ((b : ℕ) → p b ≡ true → q b ≡ true) → list_all p xs ≡ true → list_all q xs ≡ true
list_all-weaker p q [] weaker all = refl
list_all-weaker p q (b ∷ xs) weaker all =
    let parts = and_parts (p b) (list_all p xs) all in and_from (q b) (list_all q xs) (weaker b parts.0) (list_all-weaker p q xs weaker parts.1)

plain_both : (xs ys : List ℕ) → list_all is_plain xs ≡ true → list_all is_plain ys ≡ true → list_all is_plain (xs ++ ys) ≡ true
plain_both [] ys a b = b
plain_both (x ∷ xs) ys a b =
    let parts = and_parts (is_plain x) (list_all is_plain xs) a in and_from (is_plain x) (list_all is_plain (xs ++ ys)) parts.0 (plain_both xs ys parts.1 b)

name_plain : (name : List ℕ) → is_name name ≡ true → list_all is_plain name ≡ true
name_plain name is = list_all-weaker is_name_byte is_plain name name_is_plain (name_bytes name is)

listed_plain : (names : List (List ℕ)) → list_all is_name names ≡ true → list_all is_plain (listed names) ≡ true
listed_plain [] are = refl
listed_plain (name ∷ []) are = name_plain name (and_parts (is_name name) true are).0
listed_plain (name ∷ next ∷ names) are =
    let parts = and_parts (is_name name) (list_all is_name (next ∷ names)) are in
    plain_both (name ++ codes ", ") (listed (next ∷ names)) (plain_both name (codes ", ") (name_plain name parts.0) refl) (listed_plain (next ∷ names) parts.1)

front_plain : (d : Declaration) → IsStatement d → list_all is_plain (front_of d) ≡ true
front_plain (InputNamed name) is = plain_both (codes "INPUT" ++ codes "(") name refl (name_plain name (All-first IsSignalName name [] is.1).0)
front_plain (OutputNamed name) is = plain_both (codes "OUTPUT" ++ codes "(") name refl (name_plain name (All-first IsSignalName name [] is.1).0)
front_plain (DriverNamed target kind pins) is =
    let are = names_are (target ∷ pins) is.1 in
    let parts = and_parts (is_name target) (list_all is_name pins) are in
    plain_both (target ++ codes " = " ++ kind_text kind ++ codes "(") (listed pins)
    (plain_both (target ++ codes " = " ++ kind_text kind) (codes "(")
    (plain_both (target ++ codes " = ") (kind_text kind) (plain_both target (codes " = ") (name_plain target parts.0) refl) (name_plain (kind_text kind) (printed_kind kind).0)) refl)
    (listed_plain pins parts.1)

plain_is : (b : ℕ) → is_plain b ≡ true → (31 < b) × (b ≢ 35)
plain_is b plain =
    let parts = and_parts (nat_lt 31 b) (not (b == 35)) plain in
    (ltb-true 31 b parts.0, λ e. false≢true (sym (not-true (eqb b 35) parts.1) ∙ eq-eqb b 35 e))

-- the first byte of a line is no blank
abbrev BeginsSolid : List ℕ → Type 0
BeginsSolid line = (b : ℕ) × (rest : List ℕ) × (line ≡ b ∷ rest) × (is_blank b ≡ false)

begins_solid : (d : Declaration) → IsStatement d → BeginsSolid (body_of d)
begins_solid (InputNamed name) is = (73, codes "NPUT" ++ codes "(" ++ name ++ 41 ∷ [], refl, refl)
begins_solid (OutputNamed name) is = (79, codes "UTPUT" ++ codes "(" ++ name ++ 41 ∷ [], refl, refl)
begins_solid (DriverNamed [] kind pins) is = absurd (let named = (All-first IsSignalName [] pins is.1).0 in cc)
begins_solid (DriverNamed (b ∷ target) kind pins) is =
    let named = (All-first IsSignalName (b ∷ target) pins is.1).0 in
    let byte = (and_parts (is_name_byte b) (list_all is_name_byte target) (name_bytes (b ∷ target) named)).0 in
    (b, target ++ codes " = " ++ kind_text kind ++ codes "(" ++ listed pins ++ 41 ∷ [], refl, name_is_no_blank b byte)

body_printed : (d : Declaration) → IsStatement d → IsPrinted (body_of d)
body_printed d is =
    let body : List ℕ = body_of d in
    let size : length body ≡ length (front_of d) + 1 = length-append (front_of d) (41 ∷ []) in
    let solid = begins_solid d is in
    let plain = AllPass-from_list_all is_plain body (plain_both (front_of d) (41 ∷ []) (front_plain d is) refl) in
    let last : get_or body (length body - 1) 0 ≡ 41 = get_or_at (front_of d) 41 [] 0 (length body - 1) (omega (arith, size)) in
    record {
      some = omega (arith, size);
      bytes = λ k e lt. plain_is (get_or body k e) (plain k e lt);
      begins = ap (prefix_len is_blank) solid.2 ∙ cond-false (is_blank solid.0) (1 + prefix_len is_blank solid.1) 0 solid.3;
      ends = omega (arith, last);
    }

port_grouped : (word name : List ℕ) → word ++ codes "(" ++ name ++ 41 ∷ [] ≡ word ++ (40 ∷ (name ++ 41 ∷ []))
port_grouped word name = append_assoc (word ++ codes "(") name (41 ∷ []) ∙ append_assoc word (codes "(") (name ++ 41 ∷ [])

driver_grouped : (target word pins : List ℕ) → target ++ codes " = " ++ word ++ codes "(" ++ pins ++ 41 ∷ [] ≡ target ++ (32 ∷ 61 ∷ 32 ∷ (word ++ (40 ∷ (pins ++ 41 ∷ []))))
driver_grouped target word pins =
    append_assoc (target ++ codes " = " ++ word ++ codes "(") pins (41 ∷ []) ∙ append_assoc (target ++ codes " = " ++ word) (codes "(") (pins ++ 41 ∷ [])
    ∙ append_assoc (target ++ codes " = ") word (40 ∷ (pins ++ 41 ∷ [])) ∙ append_assoc target (codes " = ") (word ++ (40 ∷ (pins ++ 41 ∷ [])))

body_states : (d : Declaration) → IsStatement d → States (body_of d) d
body_states (InputNamed name) is =
    let named = (All-first IsSignalName name [] is.1).0 in
    record {
      form = InputForm name;
      has_form = (_, ap tokens (port_grouped (codes "INPUT") name) ∙ tokens-port (codes "INPUT") name refl named, (codes "INPUT", refl, refl));
      short = names_short (name ∷ []) is.1;
      right_pins = tt;
      declares = refl;
    }
body_states (OutputNamed name) is =
    let named = (All-first IsSignalName name [] is.1).0 in
    record {
      form = OutputForm name;
      has_form = (_, ap tokens (port_grouped (codes "OUTPUT") name) ∙ tokens-port (codes "OUTPUT") name refl named, (codes "OUTPUT", refl, refl));
      short = names_short (name ∷ []) is.1;
      right_pins = tt;
      declares = refl;
    }
body_states (DriverNamed target kind pins) is =
    let parts = and_parts (is_name target) (list_all is_name pins) (names_are (target ∷ pins) is.1) in
    record {
      form = DriverForm target (kind_text kind) pins;
      has_form = (
        _,
        ap tokens (driver_grouped target (kind_text kind) (listed pins)) ∙ tokens-driver target (kind_text kind) pins parts.0 (printed_kind kind).0 parts.1,
        (has_pins kind pins is.0, refl),
      );
      short = names_short (target ∷ pins) is.1;
      right_pins = λ other named. subst (λ k. IsPinCount k (length pins)) (let both = sym (printed_kind kind).1 ∙ named in let same : kind ≡ other = cc in same) is.0;
      declares = (kind, (printed_kind kind).1, refl);
    }

pub numbered-without : (n : ℕ) (ds : List Declaration) → map (λ (d : ℕ × Declaration). d.1) (from_number n ds) ≡ ds
numbered-without n [] = refl
numbered-without n (d ∷ ds) = ap (λ es. d ∷ es) (numbered-without (n + 1) ds)

bodies_state : (n : ℕ) (ds : List Declaration) → All IsStatement ds → StateEach (from_number n (map body_of ds)) (from_number n ds)
bodies_state n [] all = tt
bodies_state n (d ∷ ds) all = ((refl, body_states d (All-first IsStatement d ds all)), bodies_state (n + 1) ds (All-rest IsStatement d ds all))

pub spelled : (ds : List Declaration) → All IsStatement ds → Spells (flat_map with_line_feed (map body_of ds)) (from_number 1 ds)
spelled ds all =
    let are : ArePrinted (map body_of ds) = All-map IsPrinted body_of ds (λ k d lt. body_printed (get_or ds k d) (all k d lt)) in
    subst (λ (lines : List (ℕ × List ℕ)). StateEach lines (from_number 1 ds)) (sym (numbered_printed (map body_of ds) are)) (bodies_state 1 ds all)
