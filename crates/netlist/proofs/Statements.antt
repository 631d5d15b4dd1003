-- Statement after statement.
use Rattle.std.proofs.Common.{◌≡◌, ℕ, suc, ◌+◌, ◌<◌, ◌≤◌, ◌↔◌, IsTrue, List, [], ◌∷◌, ◌++◌, length, get_or, take, drop, map, refl, inl, inr, Bool, false, replicate, sym, ap, subst, ◌∙◌, arith}
use Rattle.std.specs.List.{Contains, All, flat_map}
use Rattle.std.proofs.Math.Seq.{split_at}
use Rattle.std.proofs.lemmas.List.{append-nil, length-append, length-map, take_all, take-append-drop, map-append, take_more, get_or-map, take-map}
use Rattle.std.proofs.lemmas.Simd.{splat_is_map}
use Rattle.std.proofs.lemmas.List.Concat.{flat_map-append}
use Rattle.std.proofs.lemmas.List.Elements.{All-cons, All-contains, Contains-append_left, Contains-append_right, Contains-append_cases}
use Rattle.sr_model.specs.declared.statements.Numbered.{Numbered}
use Rattle.sr_model.specs.declared.cells.Sig.{Sig}
use Rattle.sr_model.specs.Declaration.{Declaration, InputNamed, OutputNamed, DriverNamed, declaration_of}
use Rattle.sr_model.specs.Room.{WithRoom}
use Rattle.sr_model.specs.Gate.{IsPinCount}
use Rattle.sr_model.specs.declared.gates.Kind.{Kind}
use Rattle.sr_model.specs.declared.statements.Statement.{Statement}
use Rattle.sr_model.specs.declared.statements.Statement.TheVariants.{Input, OutputOf, Drive}
use Rattle.sr_model.proofs.lemmas.Members.{not_in_nil, Contains-here, Contains-there, Contains-cases, All-from_Contains}
use Rattle.sr_model.specs.Limits.{max_gate_pins}
use Rattle.sr_model.proofs.lemmas.Laws.{some_pins}
use Rattle.netlist.specs.Numbering.{once, mentions, input_name, output_name, driven_name, pin_names, names_of, HasPinCount, IsSignalName, IsStatement}
use Rattle.netlist.specs.Checks.{without_lines, FirstBreaksAt}
use Rattle.netlist.proofs.Once.{has, has-once, has-from_Contains, Contains-from_has, once-append_once}

-- what a statement states, and with its line
abbrev pub stated_by : Numbered → Declaration
stated_by s = declaration_of s.statement

abbrev pub with_line : Numbered → ℕ × Declaration
with_line s = (s.line, declaration_of s.statement)

pub without_lines-stated : (items : List Numbered) → without_lines (map with_line items) ≡ map stated_by items
without_lines-stated [] = refl
without_lines-stated (x ∷ items) = ap (λ (ds : List Declaration). stated_by x ∷ ds) (without_lines-stated items)

-- the statement at a place
pub record StandsAt (items : List Numbered) (i : ℕ) (x : Numbered) : Type 0 where
  pub within : i < length items
  pub read : x ≡ get_or items i x

pub stands_at : (xs items : List Numbered) (i : ℕ) (x : Numbered) → xs ≡ items → i < length xs → x ≡ get_or xs i x → StandsAt items i x
stands_at xs items i x e lt is = subst (λ ys. StandsAt ys i x) e (record { within = lt; read = is })

-- one more statement
pub stated_more : (items : List Numbered) (i : ℕ) (x : Numbered) → StandsAt items i x → take (i + 1) (map stated_by items) ≡ take i (map stated_by items) ++ stated_by x ∷ []
stated_more items i x at =
    take_more (map stated_by items) i (stated_by x) (omega (arith, at.within, length-map items stated_by))
    ∙ ap (λ d. take i (map stated_by items) ++ d ∷ []) (get_or-map stated_by items i x (stated_by x) at.within ∙ ap stated_by (sym at.read))

pub flat_more : {Y : Type 0} (f : Declaration → List Y) (items : List Numbered) (i : ℕ) (x : Numbered) → StandsAt items i x
    → flat_map f (take (i + 1) (map stated_by items)) ≡ flat_map f (take i (map stated_by items)) ++ f (stated_by x)
flat_more f items i x at =
    ap (flat_map f) (stated_more items i x at) ∙ flat_map-append f (take i (map stated_by items)) (stated_by x ∷ []) ∙ ap (λ ys. flat_map f (take i (map stated_by items)) ++ ys) (append-nil (f (stated_by x)))

pub stated_all : (items : List Numbered) (i : ℕ) → length items ≤ i → take i (map stated_by items) ≡ map stated_by items
stated_all items i past = take_all i (map stated_by items) (omega (arith, past, length-map items stated_by))

-- the first statement that breaks a rule
pub breaks_here : (Rule : List Declaration → Type 0) (items : List Numbered) (i : ℕ) (x : Numbered) → StandsAt items i x → Rule (take i (map stated_by items)) → ¬ Rule (take (i + 1) (map stated_by items))
    → FirstBreaksAt Rule (map with_line items) x.line
breaks_here Rule items i x at keeps breaks =
    let front : without_lines (take i (map with_line items)) ≡ take i (map stated_by items) =
    ap without_lines (take-map with_line i items) ∙ without_lines-stated (take i items) ∙ sym (take-map stated_by i items) in
    let read : get_or (map with_line items) i (with_line x) ≡ with_line x = get_or-map with_line items i x (with_line x) at.within ∙ ap with_line (sym at.read) in
    let cut : map with_line items ≡ take i (map with_line items) ++ with_line x ∷ drop (suc i) (map with_line items) =
    split_at (map with_line items) i (with_line x) (omega (arith, at.within, length-map items with_line)) ∙ ap (λ d. take i (map with_line items) ++ d ∷ drop (suc i) (map with_line items)) read in
    let more : without_lines (take i (map with_line items) ++ with_line x ∷ []) ≡ take (i + 1) (map stated_by items) =
    map-append (λ (d : ℕ × Declaration). d.1) (take i (map with_line items)) (with_line x ∷ []) ∙ ap (λ ds. ds ++ stated_by x ∷ []) front ∙ sym (stated_more items i x at) in
    record {
      before = take i (map with_line items);
      here = stated_by x;
      after = drop (suc i) (map with_line items);
      split = cut;
      keeps = subst Rule (sym front) keeps;
      breaks = λ h. breaks (subst Rule more h);
    }

-- ---- names

pub names_more : (items : List Numbered) (i : ℕ) (x : Numbered) (names after : List (List ℕ)) → StandsAt items i x → names ≡ names_of (take i (map stated_by items)) → after ≡ once (names ++ mentions (stated_by x))
    → after ≡ names_of (take (i + 1) (map stated_by items))
names_more items i x names after at so_far more =
    more ∙ ap (λ (ns : List (List ℕ)). once (ns ++ mentions (stated_by x))) so_far ∙ once-append_once (flat_map mentions (take i (map stated_by items))) (mentions (stated_by x)) ∙ ap once (sym (flat_more mentions items i x at))

-- the whole of a statement's list stands in that of the text
Contains-flat : {Y : Type 0} (f : Declaration → List Y) (items : List Numbered) (i : ℕ) (x : Numbered) (y : Y) → StandsAt items i x → Contains (f (stated_by x)) y → Contains (flat_map f (map stated_by items)) y
Contains-flat f items i x y at h =
    let split : flat_map f (map stated_by items) ≡ flat_map f (take (i + 1) (map stated_by items)) ++ flat_map f (drop (i + 1) (map stated_by items)) =
    ap (flat_map f) (sym (take-append-drop (i + 1) (map stated_by items))) ∙ flat_map-append f (take (i + 1) (map stated_by items)) (drop (i + 1) (map stated_by items)) in
    subst (λ ys. Contains ys y) (sym split)
    (Contains-append_left (flat_map f (take (i + 1) (map stated_by items))) (flat_map f (drop (i + 1) (map stated_by items))) y
    (subst (λ ys. Contains ys y) (sym (flat_more f items i x at)) (Contains-append_right (flat_map f (take i (map stated_by items))) (f (stated_by x)) y h)))

pub Contains-once : (ns : List (List ℕ)) (n : List ℕ) → Contains ns n → Contains (once ns) n
Contains-once ns n h = Contains-from_has (once ns) n (has-once ns n ∙ has-from_Contains ns n h)

pub Contains-from_once : (ns : List (List ℕ)) (n : List ℕ) → Contains (once ns) n → Contains ns n
Contains-from_once ns n h = Contains-from_has ns n (sym (has-once ns n) ∙ has-from_Contains (once ns) n h)

-- each name that a statement mentions is one of the text
pub is_mentioned : (items : List Numbered) (i : ℕ) (x : Numbered) (names : List (List ℕ)) (n : List ℕ) → StandsAt items i x → names ≡ names_of (map stated_by items) → Contains (mentions (stated_by x)) n → Contains names n
is_mentioned items i x names n at numbered h =
    subst (λ (ns : List (List ℕ)). Contains ns n) (sym numbered) (Contains-once (flat_map mentions (map stated_by items)) n (Contains-flat mentions items i x n at h))

pub pins_mentioned : (d : Declaration) (n : List ℕ) → Contains (pin_names d) n → Contains (mentions d) n
pins_mentioned (InputNamed name) n h = absurd (not_in_nil n h)
pins_mentioned (OutputNamed name) n h = absurd (not_in_nil n h)
pins_mentioned (DriverNamed target kind pins) n h = Contains-there target pins n h

pub driven_mentioned : (d : Declaration) (n : List ℕ) → Contains (driven_name d) n → Contains (mentions d) n
driven_mentioned (InputNamed name) n h = h
driven_mentioned (OutputNamed name) n h = absurd (not_in_nil n h)
driven_mentioned (DriverNamed target kind pins) n h = elim (Contains-cases target [] n h) [ inl e ↦ subst (Contains (target ∷ pins)) e (Contains-here target pins) | inr none ↦ absurd (not_in_nil n none) ]

pub all_mentioned : (f : Declaration → List (List ℕ)) → ((d : Declaration) (n : List ℕ) → Contains (f d) n → Contains (mentions d) n) → (ds : List Declaration) (n : List ℕ) → Contains (flat_map f ds) n → Contains (flat_map mentions ds) n
all_mentioned f within [] n h = absurd (not_in_nil n h)
all_mentioned f within (d ∷ ds) n h =
    elim (Contains-append_cases (f d) (flat_map f ds) n h) [
      | inl here ↦ Contains-append_left (mentions d) (flat_map mentions ds) n (within d n here)
      | inr later ↦ Contains-append_right (mentions d) (flat_map mentions ds) n (all_mentioned f within ds n later)
    ]

pub stated_holds : (P : Declaration → Type 0) (items : List Numbered) (i : ℕ) (x : Numbered) → StandsAt items i x → All P (map stated_by items) → P (stated_by x)
stated_holds P items i x at all =
    subst P (get_or-map stated_by items i x (stated_by x) at.within ∙ ap stated_by (sym at.read)) (all i (stated_by x) (omega (arith, at.within, length-map items stated_by)))

pub pins_few : (d : Declaration) → HasPinCount d → length (pin_names d) ≤ max_gate_pins
pins_few (InputNamed name) h = omega arith
pins_few (OutputNamed name) h = omega arith
pins_few (DriverNamed target kind pins) h = (some_pins kind (length pins) h).1

-- the front, with the pins of one more statement
pub pins_front : (items : List Numbered) (i : ℕ) (x : Numbered) → StandsAt items i x → length (flat_map pin_names (take (i + 1) (map stated_by items))) ≡ length (flat_map pin_names (take i (map stated_by items))) + length (pin_names (stated_by x))
pins_front items i x at = ap length (flat_more pin_names items i x at) ∙ length-append (flat_map pin_names (take i (map stated_by items))) (pin_names (stated_by x))

-- what a statement that is not of a form does not name
pub no_input : (s : Statement) → ((name : WithRoom ℕ) → s ≡ Input name → ⊥) → input_name (declaration_of s) ≡ []
no_input (Input name) other = absurd (other name refl)
no_input (OutputOf name) other = refl
no_input (Drive target kind pins) other = refl

pub no_output : (s : Statement) → ((name : WithRoom ℕ) → s ≡ OutputOf name → ⊥) → output_name (declaration_of s) ≡ []
no_output (Input name) other = refl
no_output (OutputOf name) other = absurd (other name refl)
no_output (Drive target kind pins) other = refl

-- the front, where the next statement names nothing, and where it names one
pub flat_same : (f : Declaration → List (List ℕ)) (items : List Numbered) (i : ℕ) (x : Numbered) → StandsAt items i x → f (stated_by x) ≡ [] → flat_map f (take (i + 1) (map stated_by items)) ≡ flat_map f (take i (map stated_by items))
flat_same f items i x at none = flat_more f items i x at ∙ ap (λ ys. flat_map f (take i (map stated_by items)) ++ ys) none ∙ append-nil (flat_map f (take i (map stated_by items)))

pub flat_one : (f : Declaration → List (List ℕ)) (items : List Numbered) (i : ℕ) (x : Numbered) (t : List ℕ) → StandsAt items i x → f (stated_by x) ≡ t ∷ [] → flat_map f (take (i + 1) (map stated_by items)) ≡ flat_map f (take i (map stated_by items)) ++ t ∷ []
flat_one f items i x t at one = flat_more f items i x at ∙ ap (λ ys. flat_map f (take i (map stated_by items)) ++ ys) one

pub sigs_flat : (sig : List ℕ → Sig) (f : Declaration → List (List ℕ)) (items : List Numbered) (i : ℕ) (x : Numbered) (now after : List Sig) → StandsAt items i x → now ≡ map sig (flat_map f (take i (map stated_by items))) → after ≡ now ++ map sig (f (stated_by x))
    → after ≡ map sig (flat_map f (take (i + 1) (map stated_by items)))
sigs_flat sig f items i x now after at so_far more =
    more ∙ ap (λ (xs : List Sig). xs ++ map sig (f (stated_by x))) so_far ∙ sym (map-append sig (flat_map f (take i (map stated_by items))) (f (stated_by x))) ∙ ap (map sig) (sym (flat_more f items i x at))

-- the marks of the names that are listed
pub marks_none : (names : List (List ℕ)) (n : ℕ) (marks : List Bool) → n ≡ length names → marks ≡ replicate n false → marks ≡ map (has []) names
marks_none names n marks long e = e ∙ splat_is_map names n false (sym long)

-- a gate or flip-flop is as a text has it where its pins are, if its number of pins and its target are
pub drive_stated : (target : List ℕ) (kind : Kind) (pins : List (List ℕ)) (result : Bool) → IsPinCount kind (length pins) → IsSignalName target → IsTrue result ↔ All IsSignalName pins → IsTrue result ↔ IsStatement (DriverNamed target kind pins)
drive_stated target kind pins result count name pins_are = (
  λ h. (count, All-cons IsSignalName target pins name (pins_are.0 h)),
  λ h. pins_are.1 (All-from_Contains IsSignalName pins (λ n member. All-contains IsSignalName (target ∷ pins) n h.1 (Contains-there target pins n member))),
)
