-- A text has a form, or none.
use Rattle.std.proofs.Common.{◌≡◌, ◌≢◌, ◌⊎◌, ℕ, zero, suc, ◌≤◌, IsTrue, List, [], ◌∷◌, length, Option, Some, None, refl, sym, subst, ◌∙◌, inl, inr, arith}
use Rattle.std.specs.Prelude.{codes}
use Rattle.std.specs.Str.{str_eq_ignore_ascii_case}
use Rattle.std.proofs.lemmas.Bool.{cases_Bool, both_ways}
use Rattle.bench_reader.specs.Grammar.{Token, Name, Open, Close, Comma, Equals, tokens, pin_tokens, port_tokens, Form, InputForm, OutputForm, DriverForm, HasTokens, HasForm}

-- ---- the first of some tokens

first_name : (ts : List Token) → ((name : List ℕ) × (rest : List Token) × (ts ≡ Name name ∷ rest)) ⊎ ((name : List ℕ) (rest : List Token) → ts ≡ Name name ∷ rest → ⊥)
first_name [] = inr (λ name rest e. cc)
first_name (Name name ∷ ts) = inl (name, ts, refl)
first_name (Open ∷ ts) = inr (λ name rest e. cc)
first_name (Close ∷ ts) = inr (λ name rest e. cc)
first_name (Comma ∷ ts) = inr (λ name rest e. cc)
first_name (Equals ∷ ts) = inr (λ name rest e. cc)

abbrev Begins : Token → List Token → Type 0
Begins mark ts = ((rest : List Token) × (ts ≡ mark ∷ rest)) ⊎ ((rest : List Token) → ts ≡ mark ∷ rest → ⊥)

first_open : (ts : List Token) → Begins Open ts
first_open [] = inr (λ rest e. cc)
first_open (Name name ∷ ts) = inr (λ rest e. cc)
first_open (Open ∷ ts) = inl (ts, refl)
first_open (Close ∷ ts) = inr (λ rest e. cc)
first_open (Comma ∷ ts) = inr (λ rest e. cc)
first_open (Equals ∷ ts) = inr (λ rest e. cc)

first_close : (ts : List Token) → Begins Close ts
first_close [] = inr (λ rest e. cc)
first_close (Name name ∷ ts) = inr (λ rest e. cc)
first_close (Open ∷ ts) = inr (λ rest e. cc)
first_close (Close ∷ ts) = inl (ts, refl)
first_close (Comma ∷ ts) = inr (λ rest e. cc)
first_close (Equals ∷ ts) = inr (λ rest e. cc)

first_comma : (ts : List Token) → Begins Comma ts
first_comma [] = inr (λ rest e. cc)
first_comma (Name name ∷ ts) = inr (λ rest e. cc)
first_comma (Open ∷ ts) = inr (λ rest e. cc)
first_comma (Close ∷ ts) = inr (λ rest e. cc)
first_comma (Comma ∷ ts) = inl (ts, refl)
first_comma (Equals ∷ ts) = inr (λ rest e. cc)

first_equals : (ts : List Token) → Begins Equals ts
first_equals [] = inr (λ rest e. cc)
first_equals (Name name ∷ ts) = inr (λ rest e. cc)
first_equals (Open ∷ ts) = inr (λ rest e. cc)
first_equals (Close ∷ ts) = inr (λ rest e. cc)
first_equals (Comma ∷ ts) = inr (λ rest e. cc)
first_equals (Equals ∷ ts) = inl (ts, refl)

-- ---- pins

abbrev ArePins : List Token → Type 0
ArePins ts = (pins : List (List ℕ)) × (pins ≢ []) × (ts ≡ pin_tokens pins)

abbrev AreNoPins : List Token → Type 0
AreNoPins ts = (pins : List (List ℕ)) → pins ≢ [] → ts ≡ pin_tokens pins → ⊥

no_name : (ts : List Token) → ((name : List ℕ) (rest : List Token) → ts ≡ Name name ∷ rest → ⊥) → AreNoPins ts
no_name ts none [] some e = some refl
no_name ts none (pin ∷ []) some e = none pin _ e
no_name ts none (pin ∷ next ∷ pins) some e = none pin _ e

lone_pin : (ts : List Token) (name : List ℕ) → ts ≡ Name name ∷ Close ∷ [] → ArePins ts
lone_pin ts name e = (name ∷ [], λ none. cc, e)

pin_before : (ts rest : List Token) (name : List ℕ) → ts ≡ Name name ∷ Comma ∷ rest → ArePins rest → ArePins ts
pin_before ts rest name e ([], some, is) = absurd (some refl)
pin_before ts rest name e (pin ∷ pins, some, is) = (name ∷ pin ∷ pins, λ none. cc, cc)

no_more_pins : (ts rest : List Token) (name : List ℕ) → ts ≡ Name name ∷ Comma ∷ rest → AreNoPins rest → AreNoPins ts
no_more_pins ts rest name e none [] some is = some refl
no_more_pins ts rest name e none (pin ∷ []) some is = let same = sym e ∙ is in absurd cc
no_more_pins ts rest name e none (pin ∷ next ∷ pins) some is = let same = sym e ∙ is in none (next ∷ pins) (λ empty. cc) cc

-- behind a name stands no comma, nor a closing bracket at the end
no_end : (ts rest : List Token) (name : List ℕ) → ts ≡ Name name ∷ rest → ((more : List Token) → rest ≡ Comma ∷ more → ⊥) → (rest ≡ Close ∷ [] → ⊥) → AreNoPins ts
no_end ts rest name e no_comma not_closed [] some is = some refl
no_end ts rest name e no_comma not_closed (pin ∷ []) some is = let same = sym e ∙ is in not_closed cc
no_end ts rest name e no_comma not_closed (pin ∷ next ∷ pins) some is = let same = sym e ∙ is in no_comma (pin_tokens (next ∷ pins)) cc

closed_or_not : (ts : List Token) → (ts ≡ Close ∷ []) ⊎ (ts ≡ Close ∷ [] → ⊥)
closed_or_not ts =
    elim (first_close ts) [
      | inr none ↦ inr (λ e. none [] e)
      | inl (rest, e) ↦ at_end rest e
    ] where
      at_end : (rest : List Token) → ts ≡ Close ∷ rest → (ts ≡ Close ∷ []) ⊎ (ts ≡ Close ∷ [] → ⊥)
      at_end [] e = inl e
      at_end (t ∷ rest) e = inr (λ is. let same = sym e ∙ is in cc)

-- by how many tokens there are
pins_or_none : (m : ℕ) (ts : List Token) → length ts ≤ m → ArePins ts ⊎ AreNoPins ts
pins_or_none zero [] few = inr (no_name [] (λ name rest e. cc))
pins_or_none zero (t ∷ ts) few = absurd (omega arith)
pins_or_none (suc m) ts few =
    elim (first_name ts) [
      | inr none ↦ inr (no_name ts none)
      | inl (name, rest, e) ↦ elim (first_comma rest) [
        | inl (more, f) ↦
            let is : ts ≡ Name name ∷ Comma ∷ more = cc in
            let less : length more ≤ m = (let size : length (Name name ∷ Comma ∷ more) ≤ suc m = subst (λ xs. length xs ≤ suc m) is few in omega arith) in
            elim (pins_or_none m more less) [ inl pins ↦ inl (pin_before ts more name is pins) | inr none ↦ inr (no_more_pins ts more name is none) ]
        | inr no_comma ↦ elim (closed_or_not rest) [
          | inl closed ↦ inl (lone_pin ts name cc)
          | inr not_closed ↦ inr (no_end ts rest name e no_comma not_closed)
        ]
      ]
    ]

-- ---- ports and drivers

abbrev IsPort : List Token → Type 0
IsPort ts = (word : List ℕ) × (name : List ℕ) × (ts ≡ port_tokens word name)

port_or_none : (ts : List Token) → IsPort ts ⊎ ((word name : List ℕ) → ts ≡ port_tokens word name → ⊥)
port_or_none ts =
    elim (first_name ts) [
      | inr none ↦ inr (λ word name e. none word _ e)
      | inl (word, behind_word, e) ↦ elim (first_open behind_word) [
        | inr none ↦ inr (λ w n f. none (Name n ∷ Close ∷ []) (let same = sym e ∙ f in cc))
        | inl (inside, g) ↦ elim (first_name inside) [
          | inr none ↦ inr (λ w n f. none n (Close ∷ []) (let same = sym e ∙ f in cc))
          | inl (name, rest, h) ↦ elim (closed_or_not rest) [
            | inr none ↦ inr (λ w n f. none (let same = sym e ∙ f in cc))
            | inl closed ↦ inl (word, name, cc)
          ]
        ]
      ]
    ]

abbrev driver_tokens : List ℕ → List ℕ → List Token → List Token
driver_tokens target word pins = Name target ∷ Equals ∷ Name word ∷ Open ∷ pins

driver_front : (ts : List Token) → ((target word : List ℕ) × (pins : List Token) × (ts ≡ driver_tokens target word pins)) ⊎ ((target word : List ℕ) (pins : List Token) → ts ≡ driver_tokens target word pins → ⊥)
driver_front ts =
    elim (first_name ts) [
      | inr none ↦ inr (λ target word pins e. none target _ e)
      | inl (target, behind_target, e) ↦ elim (first_equals behind_target) [
        | inr none ↦ inr (λ t w pins f. none (Name w ∷ Open ∷ pins) (let same = sym e ∙ f in cc))
        | inl (right, g) ↦ elim (first_name right) [
          | inr none ↦ inr (λ t w pins f. none w (Open ∷ pins) (let same = sym e ∙ f in cc))
          | inl (word, behind_word, h) ↦ elim (first_open behind_word) [
            | inr none ↦ inr (λ t w pins f. none pins (let same = sym e ∙ f in cc))
            | inl (pins, i) ↦ inl (target, word, pins, cc)
          ]
        ]
      ]
    ]

abbrev IsDriver : List Token → Type 0
IsDriver ts = (target word : List ℕ) × (pins : List (List ℕ)) × HasTokens ts (DriverForm target word pins)

driver_or_none : (ts : List Token) → IsDriver ts ⊎ ((target word : List ℕ) (pins : List (List ℕ)) → HasTokens ts (DriverForm target word pins) → ⊥)
driver_or_none ts =
    elim (driver_front ts) [
      | inr none ↦ inr (λ target word pins has. none target word (pin_tokens pins) has.1)
      | inl (target, word, behind, e) ↦ elim (pins_or_none (length behind) behind (omega arith)) [
        | inl (pins, some, f) ↦ inl (target, word, pins, (some, cc))
        | inr none ↦ inr (λ t w pins has. none pins has.0 (let same = sym e ∙ has.1 in cc))
      ]
    ]

-- ---- forms

abbrev IsPortWord : List ℕ → Type 0
IsPortWord word = IsTrue (str_eq_ignore_ascii_case word (codes "INPUT")) ⊎ IsTrue (str_eq_ignore_ascii_case word (codes "OUTPUT"))

no_form : (ts : List Token) → ((target word : List ℕ) (pins : List (List ℕ)) → HasTokens ts (DriverForm target word pins) → ⊥) → ((word name : List ℕ) → IsPortWord word → ts ≡ port_tokens word name → ⊥)
    → (form : Form) → HasTokens ts form → ⊥
no_form ts no_driver no_port (InputForm name) (word, is, e) = no_port word name (inl is) e
no_form ts no_driver no_port (OutputForm name) (word, is, e) = no_port word name (inr is) e
no_form ts no_driver no_port (DriverForm target word pins) has = no_driver target word pins has

other_word : (ts : List Token) (word name : List ℕ) → ts ≡ port_tokens word name → (IsPortWord word → ⊥) → (w n : List ℕ) → IsPortWord w → ts ≡ port_tokens w n → ⊥
other_word ts word name e none w n is f = none (subst IsPortWord (let same = sym f ∙ e in let words : w ≡ word = cc in words) is)

port_word_or_not : (word : List ℕ) → IsTrue (str_eq_ignore_ascii_case word (codes "INPUT")) ⊎ (IsTrue (str_eq_ignore_ascii_case word (codes "OUTPUT")) ⊎ (IsPortWord word → ⊥))
port_word_or_not word =
    elim (cases_Bool (str_eq_ignore_ascii_case word (codes "INPUT"))) [
      | inl input ↦ inl input
      | inr no_input ↦ elim (cases_Bool (str_eq_ignore_ascii_case word (codes "OUTPUT"))) [
        | inl output ↦ inr (inl output)
        | inr no_output ↦ inr (inr (λ is. elim is [
          | inl input ↦ both_ways (str_eq_ignore_ascii_case word (codes "INPUT")) no_input input
          | inr output ↦ both_ways (str_eq_ignore_ascii_case word (codes "OUTPUT")) no_output output
        ]))
      ]
    ]

tokens_form : (ts : List Token) → ((form : Form) × HasTokens ts form) ⊎ ((form : Form) → HasTokens ts form → ⊥)
tokens_form ts =
    elim (driver_or_none ts) [
      | inl (target, word, pins, has) ↦ inl (DriverForm target word pins, has)
      | inr no_driver ↦ elim (port_or_none ts) [
        | inr no_port ↦ inr (no_form ts no_driver (λ word name is e. no_port word name e))
        | inl (word, name, e) ↦ elim (port_word_or_not word) [
          | inl input ↦ inl (InputForm name, (word, input, e))
          | inr (inl output) ↦ inl (OutputForm name, (word, output, e))
          | inr (inr none) ↦ inr (no_form ts no_driver (other_word ts word name e none))
        ]
      ]
    ]

some_tokens_form : (text : List ℕ) (found : Option (List Token)) → tokens text ≡ found → ((form : Form) × HasForm text form) ⊎ ((form : Form) → HasForm text form → ⊥)
some_tokens_form text None e = inr (λ form has. let none = sym e ∙ has.1 in absurd cc)
some_tokens_form text (Some ts) e =
    elim (tokens_form ts) [
      | inl (form, has) ↦ inl (form, (ts, e, has))
      | inr none ↦ inr (λ form has. none form (subst (λ (us : List Token). HasTokens us form) (let both = sym has.1 ∙ e in let same : has.0 ≡ ts = cc in same) has.2))
    ]

pub form_or_none : (text : List ℕ) → ((form : Form) × HasForm text form) ⊎ ((form : Form) → HasForm text form → ⊥)
form_or_none text = some_tokens_form text (tokens text) refl
