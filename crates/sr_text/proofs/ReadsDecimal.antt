-- Which texts are decimal forms, by what `parse` answers.
use Rattle.std.proofs.Common.{◌≡◌, ◌≢◌, ◌<◌, ◌≤◌, ◌⊎◌, inl, inr, ◌^◌, ℕ, Bool, true, false, List, [], ◌∷◌, length, get_or, Result, Ok, Err, Option, Some, None, ◌||◌, ◌&&◌, eqb, ltb, ◌↔◌, arith, sym, ap, ◌∙◌, subst, Bor}
use Rattle.std.specs.Fmt.{decimal}
use Rattle.std.specs.Str.{IsUtf8}
use Rattle.std.specs.Result.{result_ok, MatchResult}
use Rattle.std.specs.Str.Parse.{ParsesUnsigned, AllDigits, digits_value}
use Rattle.std.proofs.lemmas.Str.{IsUtf8-from_ascii}
use Rattle.std.proofs.lemmas.Str.Parse.{IsNumeralModel, numerals_by_value, tells_digits, parse_plain}
use Rattle.std.proofs.lemmas.Fmt.{parse-decimal, decimal-digits_value, decimal_digit, first_decimal, IsAscii-decimal}
use Rattle.std.proofs.lemmas.Bool.{cases_lt}
use Rattle.std.proofs.lemmas.Bool.Decides.{nat_tests}

-- what `parse` reads and no decimal form has
abbrev has_sign_or_leading_zero : List ℕ → Bool
has_sign_or_leading_zero text = eqb (get_or text 0 0) 43 || (eqb (get_or text 0 0) 48 && ltb 1 (length text))

numeral : IsNumeralModel (AllDigits 10) (digits_value 10)
numeral = numerals_by_value (AllDigits 10) tells_digits

zero_form : (v : ℕ) → v < 1 → decimal v ≡ 48 ∷ []
zero_form v h = let zero : v ≡ 0 = omega arith in ap decimal zero ∙ decimal_digit 0 (omega arith)

-- the first digit is 0 in 0 alone
first_digit : (v : ℕ) → v < 2 ^ 64 → ((get_or (decimal v) 0 0 ≡ 48) × (length (decimal v) ≡ 1)) ⊎ (48 < get_or (decimal v) 0 0)
first_digit v small = elim (cases_lt v 1) [
  | inl h ↦ inl (ap (λ ds. get_or ds 0 0) (zero_form v h), ap length (zero_form v h))
  | inr h ↦ inr (first_decimal v h small)
]

other_form_differs : (first len : ℕ) → ((first ≡ 48) × (len ≡ 1)) ⊎ (48 < first) → (eqb first 43 || (eqb first 48 && ltb 1 len)) ≡ true → ⊥
other_form_differs first len h other = grind (arith, nat_tests)

pub no_other_form : (text : List ℕ) (v : ℕ) → has_sign_or_leading_zero text ≡ true → text ≡ decimal v → v < 2 ^ 64 → ⊥
no_other_form text v other is small =
    let first = subst (λ ds. ((get_or ds 0 0 ≡ 48) × (length ds ≡ 1)) ⊎ (48 < get_or ds 0 0)) (sym is) (first_digit v small) in
    other_form_differs (get_or text 0 0) (length text) first other

pub decimal_is_utf8 : (text : List ℕ) (v : ℕ) → text ≡ decimal v → v < 2 ^ 64 → IsUtf8 text
decimal_is_utf8 text v is small = subst IsUtf8 (sym is) (IsUtf8-from_ascii (decimal v) (IsAscii-decimal v small))

plain_form : (first len : ℕ) → (eqb first 43 || (eqb first 48 && ltb 1 len)) ≡ false → (first ≢ 43) × (first ≡ 48 → len ≤ 1)
plain_form first len plain = (λ e. grind (arith, nat_tests), λ e. grind (arith, nat_tests))

parsed_form : {E : Type 0} (text : List ℕ) (r : Result ℕ E) → ParsesUnsigned 64 10 text r → has_sign_or_leading_zero text ≡ false
    → (v : ℕ) → (result_ok r ≡ Some v) ↔ ((text ≡ decimal v) × (v < 2 ^ 64))
parsed_form {E} text (Ok x) parses plain v =
    let form = plain_form (get_or text 0 0) (length text) plain in
    let parsed = parse_plain numeral {E = E} 64 text (Ok x) parses form.0 in
    let same : Some x ≡ Some v → x ≡ v = λ e. cc in (
      λ e. let value : digits_value 10 text ≡ v = sym parsed.1 ∙ same e in
          let is : decimal (digits_value 10 text) ≡ text = decimal-digits_value numeral text parsed.0.0 parsed.0.1 (λ zero. omega (arith, form.1 zero, parsed.0.1)) parsed.0.2 in
          (sym is ∙ ap decimal value, omega (arith, value, parsed.0.2)),
      λ h. ap (result_ok {E = E}) (parse-decimal {E = E} 64 v text (Ok x) h.1 h.1 h.0 parses),
    )
parsed_form {E} text (Err e) parses plain v = (λ h. cc, λ h. ap (result_ok {E = E}) (parse-decimal {E = E} 64 v text (Err e) h.1 h.1 h.0 parses))

-- the same of the text that UTF-8 gives and the answer that `ok` gives
pub read_by_parse : {E : Type 0} (text digits : List ℕ) (r : Result ℕ E) (answer : Option ℕ) → digits ≡ text → answer ≡ result_ok r → ParsesUnsigned 64 10 digits r
    → has_sign_or_leading_zero text ≡ false → (v : ℕ) → (answer ≡ Some v) ↔ ((text ≡ decimal v) × (v < 2 ^ 64))
read_by_parse {E} text digits r answer same is parses plain v =
    let both = parsed_form text r (subst (λ t. ParsesUnsigned {E = E} 64 10 t r) same parses) plain v in
    (λ e. both.0 (sym is ∙ e), λ h. is ∙ both.1 h)

-- what UTF-8 says of a text, by the answer
pub is_text : {E : Type 0} (text : List ℕ) (r : Result (Bor (List ℕ)) E) (digits : Bor (List ℕ)) (Q : E → Type 0) → Some digits ≡ result_ok r → MatchResult r (λ s. (s.now ≡ text) × IsUtf8 text) Q → digits.now ≡ text
is_text text (Ok s) digits Q is cases = let same : digits ≡ s = cc in ap (λ (b : Bor (List ℕ)). b.now) same ∙ cases.0
is_text text (Err e) digits Q is cases = cc

pub is_no_text : {E : Type 0} (text : List ℕ) (r : Result (Bor (List ℕ)) E) (P : Bor (List ℕ) → Type 0) (Q : E → Type 0) → None ≡ result_ok r → MatchResult r P (λ e. ¬ IsUtf8 text × Q e) → IsUtf8 text → ⊥
is_no_text text (Ok s) P Q is cases utf8 = cc
is_no_text text (Err e) P Q is cases utf8 = cases.0 utf8
