-- How the form of a line follows from its tokens.
use Rattle.std.proofs.Common.{◌≡◌, ◌↔◌, ℕ, ◌<◌, List, [], ◌∷◌, ◌++◌, length, Option, Some, refl, sym, ap, subst, ◌∙◌, arith, option_map, append_assoc}
use Rattle.bench_reader.specs.Grammar.{Token, Name, Open, Equals, tokens, pin_tokens, Form, InputForm, OutputForm, DriverForm, HasTokens}
use Rattle.bench_reader.specs.Found.{Completes, IsFound}
use Rattle.bench_reader.proofs.Tokens.{map_some}
use Rattle.bench_reader.proofs.Pins.{pins_same}

-- one token more is read
completes_on : (before : List Token) (text rest : List ℕ) (t : Token) (form : Form) → tokens text ≡ option_map (λ ts. t ∷ ts) (tokens rest)
    → Completes before text form ↔ Completes (before ++ t ∷ []) rest form
completes_on before text rest t form e = (
  λ (ts, is, has).
      let x = map_some (λ ts. t ∷ ts) (tokens rest) ts (sym e ∙ is) in
      (x.0, x.1, subst (λ (all : List Token). HasTokens all form) (sym (append_assoc before (t ∷ []) x.0 ∙ ap (λ (y : List Token). before ++ y) x.2)) has),
  λ (ts, is, has). (t ∷ ts, e ∙ ap (λ o. option_map (λ y. t ∷ y) o) is, subst (λ (all : List Token). HasTokens all form) (append_assoc before (t ∷ []) ts) has),
)

pub found_on : (before : List Token) (text rest : List ℕ) (t : Token) (found : Option Form) → tokens text ≡ option_map (λ ts. t ∷ ts) (tokens rest)
    → IsFound (before ++ t ∷ []) rest found → IsFound before text found
found_on before text rest t found e is form =
    let on = completes_on before text rest t form e in
    (λ f. on.1 ((is form).0 f), λ h. (is form).1 (on.0 h))

-- a driver's form is known from its tokens
pub driver_is : (target word : List ℕ) (pins : List (List ℕ)) (form : Form) → 0 < length pins → HasTokens (Name target ∷ Equals ∷ Name word ∷ Open ∷ pin_tokens pins) form
    → form ≡ DriverForm target word pins
driver_is target word pins (InputForm name) some (w, is, e) = absurd cc
driver_is target word pins (OutputForm name) some (w, is, e) = absurd cc
driver_is target word pins (DriverForm t w []) some (none, e) = absurd (none refl)
driver_is target word pins (DriverForm t w (p ∷ ps)) some (none, e) =
    let rest : pin_tokens (p ∷ ps) ≡ pin_tokens pins = cc in
    let same : p ∷ ps ≡ pins = pins_same (p ∷ ps) pins (omega arith) some rest in
    let names : (t ≡ target) × (w ≡ word) = (cc, cc) in
    cc

pub driver_found : (target word text : List ℕ) (pins : List (List ℕ)) → 0 < length pins → tokens text ≡ Some (Name word ∷ Open ∷ pin_tokens pins)
    → IsFound (Name target ∷ Equals ∷ []) text (Some (DriverForm target word pins))
driver_found target word text pins some e form = (
  λ same. (
    Name word ∷ Open ∷ pin_tokens pins,
    e,
    subst (HasTokens (Name target ∷ Equals ∷ Name word ∷ Open ∷ pin_tokens pins)) (let forms : DriverForm target word pins ≡ form = cc in forms) (λ none. absurd (let zero_pins = ap length none in omega arith), refl),
  ),
  λ (ts, is, has).
      let all : ts ≡ Name word ∷ Open ∷ pin_tokens pins = let both = sym is ∙ e in cc in
      ap (λ f. Some f) (sym (driver_is target word pins form some (subst (λ (x : List Token). HasTokens (Name target ∷ Equals ∷ x) form) all has))),
)
