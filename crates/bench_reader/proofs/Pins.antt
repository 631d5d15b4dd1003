-- Lists of pins and their tokens.
use Rattle.std.proofs.Common.{◌≡◌, ℕ, ◌<◌, List, [], ◌∷◌, ◌++◌, length, Option, Some, None, refl, sym, ap, ◌∙◌, arith, option_map, append_assoc}
use Rattle.std.proofs.lemmas.List.Concat.{flat_map-append}
use Rattle.bench_reader.specs.Grammar.{Token, Name, Close, Comma, tokens, pin_tokens}
use Rattle.bench_reader.specs.Found.{with_commas}
use Rattle.bench_reader.proofs.Tokens.{map_some}

-- pins behind others
pub pins_behind : (front back : List (List ℕ)) → 0 < length back → pin_tokens (front ++ back) ≡ with_commas front ++ pin_tokens back
pins_behind [] back some = refl
pins_behind (p ∷ []) [] some = absurd (omega arith)
pins_behind (p ∷ []) (q ∷ back) some = refl
pins_behind (p ∷ r ∷ front) back some = ap (λ (ts : List Token). Name p ∷ Comma ∷ ts) (pins_behind (r ∷ front) back some)

-- where the tokens of some pins begin with those of others, these are their first pins
pub pins_front : (front all : List (List ℕ)) (ts : List Token) → 0 < length all → with_commas front ++ ts ≡ pin_tokens all
    → (back : List (List ℕ)) × (0 < length back) × (ts ≡ pin_tokens back)
pins_front [] all ts some e = (all, some, e)
pins_front (p ∷ front) [] ts some e = absurd (omega arith)
pins_front (p ∷ front) (q ∷ []) ts some e = absurd cc
pins_front (p ∷ front) (q ∷ r ∷ all) ts some e =
    let rest : with_commas front ++ ts ≡ pin_tokens (r ∷ all) = cc in
    pins_front front (r ∷ all) ts (omega arith) rest

pub pins_same : (a b : List (List ℕ)) → 0 < length a → 0 < length b → pin_tokens a ≡ pin_tokens b → a ≡ b
pins_same [] b some_a some_b e = absurd (omega arith)
pins_same a [] some_a some_b e = absurd (omega arith)
pins_same (p ∷ []) (q ∷ []) some_a some_b e = cc
pins_same (p ∷ []) (q ∷ r ∷ b) some_a some_b e = absurd cc
pins_same (p ∷ s ∷ a) (q ∷ []) some_a some_b e = absurd cc
pins_same (p ∷ s ∷ a) (q ∷ r ∷ b) some_a some_b e =
    let rest : pin_tokens (s ∷ a) ≡ pin_tokens (r ∷ b) = cc in
    let same : s ∷ a ≡ r ∷ b = pins_same (s ∷ a) (r ∷ b) (omega arith) (omega arith) rest in
    let first : p ≡ q = cc in
    cc

-- the tokens of a text, of which pins with commas were read
abbrev pub IsReadTo : List (List ℕ) → List ℕ → List ℕ → Type 0
IsReadTo names text rest = tokens text ≡ option_map (λ ts. with_commas names ++ ts) (tokens rest)

with_commas-push : (names : List (List ℕ)) (pin : List ℕ) (ts : List Token) → with_commas (names ++ pin ∷ []) ++ ts ≡ with_commas names ++ Name pin ∷ Comma ∷ ts
with_commas-push names pin ts = ap (λ (x : List Token). x ++ ts) (flat_map-append (λ name. Name name ∷ Comma ∷ []) names (pin ∷ [])) ∙ append_assoc (with_commas names) (Name pin ∷ Comma ∷ []) ts

map_map : (names : List (List ℕ)) (pin : List ℕ) (o : Option (List Token))
    → option_map (λ ts. with_commas names ++ ts) (option_map (λ ts. Name pin ∷ ts) (option_map (λ ts. Comma ∷ ts) o)) ≡ option_map (λ ts. with_commas (names ++ pin ∷ []) ++ ts) o
map_map names pin None = refl
map_map names pin (Some ts) = ap (λ (x : List Token). Some x) (sym (with_commas-push names pin ts))

pub read_more : (names : List (List ℕ)) (text rest pin after next : List ℕ) → IsReadTo names text rest
    → tokens rest ≡ option_map (λ ts. Name pin ∷ ts) (tokens after) → tokens after ≡ option_map (λ ts. Comma ∷ ts) (tokens next) → IsReadTo (names ++ pin ∷ []) text next
read_more names text rest pin after next before first comma =
    before ∙ ap (λ o. option_map (λ ts. with_commas names ++ ts) o) (first ∙ ap (λ o. option_map (λ ts. Name pin ∷ ts) o) comma) ∙ map_map names pin (tokens next)

pub read_whole : (names : List (List ℕ)) (text rest pin after : List ℕ) → IsReadTo names text rest
    → tokens rest ≡ option_map (λ ts. Name pin ∷ ts) (tokens after) → tokens after ≡ Some (Close ∷ []) → tokens text ≡ Some (pin_tokens (names ++ pin ∷ []))
read_whole names text rest pin after before first closed =
    before ∙ ap (λ o. option_map (λ ts. with_commas names ++ ts) o) (first ∙ ap (λ o. option_map (λ ts. Name pin ∷ ts) o) closed)
    ∙ ap (λ (x : List Token). Some x) (sym (pins_behind names (pin ∷ []) (omega arith)))

-- what is left of a text of pins
left_over : (names all : List (List ℕ)) (text rest : List ℕ) → IsReadTo names text rest → 0 < length all → tokens text ≡ Some (pin_tokens all)
    → (back : List (List ℕ)) × (0 < length back) × (tokens rest ≡ Some (pin_tokens back))
left_over names all text rest before some whole =
    let x = map_some (λ ts. with_commas names ++ ts) (tokens rest) (pin_tokens all) (sym before ∙ whole) in
    let y = pins_front names all x.0 some x.2 in
    (y.0, y.1, x.1 ∙ ap (λ (ts : List Token). Some ts) y.2)

no_pin : (rest : List ℕ) → ((back : List (List ℕ)) × (0 < length back) × (tokens rest ≡ Some (pin_tokens back))) → ((name : List ℕ) (ts : List Token) → tokens rest ≡ Some (Name name ∷ ts) → ⊥) → ⊥
no_pin rest ([], some, e) none = absurd (omega arith)
no_pin rest (p ∷ [], some, e) none = none p _ e
no_pin rest (p ∷ q ∷ back, some, e) none = none p _ e

pub no_pin_left : (names all : List (List ℕ)) (text rest : List ℕ) → IsReadTo names text rest → ((name : List ℕ) (ts : List Token) → tokens rest ≡ Some (Name name ∷ ts) → ⊥)
    → 0 < length all → tokens text ≡ Some (pin_tokens all) → ⊥
no_pin_left names all text rest before none some whole = no_pin rest (left_over names all text rest before some whole) none

unclosed : (rest after pin : List ℕ) → ((back : List (List ℕ)) × (0 < length back) × (tokens rest ≡ Some (pin_tokens back))) → tokens rest ≡ option_map (λ ts. Name pin ∷ ts) (tokens after)
    → ((ts : List Token) → tokens after ≡ Some (Comma ∷ ts) → ⊥) → (tokens after ≡ Some (Close ∷ []) → ⊥) → ⊥
unclosed rest after pin ([], some, e) first no_comma not_closed = absurd (omega arith)
unclosed rest after pin (p ∷ [], some, e) first no_comma not_closed =
    let x = map_some (λ ts. Name pin ∷ ts) (tokens after) (Name p ∷ Close ∷ []) (sym first ∙ e) in
    let same : x.0 ≡ Close ∷ [] = let both = x.2 in cc in
    not_closed (x.1 ∙ ap (λ (ts : List Token). Some ts) same)
unclosed rest after pin (p ∷ q ∷ back, some, e) first no_comma not_closed =
    let x = map_some (λ ts. Name pin ∷ ts) (tokens after) (pin_tokens (p ∷ q ∷ back)) (sym first ∙ e) in
    let same : x.0 ≡ Comma ∷ pin_tokens (q ∷ back) = let both = x.2 in cc in
    no_comma (pin_tokens (q ∷ back)) (x.1 ∙ ap (λ (ts : List Token). Some ts) same)

pub none_closed : (names all : List (List ℕ)) (text rest pin after : List ℕ) → IsReadTo names text rest → tokens rest ≡ option_map (λ ts. Name pin ∷ ts) (tokens after)
    → ((ts : List Token) → tokens after ≡ Some (Comma ∷ ts) → ⊥) → (tokens after ≡ Some (Close ∷ []) → ⊥) → 0 < length all → tokens text ≡ Some (pin_tokens all) → ⊥
none_closed names all text rest pin after before first no_comma not_closed some whole =
    unclosed rest after pin (left_over names all text rest before some whole) first no_comma not_closed
