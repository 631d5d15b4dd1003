-- The tokens of a printed line.
use Rattle.std.proofs.Common.{◌≡◌, ℕ, ◌+◌, ◌<◌, true, false, not, ◌==◌, List, [], ◌∷◌, ◌++◌, length, drop, Option, Some, None, refl, ap, ◌∙◌, arith, option_map, option_and_then, append_assoc}
use Rattle.std.specs.Prelude.{codes}
use Rattle.std.specs.List.{prefix_len, list_all}
use Rattle.std.proofs.Math.Seq.{take-append_seam, drop-append_seam}
use Rattle.std.proofs.lemmas.Bool.{and_parts, cond-true, cond-false}
use Rattle.sr_text.specs.Name.{is_name_byte, is_name}
use Rattle.bench_reader.specs.Grammar.{Token, Name, Open, Close, Comma, Equals, begins_with_name, with_byte, tokens, pin_tokens, port_tokens}
use Rattle.bench_reader.specs.Printed.{listed}
use Rattle.bench_reader.proofs.Tokens.{tokens-mark, tokens-name, name_first}

-- each byte may stand in a name
pub name_bytes : (name : List ℕ) → is_name name ≡ true → list_all is_name_byte name ≡ true
name_bytes name is = (and_parts (not (length name == 0)) (list_all is_name_byte name) is).1

name_len-all : (name rest : List ℕ) → list_all is_name_byte name ≡ true → begins_with_name rest ≡ false → prefix_len is_name_byte (name ++ rest) ≡ length name
name_len-all [] [] all other = refl
name_len-all [] (b ∷ rest) all other = cond-false (is_name_byte b) (1 + prefix_len is_name_byte rest) 0 other
name_len-all (b ∷ name) rest all other =
    let parts = and_parts (is_name_byte b) (list_all is_name_byte name) all in
    let more = name_len-all name rest parts.1 other in
    cond-true (is_name_byte b) (1 + prefix_len is_name_byte (name ++ rest)) 0 parts.0 ∙ omega arith

some_byte : (name : List ℕ) → is_name name ≡ true → 0 < length name
some_byte [] is = absurd cc
some_byte (b ∷ name) is = omega arith

-- a name and what stands behind it
pub tokens-named : (name rest : List ℕ) → is_name name ≡ true → begins_with_name rest ≡ false → tokens (name ++ rest) ≡ option_map (λ ts. Name name ∷ ts) (tokens rest)
tokens-named name rest is other =
    let len = name_len-all name rest (name_bytes name is) other in
    let some = some_byte name is in
    tokens-name (name ++ rest) (omega arith) ∙ ap (λ n. name_first (name ++ rest) n) len
    ∙ ap (λ (t : List ℕ). option_map (λ ts. Name t ∷ ts) (tokens (drop (length name) (name ++ rest)))) (take-append_seam name rest)
    ∙ ap (λ (t : List ℕ). option_map (λ ts. Name name ∷ ts) (tokens t)) (drop-append_seam name rest)

pub tokens-space : (text : List ℕ) → tokens (32 ∷ text) ≡ tokens text
tokens-space text = go (tokens text)
  where
    go : (o : Option (List Token)) → option_and_then (with_byte 32 text) o ≡ o
    go None = refl
    go (Some ts) = refl

map_whole : (t : Token) (o : Option (List Token)) (ts : List Token) → o ≡ Some ts → option_map (λ us. t ∷ us) o ≡ Some (t ∷ ts)
map_whole t o ts e = ap (λ x. option_map (λ us. t ∷ us) x) e

closing : tokens (41 ∷ []) ≡ Some (Close ∷ [])
closing = tokens-mark 41 [] refl

-- a word and a name in brackets
pub tokens-port : (word name : List ℕ) → is_name word ≡ true → is_name name ≡ true → tokens (word ++ (40 ∷ (name ++ 41 ∷ []))) ≡ Some (port_tokens word name)
tokens-port word name is_word is_named =
    let inner : tokens (name ++ 41 ∷ []) ≡ Some (Name name ∷ Close ∷ []) = tokens-named name (41 ∷ []) is_named refl ∙ map_whole (Name name) (tokens (41 ∷ [])) (Close ∷ []) closing in
    tokens-named word (40 ∷ (name ++ 41 ∷ [])) is_word refl
    ∙ map_whole (Name word) (tokens (40 ∷ (name ++ 41 ∷ []))) (Open ∷ Name name ∷ Close ∷ [])
    (tokens-mark 40 (name ++ 41 ∷ []) refl ∙ map_whole Open (tokens (name ++ 41 ∷ [])) (Name name ∷ Close ∷ []) inner)

-- names with commas between them, and the bracket behind them
pub tokens-listed : (pins : List (List ℕ)) → list_all is_name pins ≡ true → tokens (listed pins ++ 41 ∷ []) ≡ Some (pin_tokens pins)
tokens-listed [] all = closing
tokens-listed (pin ∷ []) all =
    let parts = and_parts (is_name pin) true all in
    tokens-named pin (41 ∷ []) parts.0 refl ∙ map_whole (Name pin) (tokens (41 ∷ [])) (Close ∷ []) closing
tokens-listed (pin ∷ next ∷ pins) all =
    let parts = and_parts (is_name pin) (list_all is_name (next ∷ pins)) all in
    let others = listed (next ∷ pins) ++ 41 ∷ [] in
    let regroup : listed (pin ∷ next ∷ pins) ++ 41 ∷ [] ≡ pin ++ (44 ∷ 32 ∷ others) =
    append_assoc (pin ++ codes ", ") (listed (next ∷ pins)) (41 ∷ []) ∙ append_assoc pin (codes ", ") others in
    ap tokens regroup ∙ tokens-named pin (44 ∷ 32 ∷ others) parts.0 refl
    ∙ map_whole (Name pin) (tokens (44 ∷ 32 ∷ others)) (Comma ∷ pin_tokens (next ∷ pins))
    (tokens-mark 44 (32 ∷ others) refl ∙ map_whole Comma (tokens (32 ∷ others)) (pin_tokens (next ∷ pins)) (tokens-space others ∙ tokens-listed (next ∷ pins) parts.1))

-- a driver
pub tokens-driver : (target word : List ℕ) (pins : List (List ℕ)) → is_name target ≡ true → is_name word ≡ true → list_all is_name pins ≡ true
    → tokens (target ++ (32 ∷ 61 ∷ 32 ∷ (word ++ (40 ∷ (listed pins ++ 41 ∷ []))))) ≡ Some (Name target ∷ Equals ∷ Name word ∷ Open ∷ pin_tokens pins)
tokens-driver target word pins is_target is_word all =
    let inner = listed pins ++ 41 ∷ [] in
    let opened : tokens (word ++ (40 ∷ inner)) ≡ Some (Name word ∷ Open ∷ pin_tokens pins) =
    tokens-named word (40 ∷ inner) is_word refl
    ∙ map_whole (Name word) (tokens (40 ∷ inner)) (Open ∷ pin_tokens pins) (tokens-mark 40 inner refl ∙ map_whole Open (tokens inner) (pin_tokens pins) (tokens-listed pins all)) in
    let behind = word ++ (40 ∷ inner) in
    tokens-named target (32 ∷ 61 ∷ 32 ∷ behind) is_target refl
    ∙ map_whole (Name target) (tokens (32 ∷ 61 ∷ 32 ∷ behind)) (Equals ∷ Name word ∷ Open ∷ pin_tokens pins)
    (tokens-space (61 ∷ 32 ∷ behind) ∙ tokens-mark 61 (32 ∷ behind) refl
    ∙ map_whole Equals (tokens (32 ∷ behind)) (Name word ∷ Open ∷ pin_tokens pins) (tokens-space behind ∙ opened))
