-- The tokens of a text, one after another.
use Rattle.std.proofs.Common.{◌≡◌, ℕ, suc, ◌+◌, ◌-◌, ◌<◌, ◌≤◌, true, false, not, ltb, List, [], ◌∷◌, ◌++◌, length, take, drop, Some, None, refl, sym, ap, ◌∙◌, inl, inr, append_assoc, zero-add, arith}
use Rattle.std.specs.List.{All, prefix_len, position_or_len}
use Rattle.std.proofs.lemmas.Bool.{cases_Bool, cond-true, cond-false, cases_lt, lt-ltb}
use Rattle.std.proofs.lemmas.List.{append-nil, length-take, length-drop, drop-drop, drop_all, take_rest}
use Rattle.std.proofs.lemmas.List.Elements.{All-head, All-tail}
use Rattle.std.proofs.lemmas.Option.{none-some, cond_some}
use Rattle.sr_text.specs.Text.{is_blank, token_at}
use Rattle.certificates.specs.Tokens.{behind, tokens_from, tokens_of}

-- ---- what a text begins with

blank-first : (begun : List ℕ) (b : ℕ) (text : List ℕ) → is_blank b ≡ true → tokens_from begun (b ∷ text) ≡ behind begun (tokens_of text)
blank-first begun b text is = cond-true (is_blank b) (behind begun (tokens_of text)) (tokens_from (begun ++ b ∷ []) text) is

other-first : (begun : List ℕ) (b : ℕ) (text : List ℕ) → is_blank b ≡ false → tokens_from begun (b ∷ text) ≡ tokens_from (begun ++ b ∷ []) text
other-first begun b text is = cond-false (is_blank b) (behind begun (tokens_of text)) (tokens_from (begun ++ b ∷ []) text) is

one-more : (n : ℕ) → 1 + n ≡ suc n
one-more n = omega arith

-- blanks before the first token are none of it
behind-blanks : (text : List ℕ) → tokens_of text ≡ tokens_of (drop (prefix_len is_blank text) text)
behind-blanks [] = refl
behind-blanks (b ∷ text) =
    elim (cases_Bool (is_blank b)) [
      | inl blank ↦
          let more : prefix_len is_blank (b ∷ text) ≡ suc (prefix_len is_blank text) = cond-true (is_blank b) (1 + prefix_len is_blank text) 0 blank ∙ one-more (prefix_len is_blank text) in
          blank-first [] b text blank ∙ behind-blanks text ∙ ap (λ n. tokens_of (drop n (b ∷ text))) (sym more)
      | inr other ↦
          let none : prefix_len is_blank (b ∷ text) ≡ 0 = cond-false (is_blank b) (1 + prefix_len is_blank text) 0 other in
          ap (λ n. tokens_of (drop n (b ∷ text))) (sym none)
    ]

-- a token that has begun goes on up to the first blank
goes-on : (begun text : List ℕ) → tokens_from begun text ≡ behind (begun ++ take (position_or_len is_blank text) text) (tokens_of (drop (position_or_len is_blank text) text))
goes-on begun [] = ap (λ t. behind t []) (sym (append-nil begun))
goes-on begun (b ∷ text) =
    let n : ℕ = position_or_len is_blank text in
    let at : ℕ → List (List ℕ) = λ k. behind (begun ++ take k (b ∷ text)) (tokens_of (drop k (b ∷ text))) in
    elim (cases_Bool (is_blank b)) [
      | inl blank ↦
          let none : position_or_len is_blank (b ∷ text) ≡ 0 = cond-false (not (is_blank b)) (1 + n) 0 (ap not blank) in
          blank-first begun b text blank ∙ ap (λ t. behind t (tokens_of text)) (sym (append-nil begun)) ∙ ap (behind (begun ++ [])) (sym (blank-first [] b text blank)) ∙ ap at (sym none)
      | inr other ↦
          let more : position_or_len is_blank (b ∷ text) ≡ suc n = cond-true (not (is_blank b)) (1 + n) 0 (ap not other) ∙ one-more n in
          other-first begun b text other ∙ goes-on (begun ++ b ∷ []) text ∙ ap (λ t. behind t (tokens_of (drop n text))) (append_assoc begun (b ∷ []) (take n text)) ∙ ap at (sym more)
    ]

some-token : (token : List ℕ) (later : List (List ℕ)) → 0 < length token → behind token later ≡ token ∷ later
some-token [] later some = absurd (omega (arith, some))
some-token (b ∷ token) later some = refl

-- ---- the token that is found

pub no-token : (text : List ℕ) → token_at text 0 ≡ None → tokens_of text ≡ []
unfolding token_at
no-token text e =
    let start : ℕ = prefix_len is_blank text in
    elim (cases_lt (0 + start) (length text)) [
      | inl lt ↦ absurd (none-some _ (sym e ∙ cond-true (ltb (0 + start) (length text)) (Some (0 + start, 0 + start + position_or_len is_blank (drop (0 + start) text))) None (lt-ltb (0 + start) (length text) lt)))
      | inr all ↦ behind-blanks text ∙ ap tokens_of (drop_all start text (omega (arith, all)))
    ]

pub first-token : (text : List ℕ) (start end : ℕ) → token_at text 0 ≡ Some (start, end) → start < end → end ≤ length text
    → tokens_of text ≡ take (end - start) (drop start text) ∷ tokens_of (take (length text - end) (drop end text))
unfolding token_at
first-token text start end e some within =
    let s : ℕ = 0 + prefix_len is_blank text in
    let parts = cond_some (ltb s (length text)) (s, s + position_or_len is_blank (drop s text)) (start, end) e in
    let is : prefix_len is_blank text ≡ start = omega (arith, ap (λ (p : ℕ × ℕ). p.0) parts.1) in
    let ends : s + position_or_len is_blank (drop s text) ≡ end = ap (λ (p : ℕ × ℕ). p.1) parts.1 in
    let size : position_or_len is_blank (drop start text) ≡ end - start = omega (arith, ends, is, ap (λ n. position_or_len is_blank (drop n text)) (zero-add (prefix_len is_blank text) ∙ is)) in
    let rest : drop (end - start) (drop start text) ≡ take (length text - end) (drop end text) =
    drop-drop (end - start) start text ∙ ap (λ n. drop n text) (omega (arith, some)) ∙ sym (take_rest text end) in
    behind-blanks text ∙ ap (λ n. tokens_of (drop n text)) is ∙ goes-on [] (drop start text)
    ∙ ap (λ n. behind (take n (drop start text)) (tokens_of (drop n (drop start text)))) size
    ∙ ap (λ t. behind (take (end - start) (drop start text)) (tokens_of t)) rest
    ∙ some-token (take (end - start) (drop start text)) (tokens_of (take (length text - end) (drop end text))) (omega (arith, length-take (end - start) (drop start text), length-drop start text, some, within))

-- ---- words that are put one behind the other

-- some bytes, and none of them blank
abbrev pub IsToken : List ℕ → Type 0
IsToken text = (0 < length text) × All (λ b. is_blank b ≡ false) text

run-on : (begun word text : List ℕ) → All (λ b. is_blank b ≡ false) word → tokens_from begun (word ++ text) ≡ tokens_from (begun ++ word) text
run-on begun [] text all = ap (λ t. tokens_from t text) (sym (append-nil begun))
run-on begun (b ∷ word) text all =
    other-first begun b (word ++ text) (All-head (λ x. is_blank x ≡ false) b word all) ∙ run-on (begun ++ b ∷ []) word text (All-tail (λ x. is_blank x ≡ false) b word all)
    ∙ ap (λ t. tokens_from t text) (append_assoc begun (b ∷ []) word)

pub token-before : (word text : List ℕ) → IsToken word → tokens_of (word ++ 32 ∷ text) ≡ word ∷ tokens_of text
token-before word text is = run-on [] word (32 ∷ text) is.1 ∙ blank-first word 32 text refl ∙ some-token word (tokens_of text) is.0

pub token-alone : (word : List ℕ) → IsToken word → tokens_of word ≡ word ∷ []
token-alone word is = ap tokens_of (sym (append-nil word)) ∙ run-on [] word [] is.1 ∙ some-token word [] is.0
