-- Lines of words with one blank between them.
use Rattle.std.proofs.Common.{◌≡◌, ◌≢◌, ℕ, ◌+◌, ◌-◌, ◌%◌, ◌<◌, ◌^◌, Bool, true, false, not, ◌&&◌, ◌||◌, eqb, ltb, List, [], ◌∷◌, ◌++◌, length, get_or, codes, refl, sym, ap, subst, ◌∙◌, append_assoc, arith}
use Rattle.std.specs.Prelude.{IsTrue}
use Rattle.std.specs.List.{All, list_all, prefix_len}
use Rattle.std.specs.Fmt.{decimal}
use Rattle.std.proofs.lemmas.Bool.{and_parts, ltb-true, eq-eqb, not-true, false≢true}
use Rattle.std.proofs.lemmas.Fmt.{decimal_by_steps}
use Rattle.std.proofs.lemmas.List.{append-nil, length-append, get_or-append_right}
use Rattle.std.proofs.lemmas.List.Elements.{All-nil, All-cons, All-append, All-head, All-push, All-tail}
use Rattle.std.proofs.lemmas.List.Sums.{AllPass-from_list_all}
use Rattle.sr_text.specs.Name.{is_name_byte, is_name}
use Rattle.sr_text.specs.Text.{is_blank}
use Rattle.sr_text.proofs.lemmas.PrintedLines.{IsPrinted, not_blank, stops}
use Rattle.certificates.specs.Forms.{digit}
use Rattle.certificates.specs.Tokens.{tokens_of}
use Rattle.certificates.proofs.Tokens.{token-alone, token-before}

-- a byte of a word: no blank, no line feed and no #
abbrev IsPlain : ℕ → Type 0
IsPlain b = (32 < b) × (b ≢ 35)

abbrev pub IsWord : List ℕ → Type 0
IsWord text = (0 < length text) × All IsPlain text

no_blank : (text : List ℕ) → All IsPlain text → All (λ b. is_blank b ≡ false) text
no_blank text all k d lt = not_blank (get_or text k d) (all k d lt).0

-- ---- words

digit_plain : (n : ℕ) → n < 10 → IsPlain (48 + n)
digit_plain n lt = (omega arith, λ e. omega (arith, e))

pub decimal_word : (n : ℕ) → n < 2 ^ 64 → IsWord (decimal n)
decimal_word n small =
    decimal_by_steps (λ m ds. IsWord ds) (λ m lt. (omega arith, All-cons IsPlain (48 + m) [] (digit_plain m lt) (All-nil IsPlain)))
    (λ m ds ge word. (omega (arith, length-append ds ((48 + m % 10) ∷ [])), All-push IsPlain ds (48 + m % 10) word.1 (digit_plain (m % 10) (omega arith)))) n small

name_byte_plain : (b : ℕ) → is_name_byte b ≡ true → IsPlain b
name_byte_plain b h =
    let parts = and_parts (ltb 32 b && ltb b 127) (not (eqb b 40 || eqb b 41 || eqb b 44 || eqb b 61 || eqb b 35)) h in
    (ltb-true 32 b (and_parts (ltb 32 b) (ltb b 127) parts.0).0, λ e. false≢true (subst (λ n. is_name_byte n ≡ true) e h))

some_bytes : (text : List ℕ) → not (eqb (length text) 0) ≡ true → 0 < length text
some_bytes [] h = absurd (false≢true h)
some_bytes (b ∷ text) h = omega arith

pub name_word : (name : List ℕ) → IsTrue (is_name name) → IsWord name
name_word name h =
    let parts = and_parts (not (eqb (length name) 0)) (list_all is_name_byte name) h in
    let bytes = AllPass-from_list_all is_name_byte name parts.1 in
    (some_bytes name parts.0, λ k d lt. name_byte_plain (get_or name k d) (bytes k d lt))

-- the words of the format
pub plain_word : (text : List ℕ) → 0 < length text → IsTrue (list_all (λ b. ltb 32 b && not (eqb b 35)) text) → IsWord text
plain_word text some h = (
  some,
  λ k d lt.
      let b : ℕ = get_or text k d in
      let parts = and_parts (ltb 32 b) (not (eqb b 35)) (AllPass-from_list_all (λ b. ltb 32 b && not (eqb b 35)) text h k d lt) in
      (ltb-true 32 b parts.0, λ e. false≢true (sym (not-true (eqb b 35) parts.1) ∙ eq-eqb b 35 e)),
)

pub digit_word : (bit : Bool) → IsWord (digit bit)
digit_word false = plain_word (codes "0") (omega arith) refl
digit_word true = plain_word (codes "1") (omega arith) refl

-- ---- lines of words

-- a first word and others, with a blank before each
abbrev pub joined : List ℕ → List (List ℕ) → List ℕ
joined word [] = word
joined word (next ∷ words) = word ++ 32 ∷ joined next words

pub joined_tokens : (word : List ℕ) (words : List (List ℕ)) → IsWord word → All IsWord words → tokens_of (joined word words) ≡ word ∷ words
joined_tokens word [] h all = token-alone word (h.0, no_blank word h.1)
joined_tokens word (next ∷ words) h all =
    token-before word (joined next words) (h.0, no_blank word h.1) ∙ ap (λ (ts : List (List ℕ)). word ∷ ts) (joined_tokens next words (All-head IsWord next words all) (All-tail IsWord next words all))

abbrev IsByte : ℕ → Type 0
IsByte b = (31 < b) × (b ≢ 35)

widen : (text : List ℕ) → All IsPlain text → All IsByte text
widen text all k d lt = (omega (arith, (all k d lt).0), (all k d lt).1)

not_nil : (text : List ℕ) → 0 < length text → text ≢ []
not_nil text some e = omega (arith, some, ap (λ (t : List ℕ). length t) e)

pub joined_printed : (word : List ℕ) (words : List (List ℕ)) → IsWord word → All IsWord words → IsPrinted (joined word words)
joined_printed word [] h all = record {
  some = h.0;
  bytes = widen word h.1;
  begins = subst (λ t. prefix_len is_blank t ≡ 0) (append-nil word) (stops is_blank word [] (not_nil word h.0) (no_blank word h.1));
  ends = (h.1 (length word - 1) 0 (omega (arith, h.0))).0;
}
joined_printed word (next ∷ words) h all =
    let rest : List ℕ = joined next words in
    let p : IsPrinted rest = joined_printed next words (All-head IsWord next words all) (All-tail IsWord next words all) in
    let len : length (word ++ 32 ∷ rest) ≡ length word + (length rest + 1) = omega (arith, length-append word (32 ∷ rest)) in
    let blank : IsByte 32 = (omega arith, λ e. omega (arith, e)) in
    let last : get_or (word ++ 32 ∷ rest) (length (word ++ 32 ∷ rest) - 1) 0 ≡ get_or rest (length rest - 1) 0 =
    ends_in word rest p.some in
    record {
      some = omega (arith, len);
      bytes = All-append IsByte word (32 ∷ rest) (widen word h.1) (All-cons IsByte 32 rest blank p.bytes);
      begins = stops is_blank word (32 ∷ rest) (not_nil word h.0) (no_blank word h.1);
      ends = subst (λ b. 32 < b) (sym last) p.ends;
    }
  where
    ends_in : (first second : List ℕ) → 0 < length second → get_or (first ++ 32 ∷ second) (length (first ++ 32 ∷ second) - 1) 0 ≡ get_or second (length second - 1) 0
    ends_in first second some =
        let n : ℕ = length (first ++ 32 ∷ second) - 1 in
        let len : length (first ++ 32 ∷ second) ≡ length first + (length second + 1) = omega (arith, length-append first (32 ∷ second)) in
        get_or-append_right first (32 ∷ second) (length first) n 0 refl (omega (arith, len))
        ∙ get_or-append_right (32 ∷ []) second 1 (n - length first) 0 refl (omega (arith, len, some)) ∙ ap (λ k. get_or second k 0) (omega (arith, len))

-- a word that is put before others
one_more : (before word next : List ℕ) (words : List (List ℕ)) → before ++ word ++ 32 ∷ [] ++ joined next words ≡ before ++ joined word (next ∷ words)
one_more before word next words = append_assoc (before ++ word) (32 ∷ []) (joined next words) ∙ append_assoc before word (32 ∷ joined next words)

two : (a b : List ℕ) → a ++ 32 ∷ [] ++ b ≡ joined a (b ∷ [])
two a b = append_assoc a (32 ∷ []) b

pub three : (a b c : List ℕ) → a ++ 32 ∷ [] ++ (b ++ 32 ∷ [] ++ c) ≡ joined a (b ∷ c ∷ [])
three a b c = ap (λ t. a ++ 32 ∷ [] ++ t) (two b c) ∙ append_assoc a (32 ∷ []) (joined b (c ∷ []))

pub six : (a b c d e f : List ℕ) → (a ++ 32 ∷ [] ++ b) ++ 32 ∷ [] ++ c ++ 32 ∷ [] ++ d ++ 32 ∷ [] ++ (e ++ 32 ∷ [] ++ f) ≡ joined a (b ∷ c ∷ d ∷ e ∷ f ∷ [])
six a b c d e f =
    ap (λ t. (a ++ 32 ∷ [] ++ b) ++ 32 ∷ [] ++ c ++ 32 ∷ [] ++ d ++ 32 ∷ [] ++ t) (two e f) ∙ one_more ((a ++ 32 ∷ [] ++ b) ++ 32 ∷ [] ++ c ++ 32 ∷ []) d e (f ∷ [])
    ∙ one_more ((a ++ 32 ∷ [] ++ b) ++ 32 ∷ []) c d (e ∷ f ∷ []) ∙ one_more (a ++ 32 ∷ []) b c (d ∷ e ∷ f ∷ []) ∙ append_assoc a (32 ∷ []) (joined b (c ∷ d ∷ e ∷ f ∷ []))
