-- Words that give a key a value, in the terms of the lines of refusals.
use Rattle.std.proofs.Common.{◌≡◌, ◌≢◌, ◌+◌, ℕ, List, [], ◌∷◌, ◌++◌, length, get_or, drop, Some, sym, ap, subst, ◌∙◌, arith}
use Rattle.std.proofs.lemmas.Bool.Decides.{nat_tests}
use Rattle.std.specs.Prelude.{All, ◌==◌}
use Rattle.std.specs.List.{after_first, position_or_len, slice_get, slice_split}
use Rattle.std.proofs.Math.Seq.{drop-append-add, get_or-append_seam}
use Rattle.std.proofs.lemmas.List.{get_or_append_left, length-append}
use Rattle.std.proofs.lemmas.List.Sums.{position_or_len_is}
use Rattle.std.proofs.lemmas.Option.{get_or_from_slice_get, slice_get_within}
use Rattle.report.specs.Refusals.{HasKey, IsKeyed, listed_names, word_at}
use Rattle.restore_program.specs.TraceRefusals.{HasListAt}
use Rattle.restore_program.specs.Words.{CommandRule, Gives, IsBadAt, IsBadNumber, trace_rule}

pub gift_keyed : (word key value : List ℕ) → Gives word key value → IsKeyed word
gift_keyed word key value g = (key, value, g.spelled)

-- the first `=` is the one behind the key
key_end : (key value : List ℕ) → All (λ b. b ≢ 61) key → position_or_len (λ b. b == 61) (key ++ 61 ∷ value) ≡ length key
key_end key value first =
    position_or_len_is (λ b. b == 61) (key ++ 61 ∷ value) (length key) 0 (omega (arith, length-append key (61 ∷ value)))
    (λ k less. let other = first k 0 less in let here : get_or (key ++ 61 ∷ value) k 0 ≡ get_or key k 0 = get_or_append_left key (61 ∷ value) 0 k less in grind (arith, nat_tests))
    (λ _. ap (λ b. b == 61) (get_or-append_seam key 61 value 0))

gift_value : (word key value : List ℕ) → Gives word key value → after_first (λ b. b == 61) word ≡ value
gift_value word key value g =
    ap (after_first (λ b. b == 61)) g.spelled ∙ ap (λ n. drop (n + 1) (key ++ 61 ∷ value)) (key_end key value g.first) ∙ drop-append-add key (61 ∷ value) 1

pub gift_names : (word key value : List ℕ) → Gives word key value → listed_names word ≡ slice_split (λ b. b == 44) value
gift_names word key value g = ap (slice_split (λ b. b == 44)) (gift_value word key value g)

-- ---- the word of a bad number

bad_at_has_key : (rule : CommandRule) (words : List (List ℕ)) (place : ℕ) → IsBadAt rule words place → HasKey words place
bad_at_has_key rule words place (k, key, h, e, (value, gift, bad)) = record {
  placed = slice_get_within words place gift.word gift.at;
  keyed = subst IsKeyed (sym (get_or_from_slice_get words place gift.word [] gift.at)) (gift_keyed gift.word key.name value gift.gives);
}

pub bad_has_key : (words : List (List ℕ)) (place : ℕ) → IsBadNumber words place → HasKey words place
bad_has_key words place (k, rule, h, e, (shaped, first)) = bad_at_has_key rule words place first.0

-- the list of a word `trace=..`, by its place
pub list_at : (words : List (List ℕ)) (place : ℕ) (word list : List ℕ) → slice_get words place ≡ Some word → Gives word trace_rule.name list → HasListAt words place list
list_at words place word list at gives =
    let is : word_at words place ≡ word = get_or_from_slice_get words place word [] at in
    record {
      key = record { placed = slice_get_within words place word at; keyed = subst IsKeyed (sym is) (gift_keyed word trace_rule.name list gives) };
      names = ap listed_names is ∙ gift_names word trace_rule.name list gives;
    }
