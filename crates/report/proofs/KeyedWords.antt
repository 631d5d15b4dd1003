-- What `split_once` and `split` give of a word `key=value`.
use Rattle.std.proofs.Common.{◌≡◌, ◌≢◌, ◌<◌, ℕ, List, [], length, map, get_or, Option, Some, None, Bor, sym, ap, subst, ◌∙◌, lit<, arith, rules}
use Rattle.std.specs.Prelude.{IsSome, option_map, ◌==◌}
use Rattle.std.specs.List.{after_first, slice_get}
use Rattle.std.proofs.Math.Seq.{get_or-append_seam}
use Rattle.std.proofs.lemmas.List.{get_or-map, length-append, length-map}
use Rattle.std.proofs.lemmas.Option.{get_or_from_slice_get, none-some, slice_get-get_or}
use Rattle.std.proofs.lemmas.Str.Pattern.{IsSplitOnceResult, split_once_first, split_parts}
use Rattle.report.specs.Refusals.{HasKey, IsKeyed, word_at}

-- a word of the form is split
pub keyed_is_split : (word : List ℕ) (r : Option (Bor (List ℕ) × Bor (List ℕ))) → IsSplitOnceResult 61 word r → IsKeyed word → IsSome r
keyed_is_split word None split (key, value, spelled) =
    let none : (i : ℕ) → i < length word → get_or word i 0 ≢ 61 = split_parts 61 word None split (lit< tt) in
    let within : length key < length word = omega (arith, ap length spelled, length-append {A = ℕ}) in
    absurd (none (length key) within (ap (λ w. get_or w (length key) 0) spelled ∙ get_or-append_seam key 61 value 0))
keyed_is_split word (Some parts) split keyed = search rules

-- the second part is the value
pub second_part : (word : List ℕ) (r : Option (Bor (List ℕ) × Bor (List ℕ))) (parts : Bor (List ℕ) × Bor (List ℕ)) → IsSplitOnceResult 61 word r → r ≡ Some parts → parts.1.now ≡ after_first (λ b. b == 61) word
second_part word r parts split e = (split_once_first 61 word (Some parts) (subst (IsSplitOnceResult 61 word) e split) (lit< tt)).2

-- an item that is there is found
pub found_item : (names : List (List ℕ)) (item : ℕ) (r : Option (Bor (List ℕ))) → option_map (λ (v : Bor (List ℕ)). v.now) r ≡ slice_get names item → item < length names → IsSome r
found_item names item None found there = absurd (none-some (get_or names item []) (found ∙ slice_get-get_or names item [] there))
found_item names item (Some v) found there = search rules

-- and is the one of that place
pub same_item : (names : List (List ℕ)) (item : ℕ) (r : Option (Bor (List ℕ))) (v : Bor (List ℕ)) (d : List ℕ) → option_map (λ (v : Bor (List ℕ)). v.now) r ≡ slice_get names item → r ≡ Some v → v.now ≡ get_or names item d
same_item names item r v d found e = sym (get_or_from_slice_get names item v.now d (sym found ∙ ap (option_map (λ (v : Bor (List ℕ)). v.now)) e))

-- the bytes of the word at a place
pub word_read : {X : Type 0} (bytes : X → List ℕ) (words : List X) (place : ℕ) (word : X) (text : List ℕ) → HasKey (map bytes words) place → word ≡ get_or words place word → text ≡ bytes word → text ≡ word_at (map bytes words) place
word_read bytes words place word text there is same =
    let within : place < length words = omega (arith, there.placed, length-map words bytes) in
    same ∙ ap bytes is ∙ sym (get_or-map bytes words place word [] within)
