-- The words of a block that stands at a place.
use Rattle.std.proofs.Common.{ℕ, zero, suc, ◌≡◌, ◌<◌, false, eqb, List, [], ◌∷◌, ◌++◌, length, map, get_or, arith, refl, ap, ◌∙◌}
use Rattle.std.specs.List.{AllPairs, flat_map}
use Rattle.std.proofs.lemmas.Bool.{cond-true, cond-false, eq-eqb, ne_eqb}
use Rattle.unroll.specs.declared.problem.Block.{Block}
use Rattle.unroll.specs.declared.words.PinWord.{PinWord}
use Rattle.gate_rules.specs.Lanes.{words_at_place}
use Rattle.gate_rules.specs.Forced.{words_of}

-- where the blocks have distinct numbers, the words at a place are those of the block there
pub words_of-place : (blocks : List Block) (words : List PinWord) → AllPairs (λ a b. a.0 < b.0) blocks → length words ≡ length blocks
    → (j : ℕ) (d : Block) → j < length blocks → words_of blocks words (get_or blocks j d) ≡ words_at_place words j
words_of-place [] words up size j d h = absurd (omega arith)
words_of-place (b ∷ blocks) [] up size j d h = absurd (omega arith)
words_of-place (b ∷ blocks) (w ∷ words) up size zero d h = cond-true (eqb b.0 b.0) w (words_of blocks words b) (eq-eqb b.0 b.0 refl)
words_of-place (b ∷ blocks) (w ∷ words) up size (suc j) d h =
    let below : b.0 < (get_or blocks j d).0 = up 0 (suc j) d (omega arith) h in
    let apart : eqb b.0 (get_or blocks j d).0 ≡ false = ne_eqb b.0 (get_or blocks j d).0 (λ e. omega (arith, e, below)) in
    cond-false (eqb b.0 (get_or blocks j d).0) w (words_of blocks words (get_or blocks j d)) apart
    ∙ words_of-place blocks words (λ m n x lt within. up (suc m) (suc n) x (omega arith) (omega arith)) (omega arith) j d (omega arith)

-- lists of one item each, one behind the other
pub flat_map-single : {X Y : Type 0} (f : X → List Y) (g : X → Y) (xs : List X) → ((x : X) → f x ≡ g x ∷ []) → flat_map f xs ≡ map g xs
flat_map-single f g [] one = refl
flat_map-single f g (x ∷ xs) one = ap (λ ys. ys ++ flat_map f xs) (one x) ∙ ap (λ ys. g x ∷ ys) (flat_map-single f g xs one)
