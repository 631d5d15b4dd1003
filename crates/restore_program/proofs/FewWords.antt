-- Words with the shape of a command are few.
use Rattle.std.proofs.Common.{◌≡◌, ◌≢◌, ◌<◌, ◌≤◌, ◌+◌, ℕ, List, true, zero, suc, [], ◌∷◌, length, get_or, refl, sym, ap, subst, ◌∙◌, arith}
use Rattle.std.specs.Prelude.{All, AllPairs, Any}
use Rattle.std.specs.List.{IsDistinct, list_any}
use Rattle.std.proofs.Math.Dec.{eqb}
use Rattle.std.proofs.lemmas.Bool.{eqb-true}
use Rattle.std.proofs.lemmas.Bool.Decides.{Decides-eqb}
use Rattle.std.proofs.lemmas.List.{get_or_default, length-drop}
use Rattle.std.proofs.lemmas.List.Elements.{All-head, All-tail}
use Rattle.std.proofs.lemmas.Map.Made.{IsDistinct-from_AllPairs}
use Rattle.std.proofs.lemmas.Map.Steps.{length-le_from_distinct_below}
use Rattle.std.proofs.lemmas.Map.Views.{Contains-from_any}
use Rattle.restore_program.specs.Words.{CommandRule, IsFor, IsGivenRight, IsShaped, KeyRule, Suits, later}

-- ---- words that each have one of n numbers, with no number in two words

module _ (n : ℕ) (Has : List ℕ → ℕ → Type 0) where
  abbrev HasBelow : List ℕ → ℕ → Type 0
  HasBelow word k = (k < n) × Has word k

  abbrev HasOne : List ℕ → Type 0
  HasOne word = (k : ℕ) × HasBelow word k

  -- the numbers are those of the words, one after the other
  abbrev AreOf : List (List ℕ) → List ℕ → Type 0
  AreOf words ks = (length words ≡ length ks) × ((i d : ℕ) → i < length words → HasBelow (get_or words i []) (get_or ks i d))

  more_of : (word : List ℕ) (words : List (List ℕ)) (k : ℕ) (ks : List ℕ) → HasBelow word k → AreOf words ks → AreOf (word ∷ words) (k ∷ ks)
  more_of word words k ks here rest = (ap suc rest.0, by_place)
    where
      by_place : (i d : ℕ) → i < length (word ∷ words) → HasBelow (get_or (word ∷ words) i []) (get_or (k ∷ ks) i d)
      by_place zero d within = here
      by_place (suc i) d within = rest.1 i d (omega arith)

  chosen : (words : List (List ℕ)) → All HasOne words → (ks : List ℕ) × AreOf words ks
  chosen [] each = ([], (refl, λ i d within. absurd (omega arith)))
  chosen (word ∷ words) each =
      let here = All-head HasOne word words each in
      let rest = chosen words (All-tail HasOne word words each) in
      (here.0 ∷ rest.0, more_of word words here.0 rest.0 here.1 rest.1)

  pub at_most : (words : List (List ℕ)) → All HasOne words → AllPairs (λ first second. (k : ℕ) → k < n → ¬ (Has first k × Has second k)) words → length words ≤ n
  at_most words each apart = subst (λ m. m ≤ n) (sym here.0) (length-le_from_distinct_below ks n distinct below)
    where
      ks : List ℕ
      ks = (chosen words each).0

      here : AreOf words ks
      here = (chosen words each).1

      chosen_at : (i d : ℕ) → i < length ks → HasBelow (get_or words i []) (get_or ks i d)
      chosen_at i d within = here.1 i d (omega (arith, within, here.0))

      pairs : AllPairs (λ a b. a ≢ b) ks
      pairs i j d less within same =
          let first = chosen_at i d (omega arith) in
          let second = chosen_at j d within in
          apart i j [] less (omega (arith, within, here.0)) (get_or ks j d) second.0 (subst (Has (get_or words i [])) same first.1, second.1)

      distinct : IsDistinct eqb ks
      distinct = IsDistinct-from_AllPairs {eq = eqb} Decides-eqb ks pairs

      below : (q : ℕ) → list_any (eqb q) ks ≡ true → q < n
      below q found =
          let is = Contains-from_any eqb-true q ks found in
          subst (λ k. k < n) is.2 (chosen_at is.0 q is.1).0

-- ---- the words behind the files, and the places of their keys

abbrev IsAt : CommandRule → List ℕ → ℕ → Type 0
IsAt rule word k = (key : KeyRule) × (get_or rule.keys k key ≡ key) × IsFor key word

has_place : (rule : CommandRule) (words : List (List ℕ)) → All (λ word. Any (Suits word) rule.keys) words → All (HasOne (length rule.keys) (IsAt rule)) words
has_place rule words known i d within = let any = known i d within in (any.0, (any.2, (any.1, any.3, (any.4.0, any.4.1))))

pub few_words : (rule : CommandRule) (words : List (List ℕ)) → IsShaped rule words → length words ≤ 1 + rule.files + length rule.keys
few_words rule words shaped =
    let few : length (later rule words) ≤ length rule.keys = at_most (length rule.keys) (IsAt rule) (later rule words) (has_place rule (later rule words) shaped.known) apart in
    omega (arith, few, length-drop (1 + rule.files) words)
  where
    apart : AllPairs (λ first second. (k : ℕ) → k < length rule.keys → ¬ (IsAt rule first k × IsAt rule second k)) (later rule words)
    apart i j d less within k inside ((key, is, first), (other, is_other, second)) =
        let same : other ≡ key = sym is_other ∙ get_or_default rule.keys k other key inside ∙ is in
        let right = subst (IsGivenRight (later rule words)) is (shaped.given k key inside) in
        right.once i j d less within (first, subst (λ key. IsFor key (get_or (later rule words) j d)) same second)
