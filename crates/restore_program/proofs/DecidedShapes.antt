-- Whether words have the shape of a command is decided.
use Rattle.std.proofs.Common.{◌≡◌, ◌≢◌, ◌⊎◌, ◌<◌, ℕ, Bool, true, false, List, [], ◌∷◌, ◌++◌, length, inl, inr, refl, sym, ap, subst, ◌∙◌, Some, arith}
use Rattle.std.specs.Prelude.{All, AllPairs, Any, IsTrue, codes, ◌==◌}
use Rattle.std.specs.List.{slice_get, slice_split}
use Rattle.std.specs.Str.{bytes_eq}
use Rattle.std.proofs.lemmas.Bool.{cases_Bool, cases_eq, cases_lt, false≢true}
use Rattle.std.proofs.lemmas.List.Elements.{All-cons, All-nil, All-tail}
use Rattle.std.proofs.lemmas.Option.{none-some, same_Some}
use Rattle.std.proofs.lemmas.Slice.Eq.{bytes_eq-Decides}
use Rattle.restore_program.specs.Words.{CommandRule, Gives, HasShape, IsFor, IsGivenRight, IsShaped, KeyRule, Suits, Takes, choice, later, names, number}
use Rattle.restore_program.proofs.Deciding.{Decided, decided_all, decided_any, decided_as, decided_both, decided_either, decided_not, decided_pairs, decided_then}
use Rattle.restore_program.proofs.GivenValues.{same_gift}

pub same_text : (a b : List ℕ) → Decided (a ≡ b)
same_text a b =
    let test = bytes_eq-Decides a b in
    elim (cases_Bool (bytes_eq a b)) [ inl t ↦ inl (test.0 t) | inr f ↦ inr (λ e. false≢true (sym f ∙ test.1 e)) ]

decided_true : (b : Bool) → Decided (IsTrue b)
decided_true true = inl refl
decided_true false = inr false≢true

-- ---- what a word gives

gives_there : (b : ℕ) (word key value : List ℕ) → b ≢ 61 → Gives word key value → Gives (b ∷ word) (b ∷ key) value
gives_there b word key value other g = record { spelled = ap (λ w. b ∷ w) g.spelled; first = All-cons (λ b. b ≢ 61) b key other g.first }

gives_no_more : (b : ℕ) (word : List ℕ) → b ≢ 61 → ((key value : List ℕ) → ¬ Gives word key value) → (key value : List ℕ) → ¬ Gives (b ∷ word) key value
gives_no_more b word other none [] value g = let spelled = g.spelled in let same : b ≡ 61 = cc in other same
gives_no_more b word other none (d ∷ key) value g =
    let spelled = g.spelled in
    let rest : word ≡ key ++ 61 ∷ value = cc in
    none key value record { spelled = rest; first = All-tail (λ b. b ≢ 61) d key g.first }

-- a key and its value, or nothing
gift_of : (word : List ℕ) → ((key value : List ℕ) × Gives word key value) ⊎ ((key value : List ℕ) → ¬ Gives word key value)
gift_of [] = inr none
  where
    none : (key value : List ℕ) → ¬ Gives [] key value
    none [] value g = let spelled = g.spelled in cc
    none (d ∷ key) value g = let spelled = g.spelled in cc
gift_of (b ∷ word) =
    elim (cases_eq b 61) [
      | inl e ↦ inl ([], word, record { spelled = ap (λ d. d ∷ word) e; first = All-nil (λ b. b ≢ 61) })
      | inr other ↦ elim (gift_of word) [
        | inl gift ↦ inl (b ∷ gift.0, gift.1, gives_there b word gift.0 gift.1 other gift.2)
        | inr none ↦ inr (gives_no_more b word other none)
      ]
    ]

-- the word gives the key of this name a value with Q
module _ (name : List ℕ) (Q : List ℕ → Type 0) (decide : (value : List ℕ) → Decided (Q value)) where
  same_key : (word key value : List ℕ) → key ≡ name → Gives word key value → Decided ((v : List ℕ) × Gives word name v × Q v)
  same_key word key value e g =
      elim (decide value) [
        | inl q ↦ inl (value, subst (λ k. Gives word k value) e g, q)
        | inr fails ↦ inr (λ (v, h, q). fails (subst Q (sym (same_gift word key value name v g h).1) q))
      ]

  pub decided_gift : (word : List ℕ) → Decided ((v : List ℕ) × Gives word name v × Q v)
  decided_gift word =
      elim (gift_of word) [
        | inr none ↦ inr (λ (v, h, q). none name v h)
        | inl gift ↦ elim (same_text gift.0 name) [
          | inl e ↦ same_key word gift.0 gift.1 e gift.2
          | inr other ↦ inr (λ (v, h, q). other (same_gift word gift.0 gift.1 name v gift.2 h).0)
        ]
      ]

decided_for : (key : KeyRule) (word : List ℕ) → Decided (IsFor key word)
decided_for key word =
    decided_as ((v : List ℕ) × Gives word key.name v × Unit {0}) (IsFor key word) (λ (v, g, _). (v, g)) (λ (v, g). (v, g, tt)) (decided_gift key.name (λ _. Unit {0}) (λ _. inl tt) word)

-- ---- the shape of a value

is_empty : (item : List ℕ) → Decided (item ≡ [])
is_empty item = same_text item []

has_shape : (takes : Takes) (value : List ℕ) → Decided (HasShape takes value)
has_shape (number least most) value = inl tt
has_shape names value = decided_all (λ item. item ≢ []) (λ item. decided_not (item ≡ []) (is_empty item)) (slice_split (λ b. b == 44) value)
has_shape choice value = decided_either (value ≡ codes "yes") (value ≡ codes "no") (same_text value (codes "yes")) (same_text value (codes "no"))

suits : (word : List ℕ) (key : KeyRule) → Decided (Suits word key)
suits word key = decided_gift key.name (HasShape key.takes) (has_shape key.takes) word

-- ---- the keys

module _ (words : List (List ℕ)) (key : KeyRule) where
  abbrev NotBoth : List ℕ → List ℕ → Type 0
  NotBoth first second = ¬ (IsFor key first × IsFor key second)

  not_both : (first second : List ℕ) → Decided (NotBoth first second)
  not_both first second = decided_not (IsFor key first × IsFor key second) (decided_both (IsFor key first) (IsFor key second) (decided_for key first) (decided_for key second))

  given_right : Decided (IsGivenRight words key)
  given_right =
      decided_as (AllPairs NotBoth words × (IsTrue key.required → Any (IsFor key) words)) (IsGivenRight words key) (λ both. record { once = both.0; given = both.1 }) (λ right. (right.once, right.given))
      (decided_both (AllPairs NotBoth words) (IsTrue key.required → Any (IsFor key) words) (decided_pairs NotBoth not_both words)
      (decided_then (IsTrue key.required) (Any (IsFor key) words) (decided_true key.required) (decided_any (IsFor key) (decided_for key) words)))

-- ---- the shape of a command

first_is : (words : List (List ℕ)) (name : List ℕ) → Decided (slice_get words 0 ≡ Some name)
first_is [] name = inr (λ e. absurd (none-some name e))
first_is (word ∷ words) name = decided_as (word ≡ name) (slice_get (word ∷ words) 0 ≡ Some name) (λ e. ap Some e) (λ e. same_Some word name e) (same_text word name)

fewer : (m n : ℕ) → Decided (m < n)
fewer m n = elim (cases_lt m n) [ inl less ↦ inl less | inr more ↦ inr (λ less. let wrong : ⊥ = omega (arith, less, more) in wrong) ]

module _ (rule : CommandRule) (words : List (List ℕ)) where
  abbrev Known : Type 0
  Known = All (λ word. Any (Suits word) rule.keys) (later rule words)

  abbrev GivenRight : Type 0
  GivenRight = All (IsGivenRight (later rule words)) rule.keys

  known : Decided Known
  known = decided_all (λ word. Any (Suits word) rule.keys) (λ word. decided_any (Suits word) (suits word) rule.keys) (later rule words)

  all_given : Decided GivenRight
  all_given = decided_all (IsGivenRight (later rule words)) (given_right (later rule words)) rule.keys

  pub decided_shape : Decided (IsShaped rule words)
  decided_shape =
      decided_as (((slice_get words 0 ≡ Some rule.name) × (rule.files < length words)) × (Known × GivenRight)) (IsShaped rule words)
      (λ all. record { named = all.0.0; files = all.0.1; known = all.1.0; given = all.1.1 }) (λ shaped. ((shaped.named, shaped.files), (shaped.known, shaped.given)))
      (decided_both ((slice_get words 0 ≡ Some rule.name) × (rule.files < length words)) (Known × GivenRight)
      (decided_both (slice_get words 0 ≡ Some rule.name) (rule.files < length words) (first_is words rule.name) (fewer rule.files (length words))) (decided_both Known GivenRight known all_given))
