-- The first two lines.
use Rattle.std.proofs.Common.{◌≡◌, ◌≢◌, ◌↔◌, ◌⊎◌, ℕ, ◌<◌, ◌≤◌, ◌^◌, Bool, true, false, not, eqb, List, codes, Option, Some, None, refl, sym, subst, ◌∙◌, inl, inr, arith}
use Rattle.std.specs.Prelude.{IsTrue}
use Rattle.std.specs.Cmp.Lexicographic.{pointwise}
use Rattle.std.specs.Fmt.{decimal}
use Rattle.std.proofs.lemmas.Bool.{true≢false, false≢true, not-true, not-false}
use Rattle.std.proofs.lemmas.Option.{none-some, same_Some, some_pair_parts}
use Rattle.std.proofs.lemmas.Slice.Eq.{bytes_eq-Decides}
use Rattle.sr_model.specs.Limits.{max_cycles}
use Rattle.dump_reader.specs.Tokens.{HasTwoTokens}
use Rattle.dump_reader.specs.Grammar.{IsCyclesLine}

abbrev pub pair : List ℕ → List ℕ → List ℕ × List ℕ
pair a b = (a, b)

-- these are the only two tokens of a text
abbrev pub AreTokens : List ℕ → List ℕ → List ℕ → Type 0
AreTokens text word rest = (first second : List ℕ) → (Some (pair word rest) ≡ Some (pair first second)) ↔ HasTwoTokens text first second

abbrev pub no_pair : Option (List ℕ × List ℕ)
no_pair = None

-- the text has not two tokens
abbrev pub HasNoTokens : List ℕ → Type 0
HasNoTokens text = (first second : List ℕ) → (no_pair ≡ Some (pair first second)) ↔ HasTwoTokens text first second

pub no_tokens : (text first second : List ℕ) → HasNoTokens text → HasTwoTokens text first second → ⊥
no_tokens text first second none h = none-some (pair first second) ((none first second).1 h)

pub tokens_are : (text word rest first second : List ℕ) → AreTokens text word rest → HasTwoTokens text first second → (word ≡ first) × (rest ≡ second)
tokens_are text word rest first second are h = some_pair_parts word first rest second ((are first second).1 h)

pub tokens_from : (text word rest : List ℕ) → AreTokens text word rest → HasTwoTokens text word rest
tokens_from text word rest are = (are word rest).0 refl

-- a test of both tokens, by the test of the second where the first is right
pub second_tested : (text word rest first second : List ℕ) (a b : Bool) (w v : List ℕ) → AreTokens text word rest → w ≡ first → v ≡ second → a ≡ pointwise eqb word w → a ≡ true → b ≡ pointwise eqb rest v
    → IsTrue b ↔ HasTwoTokens text first second
second_tested text word rest first second a b w v are is is_second e holds f =
    let same : word ≡ first = (bytes_eq-Decides word w).0 (sym e ∙ holds) ∙ is in (
      λ h. let same_second : rest ≡ second = (bytes_eq-Decides rest v).0 (sym f ∙ h) ∙ is_second in
          subst (HasTwoTokens text first) same_second (subst (λ t. HasTwoTokens text t rest) same (tokens_from text word rest are)),
      λ h. f ∙ (bytes_eq-Decides rest v).1 ((tokens_are text word rest first second are h).1 ∙ sym is_second),
    )

pub first_tested : (text word rest first second : List ℕ) (a : Bool) (w : List ℕ) → AreTokens text word rest → w ≡ first → a ≡ pointwise eqb word w → a ≡ false → IsTrue a ↔ HasTwoTokens text first second
first_tested text word rest first second a w are is e fails = (
  λ h. absurd (true≢false (sym h ∙ fails)),
  λ h. absurd (true≢false (sym ((bytes_eq-Decides word w).1 ((tokens_are text word rest first second are h).0 ∙ sym is)) ∙ sym e ∙ fails)),
)

pub none_tested : (text first second : List ℕ) → HasNoTokens text → IsTrue false ↔ HasTwoTokens text first second
none_tested text first second none = (λ h. absurd (false≢true h), λ h. absurd (no_tokens text first second none h))

-- ---- the number of cycles

-- no number of cycles is given
abbrev pub GivesNone : List ℕ → Type 0
GivesNone text = (cycles : ℕ) → IsCyclesLine cycles text → ⊥

pub none_given : (text : List ℕ) (o : Option ℕ) → o ≡ None → GivesNone text → (cycles : ℕ) → (o ≡ Some cycles) ↔ IsCyclesLine cycles text
none_given text o e none cycles = (λ f. absurd (none-some cycles (sym e ∙ f)), λ h. absurd (none cycles h))

pub no_cycles : (text : List ℕ) → HasNoTokens text → GivesNone text
no_cycles text none cycles h = no_tokens text (codes "cycles") (decimal cycles) none h.1

pub other_word : (text word rest w : List ℕ) (a : Bool) → AreTokens text word rest → w ≡ codes "cycles" → a ≡ not (pointwise eqb word w) → a ≡ true → GivesNone text
other_word text word rest w a are is e holds cycles h =
    let same : word ≡ w = (tokens_are text word rest (codes "cycles") (decimal cycles) are h.1).0 ∙ sym is in
    true≢false (sym ((bytes_eq-Decides word w).1 same) ∙ not-true (pointwise eqb word w) (sym e ∙ holds))

-- what `read_u64` says of its answer
abbrev pub IsNumberOf : List ℕ → Option ℕ → Type 0
IsNumberOf text o = (v : ℕ) → (o ≡ Some v) ↔ ((text ≡ decimal v) × (v < 2 ^ 64))

number_is : (text word rest : List ℕ) (o : Option ℕ) (cycles : ℕ) → AreTokens text word rest → IsNumberOf rest o → IsCyclesLine cycles text → o ≡ Some cycles
number_is text word rest o cycles are is h =
    let small : cycles < 2 ^ 64 = omega (arith, h.0.1) in
    (is cycles).1 ((tokens_are text word rest (codes "cycles") (decimal cycles) are h.1).1, small)

pub no_number : (text word rest : List ℕ) (o : Option ℕ) → AreTokens text word rest → IsNumberOf rest o → o ≡ None → GivesNone text
no_number text word rest o are is none cycles h = none-some cycles (sym none ∙ number_is text word rest o cycles are is h)

pub no_count : (text word rest : List ℕ) (o : Option ℕ) (n : ℕ) → AreTokens text word rest → IsNumberOf rest o → o ≡ Some n → (n ≡ 0) ⊎ (max_cycles < n) → GivesNone text
no_count text word rest o n are is some outside cycles h =
    let same : n ≡ cycles = same_Some n cycles (sym some ∙ number_is text word rest o cycles are is h) in
    elim outside [ inl e ↦ omega (arith, same, e, h.0.0) | inr lt ↦ omega (arith, same, lt, h.0.1) ]

pub count_given : (text word rest w : List ℕ) (a : Bool) (o : Option ℕ) (n : ℕ) → AreTokens text word rest → w ≡ codes "cycles" → a ≡ not (pointwise eqb word w) → a ≡ false → IsNumberOf rest o → o ≡ Some n → n ≢ 0 → n ≤ max_cycles
    → (cycles : ℕ) → (Some n ≡ Some cycles) ↔ IsCyclesLine cycles text
count_given text word rest w a o n are is e fails number some low high cycles =
    let word_is : word ≡ codes "cycles" = (bytes_eq-Decides word w).0 (not-false (pointwise eqb word w) (sym e ∙ fails)) ∙ is in
    let number_is_n : rest ≡ decimal n = ((number n).0 some).0 in
    let tokens : HasTwoTokens text (codes "cycles") (decimal n) = subst (HasTwoTokens text (codes "cycles")) number_is_n (subst (λ t. HasTwoTokens text t rest) word_is (tokens_from text word rest are)) in
    let line : IsCyclesLine n text = ((omega (arith, low), high), tokens) in
    (λ f. subst (λ k. IsCyclesLine k text) (same_Some n cycles f) line, λ h. sym some ∙ number_is text word rest o cycles are number h)
