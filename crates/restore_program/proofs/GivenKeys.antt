-- Whether words give a key as often as they have to.
use Rattle.std.proofs.Common.{◌≡◌, ◌<◌, ◌≤◌, ◌+◌, ◌-◌, ℕ, Bool, true, false, List, drop, length, get_or, Option, Some, None, refl, sym, ap, subst, ◌∙◌, ⊎_elim, arith}
use Rattle.std.specs.Prelude.{All, IsTrue, not, is_some}
use Rattle.std.specs.List.{slice_get}
use Rattle.std.proofs.lemmas.Bool.{false≢true, cases_lt}
use Rattle.std.proofs.lemmas.List.{get_or-drop, length-drop}
use Rattle.std.proofs.lemmas.Option.{slice_get-get_or, slice_get_within, get_or_from_slice_get}
use Rattle.restore_program.specs.Words.{IsFor, IsGivenRight, KeyRule}
use Rattle.restore_program.specs.WordRules.{FirstPlace}
use Rattle.restore_program.proofs.GivenValues.{none_left, some_left}
use Rattle.restore_program.proofs.WordPlaces.{not_any, slice_get-drop}

-- no word gives it
pub given_never : (words : List (List ℕ)) (key : KeyRule) → All (λ word. ¬ IsFor key word) words → IsTrue (not key.required) → IsGivenRight words key
given_never words key none free = record {
  once = λ i j d less within both. none i d (omega arith) both.0;
  given = λ required. absurd (false≢true (ap not (sym required) ∙ free));
}

free_key : (b : Bool) → ¬ (b ≡ true) → not b ≡ true
free_key true no_key = absurd (no_key refl)
free_key false no_key = refl

pub never_given : (words : List (List ℕ)) (key : KeyRule) → All (λ word. ¬ IsFor key word) words → IsGivenRight words key → IsTrue (not key.required)
never_given words key none right = free_key key.required (λ required. not_any (IsFor key) words none (right.given required))

-- one word gives it, and none behind it
once_given : (words : List (List ℕ)) (key : KeyRule) (place : ℕ) → FirstPlace (IsFor key) words (Some place) → All (λ word. ¬ IsFor key word) (drop (place + 1) words) → IsGivenRight words key
once_given words key place (word, at, here, before) none = record {
  once = λ i j d less within both.
      ⊎_elim
      (λ (high : place < j).
      let behind : j - (place + 1) < length (drop (place + 1) words) = rw length-drop (omega arith) in
      let is : place + 1 + (j - (place + 1)) ≡ j = omega arith in
      none (j - (place + 1)) d behind (subst (IsFor key) (sym (get_or-drop (place + 1) words (j - (place + 1)) d ∙ ap (λ k. get_or words k d) is)) both.1))
      (λ (low : j ≤ place). before i (get_or words i d) (omega arith) (slice_get-get_or words i d (omega arith)) both.0)
      (cases_lt place j);
  given = λ _. (place, word, slice_get_within words place word at, get_or_from_slice_get words place word word at, here);
}

-- two words give it
twice_given : (words : List (List ℕ)) (key : KeyRule) (place next : ℕ) → FirstPlace (IsFor key) words (Some place) → FirstPlace (IsFor key) (drop (place + 1) words) (Some next) → ¬ IsGivenRight words key
twice_given words key place next (word, at, here, _) (other, other_at, there, _) right =
    let second : slice_get words (place + 1 + next) ≡ Some other = sym (slice_get-drop (place + 1) words next) ∙ other_at in
    right.once place (place + 1 + next) word (omega arith) (slice_get_within words (place + 1 + next) other second)
    (subst (IsFor key) (sym (get_or_from_slice_get words place word word at)) here, subst (IsFor key) (sym (get_or_from_slice_get words (place + 1 + next) other word second)) there)

pub given_once : (words rest : List (List ℕ)) (key : KeyRule) (place : ℕ) (next : Option ℕ) (b : Bool) → FirstPlace (IsFor key) words (Some place) → rest ≡ drop (place + 1) words → FirstPlace (IsFor key) rest next
    → is_some next ≡ not b → (IsTrue b → IsGivenRight words key) × (IsGivenRight words key → IsTrue b)
given_once words rest key place None b first is none e = (
  λ _. once_given words key place first (subst (All (λ word. ¬ IsFor key word)) is none),
  λ _. none_left b e,
)
given_once words rest key place (Some next) b first is found e = (
  λ t. absurd (some_left b e t),
  λ right. absurd (twice_given words key place next first (subst (λ r. FirstPlace (IsFor key) r (Some next)) is found) right),
)
