-- Whether words have a bad number is decided, and which values their keys are given.
use Rattle.std.proofs.Common.{◌≡◌, ◌⊎◌, ◌<◌, ◌≤◌, ◌+◌, ℕ, Bool, true, false, suc, List, [], length, get_or, inl, inr, refl, sym, ap, subst, ◌∙◌, Some, arith}
use Rattle.std.specs.Prelude.{Any, codes}
use Rattle.std.specs.List.{slice_get}
use Rattle.std.specs.Fmt.{decimal}
use Rattle.std.proofs.lemmas.Bool.{cases_lt, false≢true}
use Rattle.std.proofs.lemmas.Option.{same_Some, slice_get-get_or, slice_get_within}
use Rattle.restore_program.specs.Words.{CommandRule, Gives, GivesAt, IsBad, IsBadAt, IsChosen, IsFirstBad, IsFor, IsGiven, IsNumber, KeyRule, Takes, choice, later, names, number}
use Rattle.restore_program.proofs.Deciding.{Decided, decided_any, decided_as, decided_both, first_below}
use Rattle.restore_program.proofs.DecidedShapes.{decided_gift, same_text}
use Rattle.restore_program.proofs.WordPlaces.{slice_get-drop}

-- ---- numbers

at_most : (m n : ℕ) → Decided (m ≤ n)
at_most m n = elim (cases_lt n m) [ inl less ↦ inr (λ most. let wrong : ⊥ = omega (arith, less, most) in wrong) | inr most ↦ inl most ]

is_number : (least most : ℕ) (value : List ℕ) (n : ℕ) → Decided (IsNumber (number least most) value n)
is_number least most value n =
    decided_as ((value ≡ decimal n) × ((least ≤ n) × (n ≤ most))) (IsNumber (number least most) value n) (λ is. (is.0, is.1.0, is.1.1)) (λ is. (is.0, (is.1, is.2)))
    (decided_both (value ≡ decimal n) ((least ≤ n) × (n ≤ most)) (same_text value (decimal n)) (decided_both (least ≤ n) (n ≤ most) (at_most least n) (at_most n most)))

-- a number that the key may have, or none
number_in : (takes : Takes) (value : List ℕ) → ((n : ℕ) × IsNumber takes value n) ⊎ ((n : ℕ) → ¬ IsNumber takes value n)
number_in (number least most) value =
    elim (first_below (IsNumber (number least most) value) (is_number least most value) (suc most)) [
      | inl none ↦ inr (λ n is. let below : n < suc most = omega (arith, is.2) in none n below is)
      | inr found ↦ inl (found.0, found.1)
    ]
number_in names value = inr (λ n is. is)
number_in choice value = inr (λ n is. is)

is_bad : (takes : Takes) (value : List ℕ) → Decided (IsBad takes value)
is_bad (number least most) value = elim (number_in (number least most) value) [ inl found ↦ inr (λ bad. bad found.0 found.1) | inr none ↦ inl none ]
is_bad names value = inr (λ bad. bad)
is_bad choice value = inr (λ bad. bad)

-- ---- the word at a place

module _ (rule : CommandRule) (words : List (List ℕ)) (key : KeyRule) (Q : List ℕ → Type 0) (decide : (value : List ℕ) → Decided (Q value)) (place : ℕ) where
  gives_here : rule.files < place → place < length words → Decided ((value : List ℕ) × GivesAt rule words place key value × Q value)
  gives_here behind within =
      let word : List ℕ = get_or words place [] in
      let at : slice_get words place ≡ Some word = slice_get-get_or words place [] within in
      decided_as ((value : List ℕ) × Gives word key.name value × Q value) ((value : List ℕ) × GivesAt rule words place key value × Q value)
      (λ (value, gives, q). (value, record { behind = behind; word = word; at = at; gives = gives }, q))
      (λ (value, gift, q). (value, subst (λ w. Gives w key.name value) (same_Some gift.word word (sym gift.at ∙ at)) gift.gives, q))
      (decided_gift key.name Q decide word)

  pub decided_at : Decided ((value : List ℕ) × GivesAt rule words place key value × Q value)
  decided_at =
      elim (cases_lt rule.files place) [
        | inr before ↦ inr (λ (value, gift, q). let behind : rule.files < place = gift.behind in let wrong : ⊥ = omega (arith, behind, before) in wrong)
        | inl behind ↦ elim (cases_lt place (length words)) [
          | inl within ↦ gives_here behind within
          | inr past ↦ inr (λ (value, gift, q). let within : place < length words = slice_get_within words place gift.word gift.at in let wrong : ⊥ = omega (arith, within, past) in wrong)
        ]
      ]

module _ (rule : CommandRule) (words : List (List ℕ)) where
  -- ---- the first bad number

  decided_bad_at : (place : ℕ) → Decided (IsBadAt rule words place)
  decided_bad_at place =
      decided_any (λ key. (value : List ℕ) × GivesAt rule words place key value × IsBad key.takes value) (λ key. decided_at rule words key (IsBad key.takes) (is_bad key.takes) place) rule.keys

  bad_within : (place : ℕ) → IsBadAt rule words place → place < length words
  bad_within place (k, key, h, e, (value, gift, bad)) = slice_get_within words place gift.word gift.at

  pub first_bad : ((place : ℕ) → ¬ IsBadAt rule words place) ⊎ ((place : ℕ) × IsFirstBad rule words place)
  first_bad =
      elim (first_below (IsBadAt rule words) decided_bad_at (length words)) [
        | inl none ↦ inl (λ place bad. none place (bad_within place bad) bad)
        | inr found ↦ inr (found.0, (found.1, found.2))
      ]

  -- ---- what a key is given

  module _ (key : KeyRule) where
    pub gift_behind : Any (IsFor key) (later rule words) → (place : ℕ) × (value : List ℕ) × GivesAt rule words place key value
    gift_behind (k, word, h, e, (value, gives)) = (
      1 + rule.files + k,
      value,
      record { behind = omega arith; word = word; at = sym (slice_get-drop (1 + rule.files) words k) ∙ slice_get-get_or (later rule words) k word h ∙ ap Some e; gives = gives },
    )

    -- where no number is bad, it is one that the key may have
    pub good_gift : (k least most : ℕ) → k < length rule.keys → get_or rule.keys k key ≡ key → key.takes ≡ number least most → ((place : ℕ) → ¬ IsBadAt rule words place)
        → Any (IsFor key) (later rule words) → (n : ℕ) × IsGiven rule words key n
    good_gift k least most within is takes good given =
        let gift = gift_behind given in
        elim (number_in key.takes gift.1) [
          | inl found ↦ (found.0, (gift.0, gift.1, gift.2, found.1))
          | inr none ↦ let bad : IsBad key.takes gift.1 = subst (λ t. ((n : ℕ) → ¬ IsNumber t gift.1 n) → IsBad t gift.1) (sym takes) (λ h. h) none in
              absurd (good gift.0 (k, key, within, is, (gift.1, gift.2, bad)))
        ]

    abbrev GivesYes : ℕ → Type 0
    GivesYes place = GivesAt rule words place key (codes "yes")

    gives_yes : (place : ℕ) → Decided (GivesYes place)
    gives_yes place =
        decided_as ((value : List ℕ) × GivesAt rule words place key value × (value ≡ codes "yes")) (GivesYes place) (λ (value, gift, e). subst (λ v. GivesAt rule words place key v) e gift)
        (λ gift. (codes "yes", gift, refl)) (decided_at rule words key (λ v. v ≡ codes "yes") (λ v. same_text v (codes "yes")) place)

    pub choice_of : (chosen : Bool) × IsChosen rule words key chosen
    choice_of =
        elim (first_below GivesYes gives_yes (length words)) [
          | inl none ↦ (false, (λ t. absurd (false≢true t), λ (place, gift). absurd (none place (slice_get_within words place gift.word gift.at) gift)))
          | inr found ↦ (true, (λ _. (found.0, found.1), λ _. refl))
        ]
