-- A list of names is one of signals, each once, or has a first wrong name.
use Rattle.std.proofs.Common.{ℕ, zero, suc, ◌≡◌, ◌⊎◌, ◌<◌, ◌+◌, Some, List, [], ◌++◌, ◌∷◌, length, get_or, take, inl, inr, ap, subst, refl, ◌∙◌, arith}
use Rattle.std.specs.Prelude.{Contains}
use Rattle.std.specs.List.{slice_get}
use Rattle.std.proofs.lemmas.Bool.{cases_lt}
use Rattle.std.proofs.lemmas.List.{get_or_default, take_all}
use Rattle.std.proofs.lemmas.Option.{slice_get-get_or}
use Rattle.sr_model.specs.declared.cells.Sig.{Sig}
use Rattle.netlist.specs.Circuit.{Circuit, IsCircuit}
use Rattle.restore_program.specs.Tracing.{AreNamed, IsTwiceFirst, IsUnknownFirst}
use Rattle.restore_program.proofs.Deciding.{Decided, decided_both, first_below}
use Rattle.restore_program.proofs.DecidedShapes.{same_text}
use Rattle.restore_program.proofs.TraceNames.{its-name, named-more, next}

decided_below : (k n : ℕ) → Decided (k < n)
decided_below k n = elim (cases_lt k n) [ inl below ↦ inl below | inr above ↦ inr (λ below. let wrong : ⊥ = omega (arith, above, below) in wrong) ]

-- the place of a name, or none has it
place_or_none : (names : List (List ℕ)) (name : List ℕ) → ((k : ℕ) × (k < length names) × (get_or names k name ≡ name)) ⊎ (¬ Contains names name)
place_or_none names name =
    elim (first_below (λ k. (k < length names) × (get_or names k name ≡ name)) (λ k. decided_both (k < length names) (get_or names k name ≡ name) (decided_below k (length names)) (same_text (get_or names k name) name)) (length names)) [
      | inl none ↦ inr (λ (k, h, e). none k h (h, e))
      | inr found ↦ inl (found.0, found.1.0, found.1.1)
    ]

-- they are those of signals, each once, or there is a first one that no signal has, or that stands before
abbrev pub AreOrAreNot : Circuit → List (List ℕ) → Type 0
AreOrAreNot c names = ((sigs : List Sig) × AreNamed c names sigs) ⊎ (((name : List ℕ) × IsUnknownFirst c names name) ⊎ ((name : List ℕ) × IsTwiceFirst c names name))

module _ (c : Circuit) (is : IsCircuit c) (names : List (List ℕ)) where
  names_from : (m n : ℕ) → n + m ≡ length names → (sigs : List Sig) → AreNamed c (take n names) sigs → AreOrAreNot c names
  names_from zero n all sigs named = inl (sigs, subst (λ ns. AreNamed c ns sigs) (take_all n names (omega (arith, all))) named)
  names_from (suc m) n all sigs named = elim (place_or_none c.names name) [
    | inr unknown ↦ inr (inl (name, (take n names, next c is names n name within at sigs named, unknown)))
    | inl place ↦ elim (place_or_none (take n names) name) [
      | inl before ↦ inr (inr (name, (take n names, next c is names n name within at sigs named, before)))
      | inr apart ↦ names_from m (n + 1) (omega (arith, all)) (sigs ++ sig place.0 ∷ [])
          (named-more c is names n name within at sigs named (sig place.0) (has place) (λ there. apart (its-name c is names n name within at sigs named (sig place.0) (has place) there)) (sigs ++ sig place.0 ∷ []) refl)
    ]
  ] where
    within : n < length names
    within = omega (arith, all)

    name : List ℕ
    name = get_or names n []

    at : name ≡ get_or names n name
    at = get_or_default names n [] name within

    sig : ℕ → Sig
    sig k = record { 0 = k }

    has : (place : (k : ℕ) × (k < length c.names) × (get_or c.names k name ≡ name)) → slice_get c.names place.0 ≡ Some name
    has place = slice_get-get_or c.names place.0 name place.1 ∙ ap Some place.2

  none_named : AreNamed c (take 0 names) []
  none_named = record { each = refl; once = λ i j d less within. absurd (omega (arith, less, within)) }

  pub names_decided : AreOrAreNot c names
  names_decided = names_from (length names) 0 (omega arith) [] none_named
