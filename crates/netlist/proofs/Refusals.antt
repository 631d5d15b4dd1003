-- A rule is first broken at one line, and where a name has no driver, one is the first.
use Rattle.std.proofs.Common.{◌≡◌, ◌≢◌, ℕ, ◌+◌, ◌<◌, List, [], ◌∷◌, ◌++◌, length, get_or, take, drop, refl, sym, ap, subst, ◌∙◌, inl, inr, append_assoc, arith}
use Rattle.std.specs.List.{Contains, AllPairs, flat_map}
use Rattle.std.proofs.Math.Seq.{take-append_seam}
use Rattle.std.proofs.lemmas.Bool.{cases_lt}
use Rattle.std.proofs.lemmas.List.{length-append, map-append, take-append-drop, take-append-le, get_or_append_left, get_or_push}
use Rattle.std.proofs.lemmas.List.Concat.{flat_map-append}
use Rattle.std.proofs.lemmas.List.Elements.{All-contains}
use Rattle.sr_model.specs.Declaration.{Declaration}
use Rattle.netlist.specs.Numbering.{driven_name, mentions, names_of, once, pin_names, place_in}
use Rattle.netlist.specs.Checks.{without_lines, HasFewSignals, HasFewPins, IsDrivenOnce, FirstBreaksAt}
use Rattle.netlist.specs.Laws.{BreaksOnce, IsUndrivenOnce}
use Rattle.netlist.proofs.Once.{once-longer}
use Rattle.netlist.proofs.Places.{place_in-lt, get_or-place_in}

-- what keeps the rule keeps it in front
abbrev IsKeptInFront : (List Declaration → Type 0) → Type 0
IsKeptInFront Rule = (ds more : List Declaration) → Rule (ds ++ more) → Rule ds

few_signals_front : IsKeptInFront HasFewSignals
few_signals_front ds more h = omega (arith, h, ap (λ ns. length (once ns)) (flat_map-append mentions ds more), once-longer (flat_map mentions ds) (flat_map mentions more))

few_pins_front : IsKeptInFront HasFewPins
few_pins_front ds more h = omega (arith, h, ap length (flat_map-append pin_names ds more), length-append (flat_map pin_names ds) (flat_map pin_names more))

driven_once_front : IsKeptInFront IsDrivenOnce
driven_once_front ds more h i j d lt within e =
    let all : AllPairs (λ a b. a ≢ b) (flat_map driven_name ds ++ flat_map driven_name more) = subst (AllPairs (λ a b. a ≢ b)) (flat_map-append driven_name ds more) h in
    all i j d lt (omega (arith, within, length-append (flat_map driven_name ds) (flat_map driven_name more)))
    (get_or_append_left (flat_map driven_name ds) (flat_map driven_name more) d i (omega (arith, lt, within)) ∙ e ∙ sym (get_or_append_left (flat_map driven_name ds) (flat_map driven_name more) d j within))

module _ (Rule : List Declaration → Type 0) (front : IsKeptInFront Rule) where
  -- the rule on statements is the rule on those in front
  front_lines : (ds more : List (ℕ × Declaration)) → Rule (without_lines (ds ++ more)) → Rule (without_lines ds)
  front_lines ds more h = front (without_lines ds) (without_lines more) (subst Rule (map-append (λ (d : ℕ × Declaration). d.1) ds more) h)

  whole : (ds : List (ℕ × Declaration)) (line : ℕ) (h : FirstBreaksAt Rule ds line) → ds ≡ (h.before ++ (line, h.here) ∷ []) ++ h.after
  whole ds line h = h.split ∙ sym (append_assoc h.before ((line, h.here) ∷ []) h.after)

  none_kept : (ds : List (ℕ × Declaration)) (line : ℕ) → FirstBreaksAt Rule ds line → ¬ Rule (without_lines ds)
  none_kept ds line h kept = h.breaks (front_lines (h.before ++ (line, h.here) ∷ []) h.after (subst (λ xs. Rule (without_lines xs)) (whole ds line h) kept))

  -- no line breaks the rule first before another
  not_before : (ds : List (ℕ × Declaration)) (a b : ℕ) (h : FirstBreaksAt Rule ds a) (k : FirstBreaksAt Rule ds b) → length h.before < length k.before → ⊥
  not_before ds a b h k lt =
      let broken : List (ℕ × Declaration) = h.before ++ (a, h.here) ∷ [] in
      let long : length broken ≡ length h.before + 1 = length-append h.before ((a, h.here) ∷ []) in
      let first : take (length broken) ds ≡ broken = ap (take (length broken)) (whole ds a h) ∙ take-append_seam broken h.after in
      let same : take (length broken) k.before ≡ broken =
      sym (take-append-le (length broken) k.before ((b, k.here) ∷ k.after) (omega (arith, lt, long))) ∙ ap (take (length broken)) (sym k.split) ∙ first in
      let split : k.before ≡ broken ++ drop (length broken) k.before = sym (take-append-drop (length broken) k.before) ∙ ap (λ xs. xs ++ drop (length broken) k.before) same in
      h.breaks (front_lines broken (drop (length broken) k.before) (subst (λ xs. Rule (without_lines xs)) split k.keeps))

  at_end : (before : List (ℕ × Declaration)) (x d : ℕ × Declaration) (after : List (ℕ × Declaration)) → get_or (before ++ x ∷ after) (length before) d ≡ x
  at_end before x d after =
      ap (λ xs. get_or xs (length before) d) (sym (append_assoc before (x ∷ []) after))
      ∙ get_or_append_left (before ++ x ∷ []) after d (length before) (omega (arith, length-append before (x ∷ []))) ∙ get_or_push before x d (length before) refl

  one_line : (ds : List (ℕ × Declaration)) (a b : ℕ) → FirstBreaksAt Rule ds a → FirstBreaksAt Rule ds b → a ≡ b
  one_line ds a b h k =
      elim (cases_lt (length h.before) (length k.before)) [
        | inl lt ↦ absurd (not_before ds a b h k lt)
        | inr le ↦
            elim (cases_lt (length k.before) (length h.before)) [
              | inl lt ↦ absurd (not_before ds b a k h lt)
              | inr ge ↦
                  let same : length h.before ≡ length k.before = omega (arith, le, ge) in
                  let line : (ℕ × Declaration) → ℕ = λ d. d.0 in
                  ap line
                  (
                  sym (at_end h.before (a, h.here) (a, h.here) h.after) ∙ ap (λ xs. get_or xs (length h.before) (a, h.here)) (sym h.split ∙ k.split)
                  ∙ ap (λ n. get_or (k.before ++ (b, k.here) ∷ k.after) n (a, h.here)) same ∙ at_end k.before (b, k.here) (a, h.here) k.after
                  )
            ]
      ]

  breaks_once : BreaksOnce Rule
  breaks_once = record { one_line = one_line; none_kept = none_kept }

pub signals_once : BreaksOnce HasFewSignals
signals_once = breaks_once HasFewSignals few_signals_front

pub pins_once : BreaksOnce HasFewPins
pins_once = breaks_once HasFewPins few_pins_front

pub drivers_once : BreaksOnce IsDrivenOnce
drivers_once = breaks_once IsDrivenOnce driven_once_front

pub undriven_once : IsUndrivenOnce
undriven_once =
    record {
      one_name = λ ds a b h k.
          let names : List (List ℕ) = names_of ds in
          let same : place_in names a ≡ place_in names b = omega (arith, h.least b k.mentioned k.undriven, k.least a h.mentioned h.undriven) in
          sym (get_or-place_in names a a (place_in-lt names a h.mentioned)) ∙ ap (λ i. get_or names i a) same ∙ get_or-place_in names b a (place_in-lt names b k.mentioned);
      none_driven = λ ds name h driven. h.undriven (All-contains (Contains (flat_map driven_name ds)) (names_of ds) name driven h.mentioned);
    }
