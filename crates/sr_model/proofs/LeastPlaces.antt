-- Which literals a level adds is decided, and so is the least place that forces one.
use Rattle.std.proofs.Common.{◌≡◌, ◌⊎◌, ℕ, ◌+◌, ◌<◌, ◌≤◌, suc, Bool, List, [], ◌∷◌, length, arith, inl, inr, refl, sym, subst}
use Rattle.std.specs.List.{Contains}
use Rattle.std.proofs.lemmas.Bool.{cases_lt}
use Rattle.sr_model.specs.declared.cells.Cell.{Cell}
use Rattle.sr_model.specs.declared.cells.Lit.{Lit}
use Rattle.sr_model.specs.declared.cells.Place.{Place}
use Rattle.sr_model.specs.Netlist.{Unrolled, instance_at}
use Rattle.sr_model.specs.Closure.{ForcesAt, ForcesSomewhere, LitSet, IsWithin, level, passing}
use Rattle.sr_model.specs.Order.{PlaceLe}
use Rattle.sr_model.proofs.lemmas.Members.{Contains-cases, not_in_nil}
use Rattle.sr_model.proofs.ClosureLaws.{ForcesAt-more, ForcesSomewhere-more}
use Rattle.sr_model.proofs.Decided.{Decided, decided_as, decided_below, decided_both, decided_not, least_number, test_of, test_of-holds, test_of-true}
use Rattle.sr_model.proofs.DecidedForcing.{ForcesIn, decided_by, decided_somewhere, place, place_within}
use Rattle.sr_model.proofs.DecidedLevels.{decided_level, forced-cell, instance_cells}

-- the literal is forced, and not known
abbrev pub IsAdded : Unrolled → LitSet → Lit → Type 0
IsAdded u known l = ForcesSomewhere u known l × (known l → ⊥)

-- the place forces the literal, and no other that does stands before it
abbrev pub IsLeastPlace : Unrolled → LitSet → Lit → Place → Type 0
IsLeastPlace u known l p = ForcesAt u known p l × ((q : Place) → ForcesAt u known q l → PlaceLe p q)

module _ (u : Unrolled) (known : Lit → Bool) (l : Lit) where
  by_target : (cycle target : ℕ) → Decided (ForcesAt u (passing known) (place cycle target) l)
  by_target cycle target = decided_by u known l (place cycle target) (instance_at u (place cycle target)) refl

  by_cycle : (cycle : ℕ) → Decided (ForcesIn u known l cycle)
  by_cycle cycle = decided_below (λ target. ForcesAt u (passing known) (place cycle target) l) (by_target cycle) (length u.drivers)

  in_cycle : (q : Place) → ForcesAt u (passing known) q l → ForcesIn u known l q.cycle
  in_cycle q f = (q.target.0, (place_within u q f.instance f.stands).1, f)

  least_place : ForcesSomewhere u (passing known) l → (p : Place) × IsLeastPlace u (passing known) l p
  least_place (given, forced) =
      let first = least_number (ForcesIn u known l) by_cycle given.cycle (in_cycle given forced) in
      let target = least_number (λ target. ForcesAt u (passing known) (place first.0 target) l) (by_target first.0) first.1.0 first.1.2 in (
        place first.0 target.0,
        (
          target.1,
          λ q f.
              let le : first.0 ≤ q.cycle = first.2 q.cycle (in_cycle q f) in
              elim (cases_lt first.0 q.cycle) [
                | inl less ↦ inl less
                | inr more ↦
                    let same : q.cycle ≡ first.0 = omega (arith, le, more) in
                    inr (sym same, target.2 q.target.0 (subst (λ n. ForcesAt u (passing known) (place n q.target.0) l) same f))
              ],
        ),
      )

-- ---- at a level

module _ (u : Unrolled) (base : Lit → Bool) (i : ℕ) where
  abbrev Known : LitSet
  Known = level u (passing base) i

  test : Lit → Bool
  test l = test_of (Known l) (decided_level u base i l)

  tested : IsWithin Known (passing test)
  unfolding test
  tested l h = test_of-true (Known l) (decided_level u base i l) h

  passed : IsWithin (passing test) Known
  unfolding test
  passed l h = test_of-holds (Known l) (decided_level u base i l) h

  pub decided_added : (l : Lit) → Decided (IsAdded u (level u (passing base) i) l)
  decided_added l =
      decided_both (ForcesSomewhere u Known l) (Known l → ⊥)
      (decided_as (ForcesSomewhere u (passing test) l) (ForcesSomewhere u Known l) (ForcesSomewhere-more u (passing test) Known passed l) (ForcesSomewhere-more u Known (passing test) tested l) (decided_somewhere u test l))
      (decided_not (Known l) (decided_level u base i l))

  pub level_place : (l : Lit) → ForcesSomewhere u (level u (passing base) i) l → (p : Place) × IsLeastPlace u (level u (passing base) i) l p
  level_place l forced =
      let least = least_place u test l (ForcesSomewhere-more u Known (passing test) tested l forced) in
      (least.0, (ForcesAt-more u (passing test) Known passed least.0 l least.1.0, λ q f. least.1.1 q (ForcesAt-more u Known (passing test) tested q l f)))

-- ---- where the literals lie

-- more than each number of a list's members
bound : {X : Type 0} → (X → ℕ) → List X → ℕ
bound number [] = 0
bound number (x ∷ xs) = suc (number x) + bound number xs

below-bound : {X : Type 0} (number : X → ℕ) (xs : List X) (x : X) → Contains xs x → number x < bound number xs
unfolding bound
below-bound number [] x h = absurd (not_in_nil x h)
below-bound number (y ∷ xs) x h =
    elim (Contains-cases y xs x h) [
      | inl same ↦ let here : number y < bound number (y ∷ xs) = omega arith in subst (λ z. number z < bound number (y ∷ xs)) same here
      | inr later ↦ let less : number x < bound number xs = below-bound number xs x later in omega (arith, less)
    ]

-- each literal that is forced at all lies within these cycles and these signals
pub within_bounds : (u : Unrolled) → (cycles : ℕ) × (signals : ℕ) × ((known : LitSet) (l : Lit) → ForcesSomewhere u known l → (l.cell.cycle < cycles) × (l.cell.sig.0 < signals))
within_bounds u = (
  bound (λ (c : Cell). c.cycle) (instance_cells u),
  bound (λ (c : Cell). c.sig.0) (instance_cells u),
  λ known l forced.
      let there : Contains (instance_cells u) l.cell = forced-cell u known l forced in
      (below-bound (λ (c : Cell). c.cycle) (instance_cells u) l.cell there, below-bound (λ (c : Cell). c.sig.0) (instance_cells u) l.cell there),
)
