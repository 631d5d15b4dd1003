-- The laws of the Closure, over any sets of literals.
use Rattle.std.proofs.Common.{◌≡◌, ℕ, zero, suc, ◌≤◌, max, true, false, List, [], ◌∷◌, ◌++◌, arith, inl, inr, subst}
use Rattle.std.specs.List.{Contains, All}
use Rattle.std.proofs.lemmas.Bool.{cases_lt}
use Rattle.std.proofs.lemmas.List.Elements.{All-weaker, All-head, All-tail, All-nil, All-cons, Contains-append_left, Contains-append_right}
use Rattle.sr_model.specs.declared.cells.Cell.{Cell}
use Rattle.sr_model.specs.declared.cells.Lit.{Lit}
use Rattle.sr_model.specs.declared.cells.Place.{Place}
use Rattle.sr_model.specs.Netlist.{Unrolled, Valuation, IsExecution, Has}
use Rattle.sr_model.specs.Closure.{LitSet, ForcesAt, ForcesSomewhere, IsDerivation, Closure, IsWithin, SameLits, IsClosed, level, HasBoth, lit}
use Rattle.sr_model.proofs.lemmas.Members.{not_in_nil, Contains-here, Contains-cases}

-- what is forced, by any set that has the part
pub ForcesAt-with : (u : Unrolled) (few many : LitSet) (p : Place) (l : Lit) (f : ForcesAt u few p l) → All many f.forces.part → ForcesAt u many p l
ForcesAt-with u few many p l f known = record {
  instance = f.instance;
  stands = f.stands;
  forces = record {
    on_cells = f.forces.on_cells;
    part = f.forces.part;
    part_known = known;
    part_on_cells = f.forces.part_on_cells;
    row = f.forces.row;
    is_row = f.forces.is_row;
    row_agrees = f.forces.row_agrees;
    forced = f.forces.forced;
  };
}

pub ForcesAt-more : (u : Unrolled) (few many : LitSet) → IsWithin few many → (p : Place) (l : Lit) → ForcesAt u few p l → ForcesAt u many p l
ForcesAt-more u few many within p l f = ForcesAt-with u few many p l f (All-weaker few many within f.forces.part f.forces.part_known)

pub ForcesSomewhere-more : (u : Unrolled) (few many : LitSet) → IsWithin few many → IsWithin (ForcesSomewhere u few) (ForcesSomewhere u many)
ForcesSomewhere-more u few many within l (p, f) =
    (p, ForcesAt-more u few many within p l f)

-- the literals of an execution are closed
pub closed_execution : (u : Unrolled) (v : Valuation) → IsExecution u v → IsClosed u (Has v)
closed_execution u v runs l (p, f) = f.forces.forced v (runs p f.instance f.stands) f.forces.part_known

module _ (u : Unrolled) (base : LitSet) where
  pub derived_within : (closed : LitSet) → IsClosed u closed → IsWithin base closed → (steps : List Lit) → IsDerivation u base steps → IsWithin (Contains steps) closed
  derived_within closed is_closed has_base [] d l h = absurd (not_in_nil l h)
  derived_within closed is_closed has_base (x ∷ steps) d l h =
      let earlier : IsWithin (Contains steps) closed = derived_within closed is_closed has_base steps d.1 in
      let newest : closed x = elim d.0 [
        | inl given ↦ has_base x given
        | inr forced ↦ is_closed x (ForcesSomewhere-more u (Contains steps) closed earlier x forced)
      ] in
      elim (Contains-cases x steps l h) [ inl e ↦ subst closed e newest | inr h ↦ earlier l h ]

  pub least : (closed : LitSet) → IsClosed u closed → IsWithin base closed → IsWithin (Closure u base) closed
  least closed is_closed has_base l c = derived_within closed is_closed has_base c.steps c.derived l c.stands

  pub has_base : IsWithin base (Closure u base)
  has_base l given = record { steps = l ∷ []; derived = (inl given, tt); stands = Contains-here l [] }

  pub IsDerivation-append : (xs ys : List Lit) → IsDerivation u base xs → IsDerivation u base ys → IsDerivation u base (xs ++ ys)
  IsDerivation-append [] ys dx dy = dy
  IsDerivation-append (x ∷ xs) ys dx dy = (
    elim dx.0 [
      | inl given ↦ inl given
      | inr forced ↦ inr (ForcesSomewhere-more u (Contains xs) (Contains (xs ++ ys)) (λ l h. Contains-append_left xs ys l h) x forced)
    ],
    IsDerivation-append xs ys dx.1 dy,
  )

  -- one derivation for several literals
  pub together : (part : List Lit) → All (Closure u base) part → (steps : List Lit) × IsDerivation u base steps × All (Contains steps) part
  together [] all = ([], tt, All-nil (Contains []))
  together (x ∷ part) all =
      let first : Closure u base x = All-head (Closure u base) x part all in
      let rest : (steps : List Lit) × IsDerivation u base steps × All (Contains steps) part = together part (All-tail (Closure u base) x part all) in (
        first.steps ++ rest.0,
        IsDerivation-append first.steps rest.0 first.derived rest.1,
        All-cons (Contains (first.steps ++ rest.0)) x part
            (Contains-append_left first.steps rest.0 x first.stands)
            (All-weaker (Contains rest.0) (Contains (first.steps ++ rest.0)) (λ l h. Contains-append_right first.steps rest.0 l h) part rest.2),
      )

  pub closed : IsClosed u (Closure u base)
  closed l (p, f) =
      let from : (steps : List Lit) × IsDerivation u base steps × All (Contains steps) f.forces.part = together f.forces.part f.forces.part_known in
      record {
        steps = l ∷ from.0;
        derived = (inr (p, ForcesAt-with u (Closure u base) (Contains from.0) p l f from.2), from.1);
        stands = Contains-here l from.0;
      }

  pub sound : (v : Valuation) → IsExecution u v → IsWithin base (Has v) → IsWithin (Closure u base) (Has v)
  sound v runs has = least (Has v) (closed_execution u v runs) has

  pub no_execution_has_both : (c : Cell) → HasBoth (Closure u base) c → (v : Valuation) → IsExecution u v → IsWithin base (Has v) → ⊥
  no_execution_has_both c both v runs has =
      let zero_there : v c ≡ false = sound v runs has (lit c false) both.0 in
      let one_there : v c ≡ true = sound v runs has (lit c true) both.1 in
      cc

  pub level-later : (l : Lit) (i j : ℕ) → i ≤ j → level u base i l → level u base j l
  level-later l i zero h at = let e : i ≡ 0 = omega arith in subst (λ k. level u base k l) e at
  level-later l i (suc j) h at =
      elim (cases_lt j i) [
        | inl above ↦ let e : i ≡ suc j = omega arith in subst (λ k. level u base k l) e at
        | inr below ↦ inl (level-later l i j below at)
      ]

  pub in_some_level : LitSet
  in_some_level l = (i : ℕ) × level u base i l

  -- one level for several literals
  pub level_together : (part : List Lit) → All in_some_level part → (i : ℕ) × All (level u base i) part
  unfolding in_some_level
  level_together [] all = (0, All-nil (level u base 0))
  level_together (x ∷ part) all =
      let first : (i : ℕ) × level u base i x = All-head in_some_level x part all in
      let rest : (i : ℕ) × All (level u base i) part = level_together part (All-tail in_some_level x part all) in
      let top : ℕ = max first.0 rest.0 in (
        top,
        All-cons (level u base top) x part
            (level-later x first.0 top (omega arith) first.1)
            (All-weaker (level u base rest.0) (level u base top) (λ l h. level-later l rest.0 top (omega arith) h) part rest.1),
      )

  pub levels_closed : IsClosed u in_some_level
  unfolding in_some_level
  levels_closed l (p, f) =
      let from : (i : ℕ) × All (level u base i) f.forces.part = level_together f.forces.part f.forces.part_known in
      (suc from.0, inr (p, ForcesAt-with u in_some_level (level u base from.0) p l f from.1))

  pub level_in_Closure : (i : ℕ) → IsWithin (level u base i) (Closure u base)
  level_in_Closure zero l given = has_base l given
  level_in_Closure (suc i) l at =
      elim at [
        | inl before ↦ level_in_Closure i l before
        | inr forced ↦ closed l (ForcesSomewhere-more u (level u base i) (Closure u base) (level_in_Closure i) l forced)
      ]

  pub union_of_levels : SameLits (Closure u base) (λ l. (i : ℕ) × level u base i l)
  unfolding in_some_level
  union_of_levels = (least in_some_level levels_closed (λ l given. (0, given)), λ l at. level_in_Closure at.0 l at.1)

pub monotone : (u : Unrolled) (few many : LitSet) → IsWithin few many → IsWithin (Closure u few) (Closure u many)
monotone u few many within = least u few (Closure u many) (closed u many) (λ l given. has_base u many l (within l given))

module _ (u : Unrolled) (base known : LitSet) (from_base : IsWithin base known) (in_closure : IsWithin known (Closure u base)) where
  pub forced_between : IsWithin (ForcesSomewhere u known) (Closure u base)
  forced_between l forced = closed u base l (ForcesSomewhere-more u known (Closure u base) in_closure l forced)

  pub closed_between : IsClosed u known → SameLits known (Closure u base)
  closed_between is_closed = (in_closure, least u base known is_closed from_base)

  pub same_closure : SameLits (Closure u known) (Closure u base)
  same_closure = (least u known (Closure u base) (closed u base) in_closure, monotone u base known from_base)

pub stable_level : (u : Unrolled) (base : LitSet) (i : ℕ) → IsWithin (level u base (suc i)) (level u base i) → SameLits (level u base i) (Closure u base)
stable_level u base i stable =
    (level_in_Closure u base i, least u base (level u base i) (λ l forced. stable l (inr forced)) (λ l given. level-later u base l 0 i (omega arith) given))
