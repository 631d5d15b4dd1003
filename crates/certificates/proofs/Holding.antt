-- Claims that hold, where more literals are known, and facts that are added to others.
use Rattle.std.proofs.Common.{◌≡◌, ◌⊎◌, ℕ, ◌<◌, List, [], ◌∷◌, ◌++◌, sym, subst, inl, inr, append_assoc}
use Rattle.std.specs.List.{Contains}
use Rattle.std.proofs.lemmas.List.{append-nil, map-append}
use Rattle.std.proofs.lemmas.List.Elements.{All-weaker, Contains-append_left, Contains-push, Contains-push_cases}
use Rattle.sr_model.specs.declared.cells.Cell.{Cell}
use Rattle.sr_model.specs.declared.cells.Lit.{Lit}
use Rattle.sr_model.specs.declared.cells.Place.{Place}
use Rattle.sr_model.specs.Netlist.{Unrolled}
use Rattle.sr_model.specs.Closure.{LitSet, ForcesAt, IsWithin}
use Rattle.netlist.specs.Circuit.{Circuit, IsCircuit}
use Rattle.certificates.specs.declared.claim.Fact.{Fact}
use Rattle.certificates.specs.declared.claim.Claim.{Claim}
use Rattle.certificates.specs.declared.claim.Claim.TheVariants.{Forced, End, Contradiction}
use Rattle.certificates.specs.Forms.{LineForm, FactLine, EndLine, ContradictionLine}
use Rattle.certificates.specs.Grammar.{IsCellOf, Means}
use Rattle.certificates.specs.Known.{IsCellIn, IsThere}
use Rattle.certificates.specs.Validity.{AreForced, Holds, lits_of, with_facts}
use Rattle.certificates.proofs.Names.{named-within}

-- what few literals force at a place, more literals force there too
pub forces-more : (u : Unrolled) (few many : LitSet) (p : Place) (l : Lit) → IsWithin few many → ForcesAt u few p l → ForcesAt u many p l
forces-more u few many p l within f = record {
  instance = f.instance;
  stands = f.stands;
  forces = record {
    on_cells = f.forces.on_cells;
    part = f.forces.part;
    part_known = All-weaker few many within f.forces.part f.forces.part_known;
    part_on_cells = f.forces.part_on_cells;
    row = f.forces.row;
    is_row = f.forces.is_row;
    row_agrees = f.forces.row_agrees;
    forced = f.forces.forced;
  };
}

pub holds-more : (u : Unrolled) (few many : LitSet) (claim : Claim) → IsWithin few many → Holds u few claim → Holds u many claim
holds-more u few many (Forced fact) within h = forces-more u few many fact.place fact.lit within h
holds-more u few many End within h = tt
holds-more u few many (Contradiction cell) within h = (within _ h.0, within _ h.1)

-- ---- one fact more

lits-push : (facts : List Fact) (fact : Fact) → lits_of (facts ++ fact ∷ []) ≡ lits_of facts ++ fact.lit ∷ []
lits-push facts fact = map-append (λ (f : Fact). f.lit) facts (fact ∷ [])

pub in-more : (base : LitSet) (facts : List Fact) (fact : Fact) (l : Lit) → with_facts base facts l ⊎ (fact.lit ≡ l) → with_facts base (facts ++ fact ∷ []) l
in-more base facts fact l (inl (inl known)) = inl known
in-more base facts fact l (inl (inr stated)) = inr (subst (λ ls. Contains ls l) (sym (lits-push facts fact)) (Contains-append_left (lits_of facts) (fact.lit ∷ []) l stated))
in-more base facts fact l (inr same) = inr (subst (λ ls. Contains ls l) (sym (lits-push facts fact)) (subst (Contains (lits_of facts ++ fact.lit ∷ [])) same (Contains-push (lits_of facts) fact.lit)))

pub in-more-cases : (base : LitSet) (facts : List Fact) (fact : Fact) (l : Lit) → with_facts base (facts ++ fact ∷ []) l → with_facts base facts l ⊎ (fact.lit ≡ l)
in-more-cases base facts fact l (inl known) = inl (inl known)
in-more-cases base facts fact l (inr stated) =
    elim (Contains-push_cases (lits_of facts) fact.lit l (subst (λ ls. Contains ls l) (lits-push facts fact) stated)) [
      | inl before ↦ inl (inr before)
      | inr same ↦ inr same
    ]

pub forced-push : (u : Unrolled) (base : LitSet) (earlier facts : List Fact) (fact : Fact) → AreForced u base earlier facts → ForcesAt u (with_facts base (earlier ++ facts)) fact.place fact.lit
    → AreForced u base earlier (facts ++ fact ∷ [])
forced-push u base earlier [] fact all f = (subst (λ (fs : List Fact). ForcesAt u (with_facts base fs) fact.place fact.lit) (append-nil earlier) f, tt)
forced-push u base earlier (first ∷ facts) fact all f =
    (all.0, forced-push u base (earlier ++ first ∷ []) facts fact all.1 (subst (λ (fs : List Fact). ForcesAt u (with_facts base fs) fact.place fact.lit) (sym (append_assoc earlier (first ∷ []) facts)) f))

-- ---- what a claim names is there

cell-there : (c : Circuit) (cycles : ℕ) (name : List ℕ) (cycle : ℕ) (cell : Cell) → IsCircuit c → IsCellOf c cycles name cycle cell → IsCellIn (record { circuit = c; cycles = cycles }) cell
cell-there c cycles name cycle cell circuit is = record { signal = named-within c cell.sig name circuit is.named; early = subst (λ n. n < cycles) (sym is.is_cycle) is.early }

pub there : (c : Circuit) (cycles : ℕ) (form : LineForm) (claim : Claim) → IsCircuit c → Means c cycles form claim → IsThere (record { circuit = c; cycles = cycles }) claim
there c cycles (FactLine name cycle bit target at) (Forced fact) circuit m = (cell-there c cycles name cycle fact.lit.cell circuit m.cell, m.place.stands)
there c cycles (FactLine name cycle bit target at) End circuit m = absurd m
there c cycles (FactLine name cycle bit target at) (Contradiction cell) circuit m = absurd m
there c cycles EndLine (Forced fact) circuit m = absurd m
there c cycles EndLine End circuit m = tt
there c cycles EndLine (Contradiction cell) circuit m = absurd m
there c cycles (ContradictionLine name cycle) (Forced fact) circuit m = absurd m
there c cycles (ContradictionLine name cycle) End circuit m = absurd m
there c cycles (ContradictionLine name cycle) (Contradiction cell) circuit m = cell-there c cycles name cycle cell circuit m
