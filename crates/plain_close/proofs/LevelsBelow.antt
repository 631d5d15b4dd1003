-- The first clash, once all chunks have come to a level.
use Rattle.std.proofs.Common.{ℕ, suc, ◌≡◌, ◌<◌, ◌+◌, Option, Some, None, true, arith, inl, inr, refl, subst, false}
use Rattle.std.specs.Prelude.{IfSome}
use Rattle.std.proofs.lemmas.Bool.{cases_lt}
use Rattle.sr_model.specs.declared.cells.Cell.{Cell}
use Rattle.sr_model.specs.Closure.{Closure, HasBoth, IsClash, IsClosed, IsWithin, lit}
use Rattle.sr_model.proofs.lemmas.Laws.{least, level-later}
use Rattle.unroll.specs.Problem.{Unrolling, signals_in, unrolled}
use Rattle.known_planes.specs.Planes.{PlaneSet, has, lits}
use Rattle.known_planes.proofs.lemmas.Laws.{literals_are_of_cells}
use Rattle.plain_close.specs.declared.levels.Clash.{Clash}
use Rattle.plain_close.specs.declared.wavefront.Wavefront.{Wavefront}
use Rattle.plain_close.specs.Wavefront.{GoesOn, IsFirst, IsWavefront, level_of}

module _ (u : Unrolling) (base : PlaneSet) (n : ℕ) (w : Wavefront) (is : IsWavefront u base (λ _. n) w) where
  -- the first one that was noted is the first clash
  pub first-is : (first : Option Clash) → IsFirst u base (λ _. n) first → IfSome first (λ clash. IsClash (unrolled u) (lits u base) clash.cell clash.level)
  first-is None h = tt
  first-is (Some first) h = record {
    first_level = λ j d both. elim (cases_lt n j) [
      | inl above ↦ omega (arith, h.0, above)
      | inr below ↦ elim (h.2 j d below both) [ inl earlier ↦ omega (arith, earlier) | inr (same, cell) ↦ omega (arith, same) ]
    ];
    least_cell = record {
      both = h.1;
      least = λ d both. elim (h.2 first.level d h.0 both) [ inl lower ↦ absurd (omega (arith, lower)) | inr (same, cell) ↦ cell ];
    };
  }

  -- and its signal is there
  pub first-within : (first : Option Clash) → IsFirst u base (λ _. n) first → IfSome first (λ clash. clash.cell.sig.0 < signals_in u)
  first-within None h = tt
  first-within (Some first) h =
      (literals_are_of_cells u w.planes (lit first.cell false) is.of
      ((is.literals (lit first.cell false)).1 (level-later (unrolled u) (lits u base) (lit first.cell false) first.level n h.0 h.1.0))).0

  -- where nothing was added up to a later level, and no cell has both literals, none of the closure has
  pub no-first : (later : ℕ) (v : Wavefront) → n < later → GoesOn u base (λ _. later) false w v → IsFirst u base (λ _. later) None → (c : Cell) → HasBoth (Closure (unrolled u) (lits u base)) c → ⊥
  no-first later v below goes none c both = none n c (omega (arith, below)) (within (lit c false) both.0, within (lit c true) both.1)
    where
      one-more : suc n ≡ n + 1
      one-more = omega arith

      closed : IsClosed (unrolled u) (level_of u base n)
      closed l forced =
          let there : level_of u base later l = level-later (unrolled u) (lits u base) l (n + 1) later (omega (arith, below)) (subst (λ k. level_of u base k l) one-more (inr forced)) in
          (is.literals l).0 (subst (λ (x : PlaneSet). has u x l ≡ true) (goes.same refl) ((goes.wavefront.literals l).1 there))

      within : IsWithin (Closure (unrolled u) (lits u base)) (level_of u base n)
      within = least (unrolled u) (lits u base) (level_of u base n) closed (λ l given. level-later (unrolled u) (lits u base) l 0 n (omega arith) given)
