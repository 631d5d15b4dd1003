-- What follows from a dump, from what follows from a base with its literals.
use Rattle.std.proofs.Common.{◌≡◌, ◌<◌, ◌≤◌, ℕ, List, Option, Some, Result, Ok, Err, subst}
use Rattle.std.specs.Prelude.{IfOk, IfSome}
use mathlib.Core.Path.{fun_ext}
use Rattle.sr_model.specs.declared.cells.Cell.{Cell}
use Rattle.sr_model.specs.declared.cells.Lit.{Lit}
use Rattle.sr_model.specs.Closure.{Closure, HasBoth, IsClash, SameLits, passing}
use Rattle.sr_model.specs.Dump.{Known, Row, dump_has}
use Rattle.unroll.specs.Problem.{Unrolling, signals_in, unrolled}
use Rattle.known_planes.specs.Planes.{PlaneSet, IsOf, has, lits}
use Rattle.known_planes.specs.Counts.{known_count}
use Rattle.plain_close.specs.declared.log.Step.{Step}
use Rattle.plain_close.specs.Log.{IsLog}
use Rattle.restore_program.specs.Outcome.{IsFirstClash, IsKnown, IsTraced}
use Rattle.restore_program.proofs.Answering.{known_from}

-- what is so of whatever is found
pub of_found : {A : Type 0} (P : A → Type 0) (found : Option A) (x : A) → found ≡ Some x → IfSome found P → P x
of_found P found x is h = subst (λ o. IfSome o P) is h

-- what follows from it is so of it too
pub of_ok : {A E : Type 0} (P Q : A → Type 0) → ((x : A) → P x → Q x) → (r : Result A E) → IfOk r P → IfOk r Q
of_ok P Q follows (Ok x) h = follows x h
of_ok P Q follows (Err e) h = tt

module _ (u : Unrolling) (base : PlaneSet) (rows : List Row) (each : (l : Lit) → has u base l ≡ dump_has rows l) where
  same : has u base ≡ dump_has rows
  same = fun_ext each

  pub clash_outcome : (cell : Cell) (i : ℕ) → cell.sig.0 < signals_in u → IsClash (unrolled u) (lits u base) cell i → IsFirstClash u rows cell
  clash_outcome cell i within is = (within, (i, subst (λ test. IsClash (unrolled u) (passing test) cell i) same is))

  pub known_outcome : (planes : PlaneSet) → IsOf u planes → SameLits (lits u planes) (Closure (unrolled u) (lits u base)) → ((c : Cell) → HasBoth (lits u planes) c → ⊥) → IsKnown u rows planes
  known_outcome planes of closure no_clash = record { of = of; no_clash = no_clash; known = known_from (unrolled u) rows (has u base) (lits u planes) each closure }

  -- a cell of which both literals follow from the base
  pub known_both : (c : Cell) × HasBoth (Closure (unrolled u) (lits u base)) c → (c : Cell) × HasBoth (Known (unrolled u) rows) c
  known_both = subst (λ test. (c : Cell) × HasBoth (Closure (unrolled u) (passing test)) c) same

  -- and where none are, none follow from the rows
  pub none_both : ((c : Cell) → HasBoth (Closure (unrolled u) (lits u base)) c → ⊥) → (c : Cell) → HasBoth (Known (unrolled u) rows) c → ⊥
  none_both = subst (λ test. (c : Cell) → HasBoth (Closure (unrolled u) (passing test)) c → ⊥) same

  pub traced_outcome : (traced : ℕ) → traced ≡ known_count u.circuit u.cycles (has u base) → traced ≤ 536870912 → IsTraced u rows traced
  traced_outcome traced is few = (subst (λ test. traced ≡ known_count u.circuit u.cycles test) same is, few)

  -- the log of what follows
  pub log_outcome : (steps : List Step) (clash : Option Cell) → IsLog (unrolled u) (lits u base) steps clash → IsLog (unrolled u) (passing (dump_has rows)) steps clash
  log_outcome steps clash = subst (λ test. IsLog (unrolled u) (passing test) steps clash) same
