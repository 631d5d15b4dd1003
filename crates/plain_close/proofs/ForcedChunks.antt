-- What the waiting tasks of a chunk force, one task after another.
use Rattle.std.proofs.Common.{ℕ, ◌≡◌, ◌<◌, ◌≤◌, ◌⊎◌, ◌/◌, true, List, length, arith, inl, inr, refl, sym, ap, subst, ◌∙◌}
use Rattle.std.specs.List.{Contains}
use Rattle.std.proofs.lemmas.Bool.{cases_lt}
use Rattle.sr_model.specs.declared.cells.Lit.{Lit}
use Rattle.sr_model.specs.declared.cells.Sig.{Sig}
use Rattle.sr_model.specs.Room.{WithRoom}
use Rattle.unroll.specs.declared.problem.Task.{Task}
use Rattle.unroll.specs.Problem.{Unrolling}
use Rattle.unroll.specs.Tasks.{IsTask, chunk_of, target_of, task_at}
use Rattle.unroll.specs.Waiting.{IsNextFrom, TakesOut, Waiting, Waits}
use Rattle.unroll.proofs.lemmas.Laws.{task-itself}
use Rattle.gate_rules.specs.Forced.{ForcedIn}
use Rattle.known_planes.specs.Planes.{PlaneSet, has}
use Rattle.plain_close.specs.declared.changes.Change.{Change}
use Rattle.plain_close.specs.declared.worklist.Worklist.{Worklist}
use Rattle.plain_close.specs.Worklist.{IsWorklistOf, TaskWaits}
use Rattle.plain_close.specs.Changes.{AreKept, ForcesChunk, ForcesTask, IsForcedChange, IsListedBy, changes_in}
use Rattle.plain_close.proofs.Turning.{same-tasks}

-- what the chunk's tasks that waited and do so no more force is listed; of the tasks below a signal none waits
pub record ForcesBelow (u : Unrolling) (planes : PlaneSet) (chunk from : ℕ) (before after : Worklist) (old new : List (WithRoom Change)) : Type 0 where
  pub worklist : IsWorklistOf u after
  pub none : (s : Sig) → s.0 < from → Waits after.waiting s chunk → ⊥
  pub others : (t : Task) → (chunk_of u t ≡ chunk → ⊥) → TaskWaits u before t → TaskWaits u after t
  pub size : length new ≡ length old
  pub kept : AreKept old new
  pub only : (at : ℕ) (change : Change) → Contains (changes_in new at) change → Contains (changes_in old at) change ⊎ IsForcedChange u (has u planes) chunk at change
  pub all : (t : Task) → IsTask u t → chunk_of u t ≡ chunk → TaskWaits u before t → TaskWaits u after t ⊎ ((l : Lit) → ForcedIn u t (has u planes) l → (has u planes l ≡ true) ⊎ IsListedBy new (target_of u t) l)

-- what is listed stays so
pub still-listed : (old new : List (WithRoom Change)) → AreKept old new → (cause : Sig) (l : Lit) → IsListedBy old cause l → IsListedBy new cause l
still-listed old new kept cause l (h, by) = (record { change = h.change; listed = kept (l.cell.cycle / 64) h.change h.listed; signal = h.signal; set = h.set }, by)

module _ (u : Unrolling) (planes : PlaneSet) (chunk : ℕ) (before : Worklist) (old : List (WithRoom Change)) where
  pub forces-none : IsWorklistOf u before → ForcesBelow u planes chunk 0 before before old old
  forces-none are = record {
    worklist = are;
    none = λ s below waits. omega (arith, below);
    others = λ t apart waits. waits;
    size = refl;
    kept = λ at change h. h;
    only = λ at change h. inl h;
    all = λ t is here waits. inl waits;
  }

  module _ (from : ℕ) (mid : Worklist) (some : List (WithRoom Change)) (so_far : ForcesBelow u planes chunk from before mid old some) where
    -- a task was taken, and what it forces was listed
    pub forces-more : (s : Sig) (left : Waiting) (new : List (WithRoom Change)) → IsNextFrom mid.waiting chunk from s → TakesOut s chunk mid.waiting left
        → ForcesTask u planes (record { sig = s; chunk = chunk }) some new → ForcesBelow u planes chunk s.0 before (record { records = mid.records; waiting = left }) old new
    forces-more s left new next taken forces = record {
      worklist = same-tasks u mid (record { records = mid.records; waiting = left }) so_far.worklist refl taken.signals taken.chunks taken.only;
      none = λ r below waits. elim (cases_lt r.0 from) [
        | inl early ↦ so_far.none r early (taken.only r chunk waits)
        | inr late ↦ next.least r late below (taken.only r chunk waits)
      ];
      others = λ t apart waits. elim (taken.kept (target_of u t) (chunk_of u t) (so_far.others t apart waits)) [
        | inl still ↦ still
        | inr (of, here) ↦ absurd (apart here)
      ];
      size = forces.size ∙ so_far.size;
      kept = λ at change h. forces.kept at change (so_far.kept at change h);
      only = λ at change h. elim (forces.only at change h) [
        | inl earlier ↦ so_far.only at change earlier
        | inr new ↦ inr new
      ];
      all = λ t is here waits. elim (so_far.all t is here waits) [
        | inl waited ↦ elim (taken.kept (target_of u t) (chunk_of u t) waited) [
          | inl still ↦ inl still
          | inr (of, in_chunk) ↦
              let one : task_at u s chunk ≡ t = ap (λ r. task_at u r chunk) (sym of) ∙ ap (task_at u (target_of u t)) (sym in_chunk) ∙ task-itself u t in
              inr (λ l f.
              subst (λ r. (has u planes l ≡ true) ⊎ IsListedBy new r l) (sym of) (forces.all l (subst (λ k. ForcedIn u k (has u planes) l) (sym one) f)))
        ]
        | inr forced ↦ inr (λ l f. elim (forced l f) [
          | inl known ↦ inl known
          | inr listed ↦ inr (still-listed some new forces.kept (target_of u t) l listed)
        ])
      ];
    }

    -- where no other waits
    pub forces-chunk : ((s : Sig) → from ≤ s.0 → Waits mid.waiting s chunk → ⊥) → ForcesChunk u planes chunk before mid old some
    forces-chunk none = record {
      worklist = so_far.worklist;
      none = idle;
      others = so_far.others;
      size = so_far.size;
      kept = so_far.kept;
      only = so_far.only;
      all = λ t is here waits. elim (so_far.all t is here waits) [
        | inl still ↦ absurd (idle (target_of u t) (subst (Waits mid.waiting (target_of u t)) here still))
        | inr forced ↦ forced
      ];
    }
      where
        idle : (s : Sig) → Waits mid.waiting s chunk → ⊥
        idle s waits = elim (cases_lt s.0 from) [ inl early ↦ so_far.none s early waits | inr late ↦ none s late waits ]
