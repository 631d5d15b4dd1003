-- What the waiting tasks of all chunks force, listed chunk by chunk.
use Rattle.std.proofs.Common.{ℕ, ◌≡◌, ◌<◌, ◌≤◌, ◌+◌, ◌*◌, ◌⊎◌, ◌/◌, true, false, List, length, arith, inl, inr, refl, sym, ap, subst, ◌∙◌}
use Rattle.std.specs.List.{Contains}
use Rattle.std.proofs.lemmas.Bool.{cases_eq, true≢false}
use Rattle.sr_model.specs.declared.cells.Lit.{Lit}
use Rattle.sr_model.specs.declared.cells.Place.{Place}
use Rattle.sr_model.specs.Closure.{lit}
use Rattle.sr_model.specs.Room.{WithRoom}
use Rattle.sr_model.proofs.lemmas.Members.{not_in_nil}
use Rattle.unroll.specs.declared.problem.Task.{Task}
use Rattle.unroll.specs.Problem.{Unrolling, IsProblem, bit_of, block_at, cell_of, chunks_in, sig_at}
use Rattle.unroll.specs.Tasks.{IsTask, chunk_of, target_of, task_at, task_of}
use Rattle.unroll.proofs.lemmas.Laws.{bit-small, block-chunk, block-sig, chunk-within, each_in_one_task}
use Rattle.unroll.proofs.lemmas.Tasks.{some_chunk}
use Rattle.gate_rules.specs.Forced.{ForcedIn}
use Rattle.known_planes.specs.Planes.{PlaneSet, has}
use Rattle.plain_close.specs.declared.changes.Change.{Change}
use Rattle.plain_close.specs.declared.log.Level.{Level}
use Rattle.plain_close.specs.declared.worklist.Worklist.{Worklist}
use Rattle.plain_close.specs.Changes.{ForcesChunk, IsForcedChange, IsListedBy, changes_in}
use Rattle.plain_close.specs.Levels.{AreListed, IsLevel}
use Rattle.plain_close.specs.Steps.{IsDue, IsDueBy, IsForcedAt, IsLitOf}
use Rattle.plain_close.specs.Worklist.{IsWorklistOf, TaskWaits}
use Rattle.plain_close.proofs.ForcedChunks.{still-listed}
use Rattle.plain_close.proofs.FoundSteps.{lit-at}

-- what the tasks of the first chunks force is listed; those of the others wait, or are done
pub record ListsFirst (u : Unrolling) (planes : PlaneSet) (n : ℕ) (after : Worklist) (new : List (WithRoom Change)) : Type 0 where
  pub worklist : IsWorklistOf u after
  pub size : length new ≡ chunks_in u
  pub forced : (at : ℕ) (change : Change) → Contains (changes_in new at) change → (chunk : ℕ) × IsForcedChange u (has u planes) chunk at change
  pub all : (t : Task) → IsTask u t → (l : Lit) → ForcedIn u t (has u planes) l → ((n ≤ chunk_of u t) × TaskWaits u after t) ⊎ ((has u planes l ≡ true) ⊎ IsListedBy new (target_of u t) l)

pub lists-none : (u : Unrolling) (base : PlaneSet) (i : ℕ) (level : Level) → IsLevel u base i level → ListsFirst u level.planes 0 level.worklist level.changes.items
lists-none u base i level is = record {
  worklist = is.worklist;
  size = is.size;
  forced = λ at change h. absurd (not_in_nil change (subst (λ xs. Contains xs change) (is.none at) h));
  all = λ t task l f. elim (is.settled t task) [ inl waits ↦ inl (omega arith, waits) | inr done ↦ inr (inl (done l f)) ];
}

module _ (u : Unrolling) (planes : PlaneSet) where
  -- one chunk more
  pub lists-chunk : (n : ℕ) (before after : Worklist) (old new : List (WithRoom Change)) → ListsFirst u planes n before old → ForcesChunk u planes n before after old new → ListsFirst u planes (n + 1) after new
  lists-chunk n before after old new first forces = record {
    worklist = forces.worklist;
    size = forces.size ∙ first.size;
    forced = λ at change h. elim (forces.only at change h) [ inl was ↦ first.forced at change was | inr new ↦ (n, new) ];
    all = λ t task l f. elim (first.all t task l f) [
      | inl (late, waits) ↦ elim (cases_eq (chunk_of u t) n) [
        | inl same ↦ inr (forces.all t task same waits l f)
        | inr other ↦ inl (omega (arith, late, other), forces.others t other waits)
      ]
      | inr (inl known) ↦ inr (inl known)
      | inr (inr listed) ↦ inr (inr (still-listed old new forces.kept (target_of u t) l listed))
    ];
  }

  -- all chunks
  pub lists-all : IsProblem u → (n : ℕ) → chunks_in u ≤ n → (after : Worklist) (new : List (WithRoom Change)) → ListsFirst u planes n after new → AreListed u planes new
  lists-all is n all after new lists = record {
    forced = lists.forced;
    all = λ t task l f. elim (lists.all t task l f) [
      | inl (late, waits) ↦ let early : chunk_of u t < chunks_in u = chunk-within u (record { 0 = t.0 }) (some_chunk u is) in absurd (omega (arith, late, early, all))
      | inr listed ↦ listed
    ];
  }

  module _ (lists : List (WithRoom Change)) (are : AreListed u planes lists) where
    -- what is listed is due
    pub listed-due : (at : ℕ) (change : Change) → Contains (changes_in lists at) change → IsDue u planes at change
    listed-due at change h =
        let found = are.forced at change h in
        let one : (l : Lit) → IsLitOf at change l → lit (cell_of u (block_at u change.sig at) (bit_of l.cell)) l.bit ≡ l =
        λ l of. ap (λ n. lit (record { cycle = 64 * n + bit_of l.cell; sig = sig_at u (block_at u change.sig at) }) l.bit) (block-chunk u change.sig at found.1.is.inside.1)
        ∙ ap (λ s. lit (record { cycle = 64 * at + bit_of l.cell; sig = s }) l.bit) (block-sig u change.sig at found.1.is.inside.1 ∙ of.signal) ∙ lit-at at (bit_of l.cell) l of.in_chunk refl in
        record {
          inside = found.1.is.inside;
          cause = found.1.task.signal;
          unknown = λ l of. sym (ap (has u planes) (one l of)) ∙ found.1.unknown l.bit (bit_of l.cell) (bit-small l.cell) of.set;
          forced = λ l of.
              let f : ForcedIn u (task_at u change.cause found.0) (has u planes) l =
              subst (ForcedIn u (task_at u change.cause found.0) (has u planes)) (one l of) (found.1.forced l.bit (bit_of l.cell) (bit-small l.cell) of.set) in
              (f.place, sym f.belongs.0 ∙ block-sig u change.cause found.0 found.1.task.early, f.forces);
        }

    -- each new literal is listed by each target of a place that forces it
    pub due-listed : (q : Place) (l : Lit) → IsForcedAt u planes q l → has u planes l ≡ false → IsDueBy (l.cell.cycle / 64) (changes_in lists (l.cell.cycle / 64)) q.target l
    due-listed q l f unknown =
        let one = each_in_one_task u q f.instance f.stands in
        elim (are.all (task_of u q) one.0 l (record { place = q; belongs = one.1; forces = f })) [
          | inl known ↦ absurd (true≢false (sym known ∙ unknown))
          | inr (h, by) ↦ (h.change, h.listed, by ∙ one.1.0, record { signal = h.signal; in_chunk = refl; set = h.set })
        ]
