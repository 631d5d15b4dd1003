-- The changes that a task forces.
use Rattle.std.proofs.Common.{ℕ, ◌≡◌, ◌<◌, ◌/◌, Bool, true, false, not, List, length, map, inl, inr, refl, sym, ap, subst, ◌∙◌}
use Rattle.std.specs.List.{Contains}
use Rattle.std.proofs.lemmas.Bool.{and_parts, cases_Bool, true≢false}
use Rattle.std.proofs.lemmas.List.{length-map}
use Rattle.sr_model.specs.Closure.{lit}
use Rattle.sr_model.specs.Room.{WithRoom}
use Rattle.unroll.specs.declared.problem.Block.{Block}
use Rattle.unroll.specs.declared.problem.InChunk.{InChunk}
use Rattle.unroll.specs.declared.words.PinWord.{PinWord}
use Rattle.unroll.specs.Bits.{is_cycle, is_set, word_for}
use Rattle.unroll.specs.Problem.{Unrolling, bit_of, block_at, block_in, cell_of, chunk_at, sig_at}
use Rattle.unroll.specs.Tasks.{IsTaskAt, task_at, task_in}
use Rattle.unroll.proofs.lemmas.Laws.{bit-small, block-chunk, block-sig, cell-bit, cycle-chunk}
use Rattle.gate_rules.specs.Forced.{ForcedIn, bit_at_place}
use Rattle.gate_rules.proofs.lemmas.Laws.{forced_on_cells}
use Rattle.known_planes.specs.Planes.{PlaneSet, has, has_bit}
use Rattle.plain_close.specs.declared.changes.Change.{Change}
use Rattle.plain_close.specs.Turns.{AreForced}
use Rattle.plain_close.specs.Changes.{AreKnown, ForcesTask, IsCalm, IsForcedChange, IsNewChange, IsOwnChange, ListsNew, changes_in}
use Rattle.plain_close.proofs.CalmTasks.{index-of, set-at}
use Rattle.plain_close.proofs.Turning.{bit-has, has-bit_of}

-- where all is known there is nothing to list
pub lists-known : (u : Unrolling) (planes : PlaneSet) (task : InChunk) (again : Bool) (blocks : List Block) (words : List PinWord) (lists : List (WithRoom Change)) → AreKnown planes blocks words
    → ListsNew u planes task again blocks words lists lists
lists-known u planes task again blocks words lists known = record {
  size = refl;
  kept = λ at change h. h;
  only = λ at change h. inl h;
  all = λ j i bit within few set. inl (known j i bit within few set);
}

module _ (u : Unrolling) (planes : PlaneSet) (task : InChunk) (is_task : IsTaskAt u task) (again : Bool) (in_chunks : List InChunk) (out : List PinWord) (are : AreForced u planes task in_chunks out)
    (calm : again ≡ false → IsCalm u (task_in u task) (has u planes)) where
  abbrev blocks : List Block
  blocks = map (block_in u) in_chunks

  size : length out ≡ length blocks
  size = are.out_size ∙ sym (length-map in_chunks (block_in u))

  module _ (at : ℕ) (change : Change) (new : IsNewChange u planes task again blocks out at change) where
    -- a bit of the change is one of what is forced
    set-beside : (bit : Bool) (i : ℕ) → i < 64 → is_set (word_for bit change.words) i ≡ true → bit_at_place out new.index bit i ≡ true
    set-beside bit i few set = (and_parts (bit_at_place out new.index bit i) (not (has_bit planes (block_at u change.sig at) bit i)) (sym (new.set bit i few) ∙ set)).0

    forced-lit : (bit : Bool) (i : ℕ) → i < 64 → is_set (word_for bit change.words) i ≡ true → ForcedIn u (task_in u task) (has u planes) (lit (cell_of u (block_at u change.sig at) i) bit)
    forced-lit bit i few set =
        subst (λ b. ForcedIn u (task_in u task) (has u planes) (lit (cell_of u b i) bit)) new.block ((are.exact new.index i bit new.within few).0 (set-beside bit i few set))

    -- and it is not known
    unknown-bit : (bit : Bool) (i : ℕ) → i < 64 → is_set (word_for bit change.words) i ≡ true → has u planes (lit (cell_of u (block_at u change.sig at) i) bit) ≡ false
    unknown-bit bit i few set =
        elim (cases_Bool (has u planes (lit (cell_of u (block_at u change.sig at) i) bit))) [
          | inr unknown ↦ unknown
          | inl known ↦
              let b : Block = block_at u change.sig at in
              let same = cell-bit u b i few in
              let there : has_bit planes b bit i ≡ true = sym (ap (λ x. has_bit planes x bit (bit_of (cell_of u b i))) same.0 ∙ ap (has_bit planes b bit) same.1) ∙ (has-bit_of u planes (lit (cell_of u b i) bit) known).1 in
              let none : not (has_bit planes b bit i) ≡ true = (and_parts (bit_at_place out new.index bit i) (not (has_bit planes b bit i)) (sym (new.set bit i few) ∙ set)).1 in
              absurd (true≢false (sym none ∙ ap not there))
        ]

    own-change : change.again ≡ false → (at ≡ task.chunk) × IsOwnChange u (has u planes) task.chunk change
    own-change once =
        let own = new.own once in (
          own.1,
          record {
            task = subst (λ s. IsTaskAt u (record { sig = s; chunk = task.chunk })) (sym new.cause) is_task;
            forced = λ bit i few set.
                subst (λ s. ForcedIn u (task_at u s task.chunk) (has u planes) (lit (cell_of u (block_at u change.sig task.chunk) i) bit)) (sym new.cause)
                (subst (λ c. ForcedIn u (task_in u task) (has u planes) (lit (cell_of u (block_at u change.sig c) i) bit)) own.1 (forced-lit bit i few set));
            calm = subst (λ s. IsCalm u (task_at u s task.chunk) (has u planes)) (sym new.cause) (calm own.0);
          },
        )

    forced-change : IsForcedChange u (has u planes) task.chunk at change
    forced-change = record {
      is = record {
        inside = new.inside;
        no_later = λ bit i few set.
            subst (λ c. is_cycle u.cycles c i ≡ true) (ap (chunk_at u) new.block ∙ block-chunk u change.sig at new.inside.1) (are.later new.index new.within bit i few (set-beside bit i few set));
      };
      task = subst (λ s. IsTaskAt u (record { sig = s; chunk = task.chunk })) (sym new.cause) is_task;
      forced = λ bit i few set.
          subst (λ s. ForcedIn u (task_at u s task.chunk) (has u planes) (lit (cell_of u (block_at u change.sig at) i) bit)) (sym new.cause) (forced-lit bit i few set);
      unknown = unknown-bit;
      own = own-change;
    }

  -- what a task forces is listed where it is not known
  pub forces-task : (old new : List (WithRoom Change)) → ListsNew u planes task again blocks out old new → ForcesTask u planes task old new
  forces-task old new lists = record {
    size = lists.size;
    kept = lists.kept;
    only = λ at change h. elim (lists.only at change h) [
      | inl before ↦ inl before
      | inr fresh ↦ inr (forced-change at change fresh)
    ];
    all = λ l f.
        let on_cells = forced_on_cells u (task_in u task) (has u planes) l f in
        let there = index-of u (task_in u task) planes blocks out size are.has_cells are.exact l.cell on_cells.0 in
        let early = cycle-chunk u l.cell.cycle on_cells.1 in
        elim (lists.all there.0 (bit_of l.cell) l.bit there.1 (bit-small l.cell) (set-at u (task_in u task) planes blocks out size are.has_cells are.exact l on_cells.1 there.0 there.1 there.2 f)) [
          | inl known ↦ inl (bit-has u planes l on_cells.1 (ap (λ b. has_bit planes b l.bit (bit_of l.cell)) (sym there.2) ∙ known))
          | inr (change, listed, signal, set, cause) ↦ inr (
            record {
              change = change;
              listed = subst (λ k. Contains (changes_in new k) change) (ap (chunk_at u) there.2 ∙ block-chunk u l.cell.sig (l.cell.cycle / 64) early) listed;
              signal = signal ∙ ap (sig_at u) there.2 ∙ block-sig u l.cell.sig (l.cell.cycle / 64) early;
              set = set;
            },
            cause,
          )
        ];
  }
