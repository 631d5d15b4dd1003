-- The turn of a task, and turns one after another.
use Rattle.std.proofs.Common.{ℕ, ◌≡◌, ◌<◌, ◌≤◌, ◌⊎◌, Bool, true, false, ltb, List, length, map, get_or, arith, inl, inr, refl, sym, ap, subst, ◌∙◌}
use Rattle.std.specs.List.{Contains}
use Rattle.std.proofs.lemmas.Bool.{and_parts, and_from, lt-ltb, ltb-true}
use Rattle.std.proofs.lemmas.List.{get_or-map, get_or_default, length-map}
use Rattle.std.proofs.lemmas.List.Elements.{All-get_or}
use Rattle.sr_model.specs.declared.cells.Sig.{Sig}
use Rattle.sr_model.specs.declared.cells.Cell.{Cell}
use Rattle.sr_model.specs.declared.cells.Lit.{Lit}
use Rattle.sr_model.specs.Closure.{Closure, SameLits, IsClosed, lit}
use Rattle.sr_model.proofs.lemmas.Laws.{forced_between, closed_between, same_closure, has_base}
use Rattle.netlist.specs.Wiring.{driver_at, is_driven}
use Rattle.unroll.specs.declared.problem.Block.{Block}
use Rattle.unroll.specs.declared.problem.InChunk.{InChunk}
use Rattle.unroll.specs.declared.problem.Task.{Task}
use Rattle.unroll.specs.declared.words.PinWord.{PinWord}
use Rattle.unroll.specs.Bits.{is_set, no_words, word_for}
use Rattle.unroll.specs.Problem.{Unrolling, HaveNoLaterBit, IsInside, IsProblem, unrolled, chunks_in, blocks_in, block_in, block_of, bit_of, cell_of}
use Rattle.unroll.specs.Tasks.{IsTask, IsTaskAt, IsCellOf, task_at, task_in, target_of, chunk_of, blocks_of, blocks_from}
use Rattle.unroll.proofs.lemmas.Laws.{block-sig, block-chunk, block-within, task-itself, cell-itself, bit-small, blocks-at, have_its_cells}
use Rattle.gate_rules.specs.Forced.{AreForcedBy, ForcedIn, IsDone, IsForcedExactly, IsViewOf, bit_at_place, lit_at_place}
use Rattle.gate_rules.proofs.lemmas.Laws.{closed_where_done, forced_by_cells, forced_by_view, forced_on_cells}
use Rattle.known_planes.specs.Planes.{PlaneSet, IsOf, has, has_bit, lits, words_at}
use Rattle.known_planes.proofs.lemmas.Laws.{bits_are_literals}
use Rattle.unroll.specs.Waiting.{Waits}
use Rattle.plain_close.specs.declared.worklist.Worklist.{Worklist}
use Rattle.plain_close.specs.Worklist.{IsWorklistOf, HasNone, IsSettled, TaskWaits}
use Rattle.plain_close.specs.Turns.{Wakes, JoinsFirst, AddsForced, AreForced, Sees, Turns, Between, missing_of}

-- a gate or flip-flop in a chunk is a task
pub task-within : (u : Unrolling) (at : InChunk) → IsTaskAt u at → IsTask u (task_in u at)
task-within u at is = (block-within u at.sig at.chunk is.early is.signal, ap (λ (s : Sig). is_driven (driver_at u.circuit.drivers s.0)) (block-sig u at.sig at.chunk is.early) ∙ is.driven)

-- bits of which each one has what the other has are the same
pub both-ways : (a b : Bool) → (a ≡ true → b ≡ true) → (b ≡ true → a ≡ true) → a ≡ b
both-ways true b there back = sym (there refl)
both-ways false true there back = back refl
both-ways false false there back = refl

-- a literal of planes is a bit of its block
pub has-bit_of : (u : Unrolling) (planes : PlaneSet) (l : Lit) → has u planes l ≡ true → (l.cell.cycle < u.cycles) × (has_bit planes (block_of u l.cell) l.bit (bit_of l.cell) ≡ true)
has-bit_of u planes l h =
    let parts : (ltb l.cell.cycle u.cycles ≡ true) × (has_bit planes (block_of u l.cell) l.bit (bit_of l.cell) ≡ true) =
    and_parts (ltb l.cell.cycle u.cycles) (has_bit planes (block_of u l.cell) l.bit (bit_of l.cell)) h in
    (ltb-true l.cell.cycle u.cycles parts.0, parts.1)

pub bit-has : (u : Unrolling) (planes : PlaneSet) (l : Lit) → l.cell.cycle < u.cycles → has_bit planes (block_of u l.cell) l.bit (bit_of l.cell) ≡ true → has u planes l ≡ true
bit-has u planes l early h = and_from (ltb l.cell.cycle u.cycles) (has_bit planes (block_of u l.cell) l.bit (bit_of l.cell)) (lt-ltb l.cell.cycle u.cycles early) h

-- and what the bits keep the literals keep
pub has-kept : (u : Unrolling) (old new : PlaneSet) → ((b : Block) (bit : Bool) (i : ℕ) → has_bit old b bit i ≡ true → has_bit new b bit i ≡ true)
    → (l : Lit) → has u old l ≡ true → has u new l ≡ true
has-kept u old new bits l h =
    let parts : (l.cell.cycle < u.cycles) × (has_bit old (block_of u l.cell) l.bit (bit_of l.cell) ≡ true) = has-bit_of u old l h in
    bit-has u new l parts.0 (bits (block_of u l.cell) l.bit (bit_of l.cell) parts.1)

module _ (u : Unrolling) (t : Task) (seen old new : PlaneSet) (blocks : List Block) (out : List PinWord)
    (has_cells : (c : Cell) → IsCellOf u t c → Contains blocks (block_of u c)) (exact : AreForcedBy u t blocks (has u seen) out) (joins : JoinsFirst blocks out (length blocks) old new) where
  -- the literal of an index
  at-index : (l : Lit) (index : ℕ) → l.cell.cycle < u.cycles → get_or blocks index (record { 0 = 0 }) ≡ block_of u l.cell → lit_at_place u blocks index l.bit (bit_of l.cell) ≡ l
  at-index l index early e = ap (λ b. lit (cell_of u b (bit_of l.cell)) l.bit) e ∙ ap (λ c. lit c l.bit) (cell-itself u l.cell early)

  adds-forced : AddsForced u t seen old new
  adds-forced = record {
    done = λ l f.
        let on_cells : IsCellOf u t l.cell × (l.cell.cycle < u.cycles) = forced_on_cells u t (has u seen) l f in
        let there : Contains blocks (block_of u l.cell) = has_cells l.cell on_cells.0 in
        let at : get_or blocks there.0 (record { 0 = 0 }) ≡ block_of u l.cell = get_or_default blocks there.0 (record { 0 = 0 }) (block_of u l.cell) there.1 ∙ there.2 in
        let set : bit_at_place out there.0 l.bit (bit_of l.cell) ≡ true =
        (exact there.0 (bit_of l.cell) l.bit there.1 (bit-small l.cell)).1 (subst (ForcedIn u t (has u seen)) (sym (at-index l there.0 on_cells.1 at)) f) in
        bit-has u new l on_cells.1 (joins.joined (block_of u l.cell) l.bit (bit_of l.cell) (record { index = there.0; first = there.1; block = at; set = set }));
    only = λ l h.
        let parts : (l.cell.cycle < u.cycles) × (has_bit new (block_of u l.cell) l.bit (bit_of l.cell) ≡ true) = has-bit_of u new l h in
        elim (joins.only (block_of u l.cell) l.bit (bit_of l.cell) parts.1) [
          | inl before ↦ inl (bit-has u old l parts.0 before)
          | inr among ↦ inr (subst (ForcedIn u t (has u seen)) (at-index l among.index parts.0 among.block) ((exact among.index (bit_of l.cell) l.bit among.first (bit-small l.cell)).0 among.set))
        ];
  }

-- what a task forces from the words that were seen is what it forces from the planes
module _ (u : Unrolling) (planes : PlaneSet) (task : InChunk) (in_chunks : List InChunk) (view empty out : List PinWord) (is : IsProblem u) (of : IsOf u planes) (is_task : IsTaskAt u task)
    (sees : Sees u planes (blocks_from u task.sig task.chunk) in_chunks view empty) where
  by-view : (blocks : List Block) → blocks ≡ blocks_of u (task_in u task) → length view ≡ length blocks → IsViewOf u blocks (has u planes) view → IsForcedExactly u (task_in u task) blocks view out
      → AreForcedBy u (task_in u task) blocks (has u planes) out
  by-view blocks same =
      subst (λ bs. length view ≡ length bs → IsViewOf u bs (has u planes) view → IsForcedExactly u (task_in u task) bs view out → AreForcedBy u (task_in u task) bs (has u planes) out) (sym same)
      (λ size viewed. (forced_by_view u (task_in u task) (has u planes) view out is (task-within u task is_task) size viewed).0)

  viewed : IsViewOf u (map (block_in u) in_chunks) (has u planes) view
  viewed index i bit within few early =
      let at : InChunk = get_or in_chunks index (record { sig = record { 0 = 0 }; chunk = 0 }) in
      let listed : index < length in_chunks = subst (λ n. index < n) (length-map in_chunks (block_in u)) within in
      let block : get_or (map (block_in u) in_chunks) index (record { 0 = 0 }) ≡ block_in u at = get_or-map (block_in u) in_chunks index (record { sig = record { 0 = 0 }; chunk = 0 }) (record { 0 = 0 }) listed in
      let inside : IsInside u at = All-get_or (IsInside u) in_chunks index (record { sig = record { 0 = 0 }; chunk = 0 }) listed sees.inside in
      ap (λ ws. bit_at_place ws index bit i) (sees.view_is ∙ ap (map (words_at planes)) (sym sees.blocks_are))
      ∙ ap (λ w. is_set (word_for bit w) i) (get_or-map (words_at planes) (map (block_in u) in_chunks) index (record { 0 = 0 }) no_words within)
      ∙ bits_are_literals u planes (get_or (map (block_in u) in_chunks) index (record { 0 = 0 })) bit i is of
      (subst (λ (b : Block). b.0 < blocks_in u) (sym block) (block-within u at.sig at.chunk inside.1 inside.0)) few

  pub forced-seen : (blocks : List Block) → blocks ≡ blocks_from u task.sig task.chunk → length out ≡ length blocks → IsForcedExactly u (task_in u task) blocks view out → HaveNoLaterBit u blocks out
      → AreForced u planes task in_chunks out
  forced-seen blocks same size exact later = record {
    problem = is;
    inside = sees.inside;
    has_cells = λ c of. subst (λ bs. Contains bs (block_of u c)) (blocks-at u task.sig task.chunk is_task.early ∙ sym sees.blocks_are) (have_its_cells u (task_in u task) c is of);
    out_size = size ∙ ap length (same ∙ sym sees.blocks_are) ∙ length-map in_chunks (block_in u);
    exact = by-view (map (block_in u) in_chunks) (sees.blocks_are ∙ sym (blocks-at u task.sig task.chunk is_task.early))
        (ap length (sees.view_is ∙ ap (map (words_at planes)) (sym sees.blocks_are)) ∙ length-map (map (block_in u) in_chunks) (words_at planes)) viewed
        (subst (λ bs. IsForcedExactly u (task_in u task) bs view out) (same ∙ sym sees.blocks_are) exact);
    later = subst (λ bs. HaveNoLaterBit u bs out) (same ∙ sym sees.blocks_are) later;
  }

-- a task that waits waits on where all others do
pub still-waits : (u : Unrolling) (q r : Worklist) (at : InChunk) → at.chunk < chunks_in u → ((t : Task) → TaskWaits u q t → TaskWaits u r t) → Waits q.waiting at.sig at.chunk → Waits r.waiting at.sig at.chunk
still-waits u q r at early kept h =
    subst (λ s. Waits r.waiting s at.chunk) (block-sig u at.sig at.chunk early)
    (subst (λ c. Waits r.waiting (target_of u (task_in u at)) c) (block-chunk u at.sig at.chunk early)
    (kept (task_in u at)
    (subst (λ s. Waits q.waiting s (chunk_of u (task_in u at))) (sym (block-sig u at.sig at.chunk early)) (subst (λ c. Waits q.waiting at.sig c) (sym (block-chunk u at.sig at.chunk early)) h))))

-- the tasks that are left after one was taken
pub same-tasks : (u : Unrolling) (q left : Worklist) → IsWorklistOf u q → left.records.now ≡ q.records.now → left.waiting.signals ≡ q.waiting.signals → left.waiting.chunks ≡ q.waiting.chunks
    → ((s : Sig) (c : ℕ) → Waits left.waiting s c → Waits q.waiting s c) → IsWorklistOf u left
same-tasks u q left are records signals chunks only = record { records = records ∙ are.records; signals = signals ∙ are.signals; chunks = chunks ∙ are.chunks; tasks = λ s c h. are.tasks s c (only s c h) }

-- nothing was done yet
pub between-none : (u : Unrolling) (planes : PlaneSet) (q : Worklist) → IsOf u planes → IsWorklistOf u q → IsSettled u planes q → Between u planes planes q
between-none u planes q of are settled = record {
  of = of;
  worklist = are;
  settled = settled;
  kept = λ l h. h;
  mark = refl;
  in_closure = has_base (unrolled u) (lits u planes);
  no_more = omega arith;
}

-- A task had its turn. What waits after it waits on, or is done.
pub between-turn : (u : Unrolling) (x y z : PlaneSet) (q after left : Worklist) (t : Task) → Between u x y q → Wakes u y z q after → missing_of u z ≤ missing_of u y → Turns u t y z
    → IsWorklistOf u left → ((r : Task) → TaskWaits u after r → TaskWaits u left r ⊎ IsDone u r (has u z)) → Between u x z left
between-turn u x y z q after left t before wakes no_more turn are waits_on = record {
  of = wakes.of;
  worklist = are;
  settled = λ r is. settled r is;
  kept = λ l h. has-kept u y z wakes.bits l (before.kept l h);
  mark = wakes.mark ∙ before.mark;
  in_closure = λ l h. elim (turn.only l h) [
    | inl old ↦ before.in_closure l old
    | inr f ↦ forced_between (unrolled u) (lits u x) (lits u y) before.kept before.in_closure l (f.place, f.forces)
  ];
  no_more = omega (arith, no_more, before.no_more);
}
  where
    settled : (r : Task) → IsTask u r → TaskWaits u left r ⊎ IsDone u r (has u z)
    settled r is =
        elim (wakes.woken r) [
          | inl waits ↦ waits_on r waits
          | inr same ↦ elim (before.settled r is) [
            | inl waited ↦ waits_on r (wakes.kept r waited)
            | inr was_done ↦ inr (λ l f. has-kept u y z wakes.bits l (was_done l (forced_by_cells u r (has u z) (has u y) (λ c bit of h. sym (same c bit of) ∙ h) l f)))
          ]
        ]

-- what waits where the task was taken if it was done
pub left-done : (u : Unrolling) (z : PlaneSet) (after left : Worklist) (s : Sig) (chunk : ℕ) (again : Bool)
    → ((r : Sig) (c : ℕ) → Waits after.waiting r c → Waits left.waiting r c ⊎ ((again ≡ false) × (r ≡ s) × (c ≡ chunk)))
    → (again ≡ false → IsDone u (task_at u s chunk) (has u z)) → (t : Task) → TaskWaits u after t → TaskWaits u left t ⊎ IsDone u t (has u z)
left-done u z after left s chunk again kept done t waits =
    elim (kept (target_of u t) (chunk_of u t) waits) [
      | inl still ↦ inl still
      | inr (no_more, of, in_chunk) ↦
          let one : task_at u s chunk ≡ t = ap (λ r. task_at u r chunk) (sym of) ∙ ap (task_at u (target_of u t)) (sym in_chunk) ∙ task-itself u t in
          inr (subst (λ k. IsDone u k (has u z)) one (done no_more))
    ]

-- some turns after others
pub between-then : (u : Unrolling) (x y z : PlaneSet) (q r : Worklist) → Between u x y q → Between u y z r → Between u x z r
between-then u x y z q r first second = record {
  of = second.of;
  worklist = second.worklist;
  settled = second.settled;
  kept = λ l h. second.kept l (first.kept l h);
  mark = second.mark ∙ first.mark;
  in_closure = λ l h. (same_closure (unrolled u) (lits u x) (lits u y) first.kept first.in_closure).0 l (second.in_closure l h);
  no_more = omega (arith, first.no_more, second.no_more);
}

-- where no task waits, nothing more is forced
pub all-done : (u : Unrolling) (planes : PlaneSet) (q : Worklist) → IsSettled u planes q → HasNone q → IsClosed (unrolled u) (lits u planes)
all-done u planes q settled none =
    (closed_where_done u (has u planes)).1 (λ t is. elim (settled t is) [
      | inl waits ↦ absurd (none (target_of u t) (chunk_of u t) waits)
      | inr done ↦ done
    ])

pub closure-is : (u : Unrolling) (x y : PlaneSet) (q : Worklist) → Between u x y q → IsClosed (unrolled u) (lits u y) → SameLits (lits u y) (Closure (unrolled u) (lits u x))
closure-is u x y q between closed = closed_between (unrolled u) (lits u x) (lits u y) between.kept between.in_closure closed

-- what was forced is added, where its words are joined into the blocks
pub forced-added : (u : Unrolling) (task : InChunk) (seen old new : PlaneSet) (in_chunks : List InChunk) (out : List PinWord)
    → AreForced u seen task in_chunks out → JoinsFirst (map (block_in u) in_chunks) out (length in_chunks) old new → AddsForced u (task_in u task) seen old new
forced-added u task seen old new in_chunks out are joins =
    adds-forced u (task_in u task) seen old new (map (block_in u) in_chunks) out are.has_cells are.exact
    (subst (λ n. JoinsFirst (map (block_in u) in_chunks) out n old new) (sym (length-map in_chunks (block_in u))) joins)
