-- Tasks that are added to those that wait.
use Rattle.std.proofs.Common.{ℕ, ◌≡◌, ◌≢◌, ◌<◌, ◌-◌, ◌⊎◌, ◌∷◌, [], ◌&&◌, Bool, true, false, ltb, List, length, get_or, take, ◌+◌, arith, inl, inr, refl, sym, ap, subst, ◌∙◌}
use Rattle.std.specs.List.{All, Contains}
use Rattle.std.proofs.lemmas.List.{take_more}
use Rattle.std.proofs.lemmas.List.Elements.{All-contains, All-weaker, Contains-get_or, Contains-push_cases}
use Rattle.sr_model.specs.declared.cells.Sig.{Sig}
use Rattle.sr_model.proofs.lemmas.Members.{not_in_nil, Contains-cases, Contains-here}
use Rattle.sr_model.specs.Netlist.{Driver}
use Rattle.netlist.specs.Wiring.{driver_at, is_driven, is_flip_flop}
use Rattle.std.proofs.lemmas.Bool.{and_parts, ltb-true}
use Rattle.unroll.specs.Bits.{is_set}
use Rattle.unroll.specs.declared.problem.InChunk.{InChunk}
use Rattle.unroll.specs.declared.problem.Task.{Task}
use Rattle.unroll.specs.Laws.{IsWoken}
use Rattle.unroll.specs.Problem.{Unrolling, IsInside, IsProblem, signals_in, chunks_in}
use Rattle.unroll.specs.Records.{wakes_before, woken_signals}
use Rattle.unroll.specs.Tasks.{IsTask, IsTaskAt, task_at, target_of, chunk_of, constant_tasks}
use Rattle.unroll.specs.Waiting.{Waiting, Waits, Adds, AddsBut}
use Rattle.unroll.proofs.lemmas.Laws.{block-sig, block-chunk, task-itself, force_from_nothing, woken_are_targets}
use Rattle.plain_close.specs.declared.worklist.Worklist.{Worklist}
use Rattle.plain_close.specs.Worklist.{AddsBefore, HasNone, IsWorklistOf, Pushed, TaskWaits}

-- what waits by signal and chunk waits by its number
pub task-waits : (u : Unrolling) (q : Worklist) (target : Sig) (chunk : ℕ) → chunk < chunks_in u → Waits q.waiting target chunk → TaskWaits u q (task_at u target chunk)
task-waits u q target chunk early h =
    subst (λ s. Waits q.waiting s (chunk_of u (task_at u target chunk))) (sym (block-sig u target chunk early)) (subst (λ c. Waits q.waiting target c) (sym (block-chunk u target chunk early)) h)

-- a work list on which nothing waits
pub none-wait : (u : Unrolling) (q : Worklist) → q.records.now ≡ u.circuit.drivers → q.waiting.signals ≡ signals_in u → q.waiting.chunks ≡ chunks_in u → HasNone q → IsWorklistOf u q
none-wait u q records signals chunks none = record { records = records; signals = signals; chunks = chunks; tasks = λ s c h. absurd (none s c h) }

-- so far no tasks, or no more
pub pushed-none : (u : Unrolling) (IsPushed : Task → Type 0) (q : Worklist) → IsWorklistOf u q → ((t : Task) → IsPushed t → ⊥) → Pushed u IsPushed q q
pushed-none u IsPushed q are none = record { of = are; kept = λ t h. h; pushed = λ t h. absurd (none t h) }

-- other words for the same tasks
pub pushed-same : (u : Unrolling) (Some Others : Task → Type 0) (a b : Worklist) → ((t : Task) → Others t → Some t) → Pushed u Some a b → Pushed u Others a b
pushed-same u Some Others a b back p = record { of = p.of; kept = p.kept; pushed = λ t h. p.pushed t (back t h) }

-- the task of the chunk before was added, or not
pub adds-before : (at : InChunk) (before : Bool) (old mid : Waiting) → before ≡ true → Adds (at.sig ∷ []) (at.chunk - 1) old mid → AddsBefore at before old mid
adds-before at before old mid so adds = record {
  signals = adds.signals;
  chunks = adds.chunks;
  kept = adds.kept;
  only = λ s c h. elim (adds.only s c h) [
    | inl old ↦ inl old
    | inr (listed, in_chunk) ↦ elim (Contains-cases at.sig [] s listed) [
      | inl e ↦ inr (so, sym e, in_chunk)
      | inr none ↦ absurd (not_in_nil s none)
    ]
  ];
  has = λ _. adds.wait at.sig (Contains-here at.sig []);
}

pub adds-not : (at : InChunk) (before : Bool) (old : Waiting) → before ≡ false → AddsBefore at before old old
adds-not at before old never = record { signals = refl; chunks = refl; kept = λ s c h. h; only = λ s c h. inl h; has = λ yes. cc }

-- those of the tasks that fresh bits wake were added that are not of the block's chunk, or are chosen
pub woken-chosen : (u : Unrolling) (is : IsProblem u) (at : InChunk) (inside : IsInside u at) (fresh : ℕ) (old new : Worklist) (mid : Waiting) (before : Bool) (targets : List Sig) (Chosen : Sig → Type 0)
    → IsWorklistOf u old → new.records.now ≡ old.records.now → before ≡ wakes_before old.records.now at.sig at.chunk fresh → targets ≡ woken_signals old.records.now at.sig fresh → AddsBefore at before old.waiting mid
    → new.waiting.signals ≡ mid.signals → new.waiting.chunks ≡ mid.chunks → ((s : Sig) → Contains targets s → Chosen s → Waits new.waiting s at.chunk) → ((s : Sig) (c : ℕ) → Waits mid s c → Waits new.waiting s c)
    → ((s : Sig) (c : ℕ) → Waits new.waiting s c → Waits mid s c ⊎ (Contains targets s × (c ≡ at.chunk)))
    → Pushed u (λ t. IsWoken u at fresh t × ((r : Sig) → t ≡ task_at u r at.chunk → Chosen r)) old new
woken-chosen u is at inside fresh old new mid before targets Chosen are records before_is targets_are first signals chunks wait kept only = record {
  of = record {
    records = records ∙ are.records;
    signals = signals ∙ first.signals ∙ are.signals;
    chunks = chunks ∙ first.chunks ∙ are.chunks;
    tasks = λ s c h. elim (only s c h) [
      | inl then ↦ elim (first.only s c then) [
        | inl was ↦ are.tasks s c was
        | inr (so, sig, chunk) ↦ subst (IsTaskAt u) (same s at.sig c (at.chunk - 1) sig chunk) (woken.0 (woken_before so))
      ]
      | inr (listed, chunk) ↦
          subst (IsTaskAt u) (same s s c at.chunk refl chunk) (All-contains (λ r. IsTaskAt u (record { sig = r; chunk = at.chunk })) (woken_signals u.circuit.drivers at.sig fresh) s woken.1 (subst (λ xs. Contains xs s) here listed))
    ];
  };
  kept = λ t h. kept (target_of u t) (chunk_of u t) (first.kept (target_of u t) (chunk_of u t) h);
  pushed = λ t h. elim h.0 [
    | inl (so, e) ↦
        let there : Waits mid at.sig (at.chunk - 1) = first.has (before_is ∙ ap (λ ds. wakes_before ds at.sig at.chunk fresh) are.records ∙ so) in
        subst (TaskWaits u new) (sym e) (task-waits u new at.sig (at.chunk - 1) (omega (arith, inside.1)) (kept at.sig (at.chunk - 1) there))
    | inr (r, listed, e) ↦ subst (TaskWaits u new) (sym e) (task-waits u new r at.chunk inside.1 (wait r (subst (λ xs. Contains xs r) (sym here) listed) (h.1 r e)))
  ];
}
  where
    woken : (wakes_before u.circuit.drivers at.sig at.chunk fresh ≡ true → IsTaskAt u (record { sig = at.sig; chunk = at.chunk - 1 }))
        × All (λ r. IsTaskAt u (record { sig = r; chunk = at.chunk })) (woken_signals u.circuit.drivers at.sig fresh)
    woken = woken_are_targets u at fresh is inside

    woken_before : before ≡ true → wakes_before u.circuit.drivers at.sig at.chunk fresh ≡ true
    woken_before so = sym (before_is ∙ ap (λ ds. wakes_before ds at.sig at.chunk fresh) are.records) ∙ so

    here : targets ≡ woken_signals u.circuit.drivers at.sig fresh
    here = targets_are ∙ ap (λ ds. woken_signals ds at.sig fresh) are.records

    place : Sig → ℕ → InChunk
    place s c = record { sig = s; chunk = c }

    same : (s r : Sig) (c k : ℕ) → s ≡ r → c ≡ k → place r k ≡ place s c
    same s r c k sig chunk = ap (λ x. place x k) (sym sig) ∙ ap (place s) (sym chunk)

-- all of them were added
pub woken-pushed : (u : Unrolling) (is : IsProblem u) (at : InChunk) (inside : IsInside u at) (fresh : ℕ) (old new : Worklist) (mid : Waiting) (before : Bool) (targets : List Sig) → IsWorklistOf u old
    → new.records.now ≡ old.records.now → before ≡ wakes_before old.records.now at.sig at.chunk fresh → targets ≡ woken_signals old.records.now at.sig fresh → AddsBefore at before old.waiting mid
    → Adds targets at.chunk mid new.waiting → Pushed u (IsWoken u at fresh) old new
woken-pushed u is at inside fresh old new mid before targets are records before_is targets_are first second =
    pushed-same u (λ t. IsWoken u at fresh t × ((r : Sig) → t ≡ task_at u r at.chunk → r ≡ r)) (IsWoken u at fresh) old new (λ t h. (h, λ r e. refl))
    (woken-chosen u is at inside fresh old new mid before targets (λ s. s ≡ s) are records before_is targets_are first second.signals second.chunks (λ s listed any. second.wait s listed) second.kept second.only)

-- all but one of the block's chunk
pub woken-pushed_but : (u : Unrolling) (is : IsProblem u) (at : InChunk) (inside : IsInside u at) (fresh : ℕ) (but : Sig) (old new : Worklist) (mid : Waiting) (before : Bool) (targets : List Sig) → IsWorklistOf u old
    → new.records.now ≡ old.records.now → before ≡ wakes_before old.records.now at.sig at.chunk fresh → targets ≡ woken_signals old.records.now at.sig fresh → AddsBefore at before old.waiting mid
    → AddsBut targets but at.chunk mid new.waiting → Pushed u (λ t. IsWoken u at fresh t × (t ≢ task_at u but at.chunk)) old new
woken-pushed_but u is at inside fresh but old new mid before targets are records before_is targets_are first second =
    pushed-same u (λ t. IsWoken u at fresh t × ((r : Sig) → t ≡ task_at u r at.chunk → r ≢ but)) (λ t. IsWoken u at fresh t × (t ≢ task_at u but at.chunk)) old new
    (λ t h. (h.0, λ r e one. h.1 (e ∙ ap (λ x. task_at u x at.chunk) one)))
    (woken-chosen u is at inside fresh old new mid before targets (λ s. s ≢ but) are records before_is targets_are first second.signals second.chunks second.wait second.kept
    (λ s c h. elim (second.only s c h) [ inl was ↦ inl was | inr (listed, other, chunk) ↦ inr (listed, chunk) ]))

-- there is a chunk before
pub before-late : (drivers : List Driver) (s : Sig) (chunk fresh : ℕ) (before : Bool) → before ≡ wakes_before drivers s chunk fresh → before ≡ true → 0 < chunk
before-late drivers s chunk fresh before is so =
    ltb-true 0 chunk
    (and_parts (ltb 0 chunk) (is_set fresh 0)
    (and_parts (is_flip_flop (driver_at drivers s.0)) (ltb 0 chunk && is_set fresh 0) (sym is ∙ so)).1).0

-- they are there to be added
pub woken-within : (u : Unrolling) → IsProblem u → (at : InChunk) → IsInside u at → (fresh : ℕ) (old : Worklist) → IsWorklistOf u old → (targets : List Sig) → targets ≡ woken_signals old.records.now at.sig fresh
    → (n : ℕ) → n ≡ old.waiting.signals → All (λ (s : Sig). s.0 < n) targets
woken-within u is at inside fresh old are targets targets_are n n_is =
    subst (All (λ (s : Sig). s.0 < n)) (sym (targets_are ∙ ap (λ ds. woken_signals ds at.sig fresh) are.records))
    (All-weaker (λ r. IsTaskAt u (record { sig = r; chunk = at.chunk })) (λ (s : Sig). s.0 < n) (λ r h. subst (λ k. r.0 < k) (sym (n_is ∙ are.signals)) h.signal) (woken_signals u.circuit.drivers at.sig fresh)
    (woken_are_targets u at fresh is inside).1)

-- constant tasks are tasks
pub constant-is : (u : Unrolling) → IsProblem u → (ts : List Task) → ts ≡ constant_tasks u → (i : ℕ) (d : Task) → i < length ts → IsTask u (get_or ts i d)
constant-is u is ts same i d h =
    let listed : Contains (constant_tasks u) (get_or ts i d) = subst (λ xs. Contains xs (get_or ts i d)) same (Contains-get_or ts i d h) in
    (((force_from_nothing u is).1 (get_or ts i d)).0 listed).0

-- one of them more
pub constants-more : (u : Unrolling) (ts : List Task) (i : ℕ) (d : Task) (a b c : Worklist) → i < length ts → IsTask u (get_or ts i d) → Pushed u (Contains (take i ts)) a b
    → (at : InChunk) → IsInside u at → at.sig ≡ target_of u (get_or ts i d) → at.chunk ≡ chunk_of u (get_or ts i d) → c.records.now ≡ b.records.now → Adds (at.sig ∷ []) at.chunk b.waiting c.waiting
    → Pushed u (Contains (take (i + 1) ts)) a c
constants-more u ts i d a b c h task before at inside sig chunk records adds = record {
  of = record {
    records = records ∙ before.of.records;
    signals = adds.signals ∙ before.of.signals;
    chunks = adds.chunks ∙ before.of.chunks;
    tasks = λ s k w. elim (adds.only s k w) [
      | inl was ↦ before.of.tasks s k was
      | inr (listed, in_chunk) ↦ elim (Contains-cases at.sig [] s listed) [
        | inl e ↦ subst (IsTaskAt u) (ap (λ x. record { sig = x; chunk = at.chunk }) e ∙ ap (λ n. record { sig = s; chunk = n }) (sym in_chunk)) at_task
        | inr none ↦ absurd (not_in_nil s none)
      ]
    ];
  };
  kept = λ t w. adds.kept (target_of u t) (chunk_of u t) (before.kept t w);
  pushed = λ t listed. elim (Contains-push_cases (take i ts) (get_or ts i d) t (subst (λ xs. Contains xs t) (take_more ts i d h) listed)) [
    | inl earlier ↦ adds.kept (target_of u t) (chunk_of u t) (before.pushed t earlier)
    | inr e ↦ subst (TaskWaits u c) (one ∙ e) (task-waits u c at.sig at.chunk inside.1 (adds.wait at.sig (Contains-here at.sig [])))
  ];
}
  where
    one : task_at u at.sig at.chunk ≡ get_or ts i d
    one = ap (λ x. task_at u x at.chunk) sig ∙ ap (task_at u (target_of u (get_or ts i d))) chunk ∙ task-itself u (get_or ts i d)

    at_task : IsTaskAt u at
    at_task = record { signal = inside.0; early = inside.1; driven = ap (λ (s : Sig). is_driven (driver_at u.circuit.drivers s.0)) sig ∙ task.1 }
