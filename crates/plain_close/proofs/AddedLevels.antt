-- What is listed for all chunks, added chunk by chunk.
use Rattle.std.proofs.Common.{ℕ, suc, ◌≡◌, ◌≢◌, ◌<◌, ◌≤◌, ◌+◌, ◌⊎◌, ◌↔◌, ◌/◌, ◌||◌, ◌∷◌, [], Bool, true, false, List, arith, inl, inr, refl, sym, ap, subst, ◌∙◌}
use Rattle.std.specs.List.{Contains}
use Rattle.std.proofs.lemmas.Bool.{cases_Bool, cases_lt, or_parts, true≢false}
use Rattle.sr_model.specs.declared.cells.Cell.{Cell}
use Rattle.sr_model.specs.declared.cells.Lit.{Lit}
use Rattle.sr_model.specs.declared.cells.Place.{Place}
use Rattle.sr_model.specs.Closure.{HasBoth, lit}
use Rattle.sr_model.specs.Limits.{max_gate_signals}
use Rattle.sr_model.specs.Room.{WithRoom}
use Rattle.sr_model.proofs.lemmas.Members.{Contains-here}
use Rattle.unroll.specs.declared.problem.Task.{Task}
use Rattle.unroll.specs.Problem.{Unrolling, chunks_in}
use Rattle.unroll.specs.Tasks.{IsCellOf, chunk_of, task_at}
use Rattle.unroll.proofs.lemmas.Laws.{block-chunk, cycle-chunk, role}
use Rattle.unroll.proofs.lemmas.Tasks.{cell-in_time}
use Rattle.gate_rules.specs.Forced.{ForcedIn}
use Rattle.gate_rules.proofs.lemmas.Laws.{forced_by_cells, forced_on_cells}
use Rattle.known_planes.specs.Counts.{literal_count}
use Rattle.known_planes.specs.Planes.{PlaneSet, IsOf, has, lits}
use Rattle.plain_close.specs.declared.changes.Added.{Added}
use Rattle.plain_close.specs.declared.changes.Change.{Change}
use Rattle.plain_close.specs.declared.log.Level.{Level}
use Rattle.plain_close.specs.declared.many_blocks.Buffers.{Buffers}
use Rattle.plain_close.specs.declared.log.Step.{Step}
use Rattle.plain_close.specs.declared.worklist.Worklist.{Worklist}
use Rattle.plain_close.specs.Changes.{AddsChanges, HasChange, IsChange, IsListed, IsOwnChange, changes_in}
use Rattle.plain_close.specs.Levels.{AddsFirst, AddsListed, AreListed, AreStepsIn, GoesToNext, IsLevel, Lists, LogsListed}
use Rattle.plain_close.specs.Steps.{IsForcedAt}
use Rattle.plain_close.specs.Wavefront.{level_of}
use Rattle.plain_close.specs.Worklist.{IsWorklistOf}
use Rattle.plain_close.proofs.ListedLevels.{due-listed, listed-due}
use Rattle.plain_close.proofs.LoggedLevels.{next-steps}
use Rattle.plain_close.proofs.Stepping.{forced-role, forces-along, role-chunk}
use Rattle.plain_close.proofs.Turning.{both-ways}

-- a task's cells are not in the chunks before its own
late-cell : (u : Unrolling) (t : Task) (c : Cell) → IsCellOf u t c → chunk_of u t ≤ c.cycle / 64
late-cell u t c of =
    elim (role-chunk u of.place c (role u of.place of.instance c of.stands of.has_cell)) [
      | inl same ↦ omega (arith, same, of.belongs.1)
      | inr next ↦ omega (arith, next, of.belongs.1)
    ]

-- a change is its task's own by another set, too, which has the same literals of the task's cells
own-alike : (u : Unrolling) (a b : Lit → Bool) (chunk : ℕ) (change : Change) → ((c : Cell) (bit : Bool) → IsCellOf u (task_at u change.cause chunk) c → b (lit c bit) ≡ a (lit c bit))
    → IsOwnChange u a chunk change → IsOwnChange u b chunk change
own-alike u a b chunk change same own = record {
  task = own.task;
  forced = λ bit i few set. there (own.forced bit i few set);
  calm = λ more cells l f.
      let on_cells = forced_on_cells u t more l f in
      elim (own.calm more (λ c bit of h. elim (cells c bit of h) [ inl known ↦ inl (sym (same c bit of) ∙ known) | inr forced ↦ inr (back forced) ]) l f) [
        | inl known ↦ inl (same l.cell l.bit on_cells.0 ∙ known)
        | inr forced ↦ inr (there forced)
      ];
}
  where
    t : Task
    t = task_at u change.cause chunk

    there : {l : Lit} → ForcedIn u t a l → ForcedIn u t b l
    there {l} f = forced_by_cells u t a b (λ c bit of h. same c bit of ∙ h) l f

    back : {l : Lit} → ForcedIn u t b l → ForcedIn u t a l
    back {l} f = forced_by_cells u t b a (λ c bit of h. sym (same c bit of) ∙ h) l f

module _ (u : Unrolling) (old : PlaneSet) (lists : List (WithRoom Change)) (are : AreListed u old lists) where
  -- nothing yet
  pub adds-nothing : (q : Worklist) → IsOf u old → IsWorklistOf u q → AddsFirst u lists 0 (record { some = false; clash = false }) old old q
  adds-nothing q of worklist = record {
    of = of;
    worklist = worklist;
    bits = λ l h. h;
    joined = λ l early below. absurd (omega (arith, below));
    only = λ l h. inl h;
    settled = λ t task. inr (λ l f. elim (are.all t task l f) [ inl known ↦ inl known | inr listed ↦ inr listed.0 ]);
    same = λ _. refl;
    more = λ any. absurd (true≢false (sym any));
    clash = λ _ c both. both;
  }

  module _ (n : ℕ) (earlier : Added) (mid : PlaneSet) (before : Worklist) (first : AddsFirst u lists n earlier old mid before) where
    -- the chunks from this one on are as before
    unchanged : (l : Lit) → n ≤ l.cell.cycle / 64 → has u mid l ≡ has u old l
    unchanged l late =
        both-ways (has u mid l) (has u old l) (λ h. elim (first.only l h) [ inl was ↦ was | inr (below, listed) ↦ absurd (omega (arith, late, below)) ]) (first.bits l)

    -- the changes of the chunk may be added
    pub may-add_next : (change : Change) → Contains (changes_in lists n) change → IsChange u n change × (change.again ≡ false → IsOwnChange u (has u mid) n change)
    may-add_next change h =
        let found = (are.forced n change h).1 in (
          found.is,
          λ once. own-alike u (has u old) (has u mid) n change
              (λ c bit of. unchanged (lit c bit) (subst (λ k. k ≤ c.cycle / 64) (block-chunk u change.cause n found.is.inside.1) (late-cell u (task_at u change.cause n) c of)))
              (subst (λ k. IsOwnChange u (has u old) k change) (sym (found.own once).0) (found.own once).1),
        )

    -- those of one chunk more
    pub adds-chunk : (added all : Added) (new : PlaneSet) (after : Worklist) → AddsChanges u n (changes_in lists n) added mid new before after → all.some ≡ (earlier.some || added.some) → all.clash ≡ (earlier.clash || added.clash)
        → AddsFirst u lists (n + 1) all old new after
    adds-chunk added all new after adds some clash = record {
      of = adds.of;
      worklist = adds.worklist;
      bits = λ l h. adds.bits l (first.bits l h);
      joined = λ l early below listed. elim (cases_lt (l.cell.cycle / 64) n) [
        | inl less ↦ adds.bits l (first.joined l early less listed)
        | inr more ↦ let same : l.cell.cycle / 64 ≡ n = omega (arith, below, more) in adds.joined l early same (subst (λ k. HasChange (changes_in lists k) l) same listed)
      ];
      only = λ l h. elim (adds.only l h) [
        | inl was ↦ elim (first.only l was) [ inl known ↦ inl known | inr (below, listed) ↦ inr (omega (arith, below), listed) ]
        | inr (same, new) ↦ inr (omega (arith, same), subst (λ k. HasChange (changes_in lists k) l) (sym same) new)
      ];
      settled = λ t task. elim (first.settled t task) [
        | inl waits ↦ inl (adds.kept t waits)
        | inr done ↦ elim (adds.quiet t) [
          | inl woken ↦ inl woken
          | inr (inl same) ↦ inr (λ l f. still l (done l (forced_by_cells u t (has u new) (has u mid) (λ c bit of h. sym (same c bit of) ∙ h) l f)))
          | inr (inr (in_chunk, calm, cells)) ↦ inr (λ l f. elim (calm (has u new) cells l f) [ inl known ↦ inl (adds.bits l known) | inr forced ↦ still l (done l forced) ])
        ]
      ];
      same = λ none. let parts = or_parts earlier.some added.some (sym some ∙ none) in adds.same parts.1 ∙ first.same parts.0;
      more = λ any. elim (cases_Bool added.some) [
        | inl now ↦ elim (cases_Bool earlier.some) [
          | inl already ↦ let less : literal_count u old < literal_count u mid = first.more already in let more : literal_count u mid < literal_count u new = adds.more now in omega (arith, less, more)
          | inr nothing ↦ subst (λ x. literal_count u x < literal_count u new) (first.same nothing) (adds.more now)
        ]
        | inr none ↦ elim (cases_Bool earlier.some) [
          | inl already ↦ subst (λ x. literal_count u old < literal_count u x) (sym (adds.same none)) (first.more already)
          | inr nothing ↦ absurd (true≢false (sym any ∙ some ∙ ap (λ b. b || added.some) nothing ∙ none))
        ]
      ];
      clash = λ none c both. let parts = or_parts earlier.clash added.clash (sym clash ∙ none) in first.clash parts.0 c (adds.clash parts.1 c both);
    }
      where
        still : (l : Lit) → (has u mid l ≡ true) ⊎ IsListed lists l → (has u new l ≡ true) ⊎ IsListed lists l
        still l h = elim h [ inl known ↦ inl (adds.bits l known) | inr listed ↦ inr listed ]

-- a level goes on to the next one, once all that is listed was logged and added
module _ (u : Unrolling) (base : PlaneSet) (i : ℕ) (first mid last : Level) (added : Added) (is : IsLevel u base i first) (lists : Lists u first mid) (adds : AddsListed u mid last added) where
  abbrev listed_ones : List (WithRoom Change)
  listed_ones = mid.changes.items

  level-of : (l : Lit) → (has u mid.planes l ≡ true) ↔ level_of u base i l
  level-of l = subst (λ (x : PlaneSet). (has u x l ≡ true) ↔ level_of u base i l) (sym lists.planes) (is.literals l)

  -- what is forced is known then
  forced-known : (q : Place) (l : Lit) → IsForcedAt u mid.planes q l → has u last.planes l ≡ true
  forced-known q l f =
      let early = cell-in_time u q l.cell (forced-role u (lits u mid.planes) q l f) in
      elim (cases_Bool (has u mid.planes l)) [
        | inl known ↦ adds.adds.bits l known
        | inr unknown ↦
            let (change, there, by, of) = due-listed u mid.planes listed_ones lists.listed q l f unknown in
            adds.adds.joined l early (cycle-chunk u l.cell.cycle early) (record { change = change; listed = there; signal = of.signal; set = of.set })
      ]

  next-literals : (l : Lit) → (has u last.planes l ≡ true) ↔ level_of u base (suc i) l
  next-literals l = (
    λ h. elim (adds.adds.only l h) [
      | inl known ↦ inl ((level-of l).0 known)
      | inr (below, new) ↦
          let (q, target, f) = (listed-due u mid.planes listed_ones lists.listed (l.cell.cycle / 64) new.change new.listed).forced l (record { signal = new.signal; in_chunk = refl; set = new.set }) in
          inr (q, forces-along u (lits u mid.planes) (level_of u base i) q l (λ c bit r g. (level-of (lit c bit)).0 g) f)
    ],
    λ h. elim h [
      | inl known ↦ adds.adds.bits l ((level-of l).1 known)
      | inr (q, f) ↦ forced-known q l (forces-along u (level_of u base i) (lits u mid.planes) q l (λ c bit r g. (level-of (lit c bit)).1 g) f)
    ],
  )

  next-level : IsLevel u base (suc i) last
  next-level = record {
    problem = lists.problem;
    of = adds.adds.of;
    worklist = adds.adds.worklist;
    room = subst (λ (x : Buffers). max_gate_signals ≤ x.blocks.room) (sym adds.room) lists.room;
    size = adds.size ∙ lists.size;
    none = adds.none;
    literals = next-literals;
    settled = λ t task. elim (adds.adds.settled t task) [
      | inl waits ↦ inl waits
      | inr done ↦ inr (λ l f. elim (done l f) [
        | inl known ↦ known
        | inr listed ↦ let early = (forced_on_cells u t (has u last.planes) l f).1 in adds.adds.joined l early (cycle-chunk u l.cell.cycle early) listed
      ])
    ];
  }

  -- where there is a step a literal is new
  grows : (now : List Step) → AreStepsIn u mid.planes (λ chunk. chunk < chunks_in u) now → now ≢ [] → literal_count u mid.planes < literal_count u last.planes
  grows [] are some = absurd (some refl)
  grows (step ∷ steps) are some =
      elim (cases_Bool added.some) [
        | inl any ↦ adds.adds.more any
        | inr none ↦
            let h = Contains-here step steps in
            absurd (true≢false (sym (forced-known step.place step.lit (are.forced step h)) ∙ ap (λ (x : PlaneSet). has u x step.lit) (adds.adds.same none) ∙ are.unknown step h))
      ]

  pub goes-to_next : (before after : List Step) → LogsListed u mid.planes (chunks_in u) before after → GoesToNext u base i added first last before after
  goes-to_next before after (now, logged, steps) = record {
    level = next-level;
    now = now;
    logged = logged;
    steps = next-steps u base i mid.planes level-of now steps;
    more = λ some. subst (λ (x : PlaneSet). literal_count u x < literal_count u last.planes) lists.planes (grows now steps some);
    clash = λ none c both. subst (λ (x : PlaneSet). HasBoth (lits u x) c) lists.planes (adds.adds.clash none c both);
  }
