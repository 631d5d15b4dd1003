-- A chunk that goes on to the next level.
use Rattle.std.proofs.Common.{ℕ, suc, ◌≡◌, ◌<◌, ◌+◌, ◌-◌, ◌/◌, ◌⊎◌, ◌↔◌, Bool, true, false, eqb, List, [], arith, inl, inr, refl, sym, ap, subst, ◌∙◌}
use Rattle.std.specs.List.{Contains}
use Rattle.std.proofs.lemmas.Bool.{cases_Bool, cases_eq, cond-true, cond-false, eq-eqb, eqb-true, true≢false}
use Rattle.std.proofs.lemmas.List.Elements.{All-contains}
use Rattle.sr_model.specs.declared.cells.Cell.{Cell}
use Rattle.sr_model.specs.declared.cells.Lit.{Lit}
use Rattle.sr_model.specs.declared.cells.Place.{Place}
use Rattle.sr_model.specs.Netlist.{cells_of}
use Rattle.sr_model.specs.Closure.{ForcesAt, LitSet, lit, passing}
use Rattle.sr_model.specs.Room.{WithRoom}
use Rattle.sr_model.proofs.lemmas.Members.{All-from_Contains, not_in_nil}
use Rattle.unroll.specs.declared.problem.Task.{Task}
use Rattle.unroll.specs.Problem.{Unrolling, block_at, bit_of, cell_of, chunks_in, unrolled}
use Rattle.unroll.specs.Tasks.{CellRole, IsTask, chunk_of, target_of, task_at, task_of}
use Rattle.unroll.proofs.lemmas.Laws.{bit-small, block-chunk, cell-itself, each_in_one_task, role}
use Rattle.unroll.proofs.lemmas.Tasks.{cell-chunk, cell-in_time, delay-cases, later-chunk}
use Rattle.gate_rules.specs.Forced.{ForcedIn}
use Rattle.gate_rules.proofs.lemmas.Laws.{forced_by_cells, forced_on_cells}
use Rattle.known_planes.specs.Planes.{PlaneSet, has}
use Rattle.plain_close.specs.declared.changes.Added.{Added}
use Rattle.plain_close.specs.declared.changes.Change.{Change}
use Rattle.plain_close.specs.declared.wavefront.Wavefront.{Wavefront}
use Rattle.plain_close.specs.declared.worklist.Worklist.{Worklist}
use Rattle.plain_close.specs.Worklist.{TaskWaits}
use Rattle.plain_close.specs.Changes.{AddsChanges, AreKept, ForcesChunk, HasChange, IsChange, IsListed, IsOwnChange, changes_in}
use Rattle.plain_close.specs.Wavefront.{IsWavefront, MayStep, level_of, with_step}
use Rattle.plain_close.proofs.Turning.{has-bit_of}
use Rattle.unroll.specs.Waiting.{Waits}

-- what is forced at a place by one set is by another one that has the same literals of the instance's cells
pub forces-along : (u : Unrolling) (few many : LitSet) (p : Place) (l : Lit) → ((c : Cell) (bit : Bool) → CellRole u p c → few (lit c bit) → many (lit c bit)) → ForcesAt (unrolled u) few p l → ForcesAt (unrolled u) many p l
forces-along u few many p l along f = record {
  instance = f.instance;
  stands = f.stands;
  forces = record {
    on_cells = f.forces.on_cells;
    part = f.forces.part;
    part_known = All-from_Contains many f.forces.part (λ x h.
        along x.cell x.bit (role u p f.instance x.cell f.stands (All-contains (λ (y : Lit). Contains (cells_of f.instance) y.cell) f.forces.part x f.forces.part_on_cells h))
        (All-contains few f.forces.part x f.forces.part_known h));
    part_on_cells = f.forces.part_on_cells;
    row = f.forces.row;
    is_row = f.forces.is_row;
    row_agrees = f.forces.row_agrees;
    forced = f.forces.forced;
  };
}

-- the cells of an instance are in its place's chunk or in the next one
pub role-chunk : (u : Unrolling) (p : Place) (c : Cell) → CellRole u p c → (c.cycle / 64 ≡ p.cycle / 64) ⊎ (c.cycle / 64 ≡ p.cycle / 64 + 1)
role-chunk u p c r =
    elim r.which [
      | inl e ↦ elim (delay-cases r.kind r.pins) [
        | inl (flip_flop, one) ↦
            let cycle : c.cycle ≡ p.cycle + 1 = ap (λ (x : Cell). x.cycle) e ∙ ap (λ n. p.cycle + n) one in
            elim (later-chunk p.cycle) [
              | inl same ↦ inl (ap (λ n. n / 64) cycle ∙ same)
              | inr next ↦ inr (ap (λ n. n / 64) cycle ∙ next)
            ]
        | inr (gate, none) ↦ inl (ap (λ (x : Cell). x.cycle / 64) e ∙ ap (λ n. (p.cycle + n) / 64) none ∙ ap (λ n. n / 64) (plus-zero p.cycle))
      ]
      | inr (pin, h, e) ↦ inl (ap (λ (x : Cell). x.cycle / 64) e)
    ]
  where
    plus-zero : (n : ℕ) → n + 0 ≡ n
    plus-zero n = omega arith

-- the role of a forced literal's cell
pub forced-role : (u : Unrolling) (known : LitSet) (p : Place) (l : Lit) → ForcesAt (unrolled u) known p l → CellRole u p l.cell
forced-role u known p l f = role u p f.instance l.cell f.stands f.forces.on_cells

-- what is listed stays so
pub listed-kept : (old new : List (WithRoom Change)) → AreKept old new → (l : Lit) → IsListed old l → IsListed new l
listed-kept old new kept l h = record { change = h.change; listed = kept (l.cell.cycle / 64) h.change h.listed; signal = h.signal; set = h.set }

-- the levels of the chunk that goes on, and of the others
pub step-here : (chunk at : ℕ) (levels : ℕ → ℕ) → at ≡ chunk → with_step chunk levels at ≡ levels at + 1
step-here chunk at levels e = cond-true (eqb at chunk) (levels at + 1) (levels at) (eq-eqb at chunk e)

pub step-other : (chunk at : ℕ) (levels : ℕ → ℕ) → (at ≡ chunk → ⊥) → with_step chunk levels at ≡ levels at
step-other chunk at levels other =
    elim (cases_Bool (eqb at chunk)) [
      | inl same ↦ absurd (other (eqb-true at chunk same))
      | inr apart ↦ cond-false (eqb at chunk) (levels at + 1) (levels at) apart
    ]

module _ (u : Unrolling) (base : PlaneSet) (levels : ℕ → ℕ) (chunk here : ℕ) (w : Wavefront) (is : IsWavefront u base levels w) (may : MayStep u levels chunk here) where
  cell-level : (p : Place) → p.cycle / 64 ≡ chunk → (c : Cell) → CellRole u p c → levels (c.cycle / 64) ≡ here
  cell-level p at c r =
      elim (role-chunk u p c r) [
        | inl same ↦ ap levels (same ∙ at) ∙ may.here
        | inr next ↦
            let e : c.cycle / 64 ≡ chunk + 1 = next ∙ ap (λ n. n + 1) at in
            ap levels e ∙ may.next (subst (λ n. n < chunks_in u) e (cell-chunk u p c r))
      ]

  to-level : (p : Place) → p.cycle / 64 ≡ chunk → (l : Lit) → ForcesAt (unrolled u) (passing (has u w.planes)) p l → ForcesAt (unrolled u) (level_of u base here) p l
  to-level p at l f =
      forces-along u (passing (has u w.planes)) (level_of u base here) p l (λ c bit r h. subst (λ n. level_of u base n (lit c bit)) (cell-level p at c r) ((is.literals (lit c bit)).0 h)) f

  from-level : (p : Place) → p.cycle / 64 ≡ chunk → (l : Lit) → ForcesAt (unrolled u) (level_of u base here) p l → ForcesAt (unrolled u) (passing (has u w.planes)) p l
  from-level p at l f =
      forces-along u (level_of u base here) (passing (has u w.planes)) p l (λ c bit r h. (is.literals (lit c bit)).1 (subst (λ n. level_of u base n (lit c bit)) (sym (cell-level p at c r)) h)) f

  one-more : suc here ≡ here + 1
  one-more = omega arith

  -- what a task of the chunk forces is in the next level of its cell's chunk
  forced-next : (t : Task) → chunk_of u t ≡ chunk → (l : Lit) → ForcedIn u t (has u w.planes) l → level_of u base (levels (l.cell.cycle / 64) + 1) l
  forced-next t at l f =
      let in_chunk : f.place.cycle / 64 ≡ chunk = sym f.belongs.1 ∙ at in
      subst (λ n. level_of u base (n + 1) l) (sym (cell-level f.place in_chunk l.cell (forced-role u (passing (has u w.planes)) f.place l f.forces)))
      (subst (λ n. level_of u base n l) one-more (inr (f.place, to-level f.place in_chunk l f.forces)))

  module _ (q : Worklist) (listed : List (WithRoom Change)) (forces : ForcesChunk u w.planes chunk w.worklist q w.changes.items listed) where
    -- what is listed then is in the next level
    sound-listed : (l : Lit) → l.cell.cycle < u.cycles → IsListed listed l → level_of u base (levels (l.cell.cycle / 64) + 1) l
    sound-listed l early h =
        elim (forces.only (l.cell.cycle / 64) h.change h.listed) [
          | inl old ↦ is.sound l early (record { change = h.change; listed = old; signal = h.signal; set = h.set })
          | inr new ↦
              let one : lit (cell_of u (block_at u h.change.sig (l.cell.cycle / 64)) (bit_of l.cell)) l.bit ≡ l =
              ap (λ s. lit (cell_of u (block_at u s (l.cell.cycle / 64)) (bit_of l.cell)) l.bit) h.signal ∙ ap (λ c. lit c l.bit) (cell-itself u l.cell early) in
              forced-next (task_at u h.change.cause chunk) (block-chunk u h.change.cause chunk new.task.early) l
              (subst (ForcedIn u (task_at u h.change.cause chunk) (has u w.planes)) one (new.forced l.bit (bit_of l.cell) (bit-small l.cell) h.set))
        ]

    -- each task waits on, or what it forces is known or listed
    settled-listed : (t : Task) → IsTask u t → TaskWaits u q t ⊎ ((l : Lit) → ForcedIn u t (has u w.planes) l → (has u w.planes l ≡ true) ⊎ IsListed listed l)
    settled-listed t task =
        elim (is.settled t task) [
          | inl waited ↦ elim (cases_eq (chunk_of u t) chunk) [
            | inl same ↦ inr (λ l f. elim (forces.all t task same waited l f) [ inl known ↦ inl known | inr new ↦ inr new.0 ])
            | inr other ↦ inl (forces.others t other waited)
          ]
          | inr done ↦ inr (λ l f. elim (done l f) [
            | inl known ↦ inl known
            | inr old ↦ inr (listed-kept w.changes.items listed forces.kept l old)
          ])
        ]

    -- those of the chunk do not wait
    forced-listed : (t : Task) → IsTask u t → chunk_of u t ≡ chunk → (l : Lit) → ForcedIn u t (has u w.planes) l → (has u w.planes l ≡ true) ⊎ IsListed listed l
    forced-listed t task at =
        elim (settled-listed t task) [
          | inl waits ↦ absurd (forces.none (target_of u t) (subst (λ n. Waits q.waiting (target_of u t) n) at waits))
          | inr done ↦ done
        ]

    forced-there : (p : Place) → p.cycle / 64 ≡ chunk → (l : Lit) → ForcesAt (unrolled u) (level_of u base here) p l → (has u w.planes l ≡ true) ⊎ IsListed listed l
    forced-there p at l f =
        let g = from-level p at l f in
        let one = each_in_one_task u p f.instance f.stands in
        forced-listed (task_of u p) one.0 (one.1.1 ∙ at) l (record { place = p; belongs = one.1; forces = g })

    -- all of the next level's literals in the chunk are known or listed
    all-next : (l : Lit) → l.cell.cycle / 64 ≡ chunk → level_of u base (here + 1) l → (has u w.planes l ≡ true) ⊎ (IsListed listed l × (l.cell.cycle < u.cycles))
    all-next l at h =
        elim (subst (λ n. level_of u base n l) (sym one-more) h) [
          | inl before ↦ inl ((is.literals l).1 (subst (λ n. level_of u base n l) (sym (ap levels at ∙ may.here)) before))
          | inr (p, f) ↦
              let r : CellRole u p l.cell = forced-role u (level_of u base here) p l f in
              let early : l.cell.cycle < u.cycles = cell-in_time u p l.cell r in
              elim (role-chunk u p l.cell r) [
                | inl same ↦ elim (forced-there p (sym same ∙ at) l f) [ inl known ↦ inl known | inr new ↦ inr (new, early) ]
                | inr next ↦
                    let later : p.cycle / 64 + 1 ≡ chunk = sym next ∙ at in
                    let ahead : levels (p.cycle / 64) ≡ levels (p.cycle / 64 + 1) + 1 = ap levels (before-one (p.cycle / 64) chunk later) ∙ may.before (above-zero (p.cycle / 64) chunk later) ∙ ap (λ n. n + 1) (sym (ap levels later ∙ may.here)) in
                    elim (is.ahead (p.cycle / 64) (subst (λ n. n < chunks_in u) (sym later) may.early) ahead p l refl next (subst (λ n. ForcesAt (unrolled u) (level_of u base n) p l) (sym (ap levels later ∙ may.here)) f)) [
                      | inl known ↦ inl known
                      | inr old ↦ inr (listed-kept w.changes.items listed forces.kept l old, early)
                    ]
              ]
        ]
      where
        before-one : (n k : ℕ) → n + 1 ≡ k → n ≡ k - 1
        before-one n k e = omega (arith, e)

        above-zero : (n k : ℕ) → n + 1 ≡ k → 0 < k
        above-zero n k e = omega (arith, e)

    -- the changes of the chunk may be added
    pub may-add : (change : Change) → Contains (changes_in listed chunk) change → IsChange u chunk change × (change.again ≡ false → IsOwnChange u (has u w.planes) chunk change)
    may-add change h =
        elim (forces.only chunk change h) [
          | inl old ↦ let known = is.changes chunk change old in (known.0, λ own. absurd (true≢false (sym known.1 ∙ own)))
          | inr new ↦ (new.is, λ own. (new.own own).1)
        ]

    module _ (added : Added) (planes : PlaneSet) (after : Worklist) (adds : AddsChanges u chunk (changes_in listed chunk) added w.planes planes q after) (left : List (WithRoom Change))
        (none : changes_in left chunk ≡ []) (others : (at : ℕ) → (at ≡ chunk → ⊥) → changes_in left at ≡ changes_in listed at) where
      -- what was listed is known then, or listed still
      still : (l : Lit) → l.cell.cycle < u.cycles → (has u w.planes l ≡ true) ⊎ IsListed listed l → (has u planes l ≡ true) ⊎ IsListed left l
      still l early h =
          elim h [
            | inl known ↦ inl (adds.bits l known)
            | inr new ↦ elim (cases_eq (l.cell.cycle / 64) chunk) [
              | inl same ↦ inl (adds.joined l early same (subst (λ n. HasChange (changes_in listed n) l) same new))
              | inr other ↦ inr (record { change = new.change; listed = subst (λ xs. Contains xs new.change) (sym (others (l.cell.cycle / 64) other)) new.listed; signal = new.signal; set = new.set })
            ]
          ]

      pub literals-after : (l : Lit) → (has u planes l ≡ true) ↔ level_of u base (with_step chunk levels (l.cell.cycle / 64)) l
      literals-after l =
          elim (cases_eq (l.cell.cycle / 64) chunk) [
            | inl same ↦ (
              λ h. subst (λ n. level_of u base n l) (sym (step-here chunk (l.cell.cycle / 64) levels same))
                  (elim (adds.only l h) [
                    | inl old ↦ subst (λ n. level_of u base n l) (one (levels (l.cell.cycle / 64))) (inl ((is.literals l).0 old))
                    | inr (in_chunk, new) ↦ sound-listed l (has-bit_of u planes l h).0 (subst (λ n. HasChange (changes_in listed n) l) (sym same) new)
                  ]),
              λ h. elim (all-next l same (subst (λ n. level_of u base (n + 1) l) (ap levels same ∙ may.here) (subst (λ n. level_of u base n l) (step-here chunk (l.cell.cycle / 64) levels same) h))) [
                | inl known ↦ adds.bits l known
                | inr (new, early) ↦ adds.joined l early same (subst (λ n. HasChange (changes_in listed n) l) same new)
              ],
            )
            | inr other ↦ (
              λ h. subst (λ n. level_of u base n l) (sym (step-other chunk (l.cell.cycle / 64) levels other))
                  (elim (adds.only l h) [
                    | inl old ↦ (is.literals l).0 old
                    | inr (in_chunk, new) ↦ absurd (other in_chunk)
                  ]),
              λ h. adds.bits l ((is.literals l).1 (subst (λ n. level_of u base n l) (step-other chunk (l.cell.cycle / 64) levels other) h)),
            )
          ]
        where
          one : (n : ℕ) → suc n ≡ n + 1
          one n = omega arith

      pub sound-after : (l : Lit) → l.cell.cycle < u.cycles → IsListed left l → level_of u base (with_step chunk levels (l.cell.cycle / 64) + 1) l
      sound-after l early h =
          elim (cases_eq (l.cell.cycle / 64) chunk) [
            | inl same ↦ absurd (not_in_nil h.change (subst (λ xs. Contains xs h.change) (ap (changes_in left) same ∙ none) h.listed))
            | inr other ↦
                subst (λ n. level_of u base (n + 1) l) (sym (step-other chunk (l.cell.cycle / 64) levels other))
                (sound-listed l early (record { change = h.change; listed = subst (λ xs. Contains xs h.change) (others (l.cell.cycle / 64) other) h.listed; signal = h.signal; set = h.set }))
          ]

      pub settled-after : (t : Task) → IsTask u t → TaskWaits u after t ⊎ ((l : Lit) → ForcedIn u t (has u planes) l → (has u planes l ≡ true) ⊎ IsListed left l)
      settled-after t task =
          elim (settled-listed t task) [
            | inl waits ↦ inl (adds.kept t waits)
            | inr done ↦ elim (adds.quiet t) [
              | inl woken ↦ inl woken
              | inr (inl same) ↦ inr (λ l f.
                  still l (forced_on_cells u t (has u planes) l f).1 (done l (forced_by_cells u t (has u planes) (has u w.planes) (λ c bit of h. sym (same c bit of) ∙ h) l f)))
              | inr (inr (in_chunk, calm, cells)) ↦ inr (λ l f.
                  elim (calm (has u planes) cells l f) [
                    | inl known ↦ inl (adds.bits l known)
                    | inr forced ↦ still l (forced_on_cells u t (has u planes) l f).1 (done l forced)
                  ])
            ]
          ]

      pub ahead-after : (c : ℕ) → c + 1 < chunks_in u → with_step chunk levels c ≡ with_step chunk levels (c + 1) + 1
          → (p : Place) (l : Lit) → p.cycle / 64 ≡ c → l.cell.cycle / 64 ≡ c + 1 → ForcesAt (unrolled u) (level_of u base (with_step chunk levels (c + 1))) p l → (has u planes l ≡ true) ⊎ IsListed left l
      ahead-after c more apart p l at cell f =
          let early : l.cell.cycle < u.cycles = cell-in_time u p l.cell (forced-role u (level_of u base (with_step chunk levels (c + 1))) p l f) in
          elim (cases_eq c chunk) [
            | inl same ↦
                let there : with_step chunk levels (c + 1) ≡ here = step-other chunk (c + 1) levels (λ e. absurd (omega (arith, e, same))) ∙ ap (λ n. levels (n + 1)) same ∙ may.next (subst (λ n. n + 1 < chunks_in u) same more) in
                still l early (forced-there p (at ∙ same) l (subst (λ n. ForcesAt (unrolled u) (level_of u base n) p l) there f))
            | inr other ↦ elim (cases_eq (c + 1) chunk) [
              | inl next ↦
                  let first : with_step chunk levels c ≡ here + 1 = step-other chunk c levels other ∙ ap levels (before-one c chunk next) ∙ may.before (above-zero c chunk next) in
                  let second : with_step chunk levels (c + 1) ≡ here + 1 = step-here chunk (c + 1) levels next ∙ ap (λ n. n + 1) (ap levels next ∙ may.here) in
                  absurd (omega (arith, apart, first, second))
              | inr far ↦
                  let here_is : with_step chunk levels c ≡ levels c = step-other chunk c levels other in
                  let next_is : with_step chunk levels (c + 1) ≡ levels (c + 1) = step-other chunk (c + 1) levels far in
                  still l early
                  (elim (is.ahead c more (sym here_is ∙ apart ∙ ap (λ n. n + 1) next_is) p l at cell (subst (λ n. ForcesAt (unrolled u) (level_of u base n) p l) next_is f)) [
                    | inl known ↦ inl known
                    | inr old ↦ inr (listed-kept w.changes.items listed forces.kept l old)
                  ])
            ]
          ]
        where
          before-one : (n k : ℕ) → n + 1 ≡ k → n ≡ k - 1
          before-one n k e = omega (arith, e)

          above-zero : (n k : ℕ) → n + 1 ≡ k → 0 < k
          above-zero n k e = omega (arith, e)

      pub changes-after : (at : ℕ) (change : Change) → Contains (changes_in left at) change → IsChange u at change × (change.again ≡ true)
      changes-after at change h =
          elim (cases_eq at chunk) [
            | inl same ↦ absurd (not_in_nil change (subst (λ xs. Contains xs change) (ap (changes_in left) same ∙ none) h))
            | inr other ↦ elim (forces.only at change (subst (λ xs. Contains xs change) (others at other) h)) [
              | inl old ↦ is.changes at change old
              | inr new ↦ (
                new.is,
                elim (cases_Bool change.again) [
                  | inl again ↦ again
                  | inr own ↦ absurd (other (new.own own).0)
                ],
              )
            ]
          ]
