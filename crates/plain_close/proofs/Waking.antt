-- Words that are joined into a block, and the tasks that wait then.
use Rattle.std.proofs.Common.{ℕ, ◌≡◌, ◌<◌, ◌≤◌, ◌⊎◌, ◌*◌, ◌||◌, ◌&&◌, Bool, true, false, ltb, arith, inl, inr, refl, sym, ap, subst, ◌∙◌}
use Rattle.std.proofs.lemmas.Bool.{cases_Bool, cases_lt, true≢false}
use Rattle.sr_model.specs.declared.cells.Cell.{Cell}
use Rattle.sr_model.specs.declared.cells.Lit.{Lit}
use Rattle.sr_model.specs.declared.cells.Sig.{Sig}
use Rattle.sr_model.specs.Closure.{lit}
use Rattle.unroll.specs.declared.problem.Block.{Block}
use Rattle.unroll.specs.declared.problem.InChunk.{InChunk}
use Rattle.unroll.specs.declared.problem.Task.{Task}
use Rattle.unroll.specs.declared.words.PinWord.{PinWord}
use Rattle.unroll.specs.Bits.{is_set, word_for}
use Rattle.unroll.specs.Laws.{IsWoken}
use Rattle.unroll.specs.Problem.{Unrolling, IsInside, IsProblem, blocks_in, block_in, block_of, bit_of}
use Rattle.unroll.specs.Tasks.{IsCellOf, IsTask, target_of, chunk_of}
use Rattle.unroll.specs.Waiting.{Waits, has_task}
use Rattle.unroll.proofs.lemmas.Laws.{each_in_one_task, fresh_bits_wake}
use Rattle.unroll.proofs.lemmas.Tasks.{one-task}
use Rattle.unroll.proofs.lemmas.Words.{is_set_zero}
use Rattle.known_planes.specs.Counts.{literal_count}
use Rattle.known_planes.specs.Planes.{PlaneSet, IsNewIn, IsOf, Joins, has, has_bit}
use Rattle.known_planes.proofs.lemmas.Laws.{literals_are_bits, more_literals_count_more}
use Rattle.plain_close.specs.declared.worklist.Worklist.{Worklist}
use Rattle.plain_close.specs.Worklist.{IsWorklistOf, Pushed, TaskWaits}
use Rattle.plain_close.specs.Turns.{Wakes, Falls, missing_of}
use Rattle.plain_close.proofs.Turning.{bit-has, both-ways, has-kept}

-- whether a task waits
pub waits-or : (q : Worklist) (s : Sig) (chunk : ℕ) → Waits q.waiting s chunk ⊎ (Waits q.waiting s chunk → ⊥)
waits-or q s chunk =
    elim (cases_lt s.0 q.waiting.signals) [
      | inl few ↦ elim (cases_lt chunk q.waiting.chunks) [
        | inl early ↦ elim (cases_Bool (has_task q.waiting s chunk)) [
          | inl set ↦ inl (record { signal = few; early = early; set = set })
          | inr unset ↦ inr (λ w. true≢false (sym w.set ∙ unset))
        ]
        | inr late ↦ inr (λ w. omega (arith, late, w.early))
      ]
      | inr many ↦ inr (λ w. omega (arith, many, w.signal))
    ]

-- what has a cell is a task
pub cell-task : (u : Unrolling) (t : Task) (c : Cell) → IsCellOf u t c → IsTask u t
cell-task u t c of = subst (IsTask u) (sym (one-task u t of.place of.belongs)) (each_in_one_task u of.place of.instance of.stands).0

-- words of which all bits are there
pub joins-known : (b : Block) (w : PinWord) (fresh : ℕ) (planes : PlaneSet) → ((bit : Bool) (i : ℕ) → is_set fresh i ≡ false → is_set (word_for bit w) i ≡ true → has_bit planes b bit i ≡ true) → fresh ≡ 0
    → Joins b w planes planes
joins-known b w fresh planes known none = record { kept = λ a bit i h. h; joined = λ bit i set. known bit i (ap (λ n. is_set n i) none ∙ is_set_zero i) set; only = λ a bit i h. inl h; mark = refl }

module _ (u : Unrolling) (is : IsProblem u) (at : InChunk) (inside : IsInside u at) (w : PinWord) (fresh : ℕ) (old new : PlaneSet) (of : IsOf u new) (joins : Joins (block_in u at) w old new) where
  -- a task that waits if fresh bits are in it waits, or its cells are as they were
  pub waits-or-same : ((bit : Bool) (i : ℕ) → is_set fresh i ≡ false → is_set (word_for bit w) i ≡ true → has_bit old (block_in u at) bit i ≡ true)
      → (q : Worklist) (t : Task) → (IsWoken u at fresh t → TaskWaits u q t) → TaskWaits u q t ⊎ ((c : Cell) (bit : Bool) → IsCellOf u t c → has u new (lit c bit) ≡ has u old (lit c bit))
  waits-or-same known q t woken =
      elim (waits-or q (target_of u t) (chunk_of u t)) [
        | inl waits ↦ inl waits
        | inr none ↦ inr (λ c bit of_task. ap (λ x. ltb c.cycle u.cycles && x)
            (both-ways (has_bit new (block_of u c) bit (bit_of c)) (has_bit old (block_of u c) bit (bit_of c)) (back none c bit of_task) (joins.kept (block_of u c) bit (bit_of c))))
      ]
    where
      back : (TaskWaits u q t → ⊥) → (c : Cell) (bit : Bool) → IsCellOf u t c → has_bit new (block_of u c) bit (bit_of c) ≡ true → has_bit old (block_of u c) bit (bit_of c) ≡ true
      back none c bit of_task h =
          elim (joins.only (block_of u c) bit (bit_of c) h) [
            | inl before ↦ before
            | inr (same, set) ↦ elim (cases_Bool (is_set fresh (bit_of c))) [
              | inl is_fresh ↦ absurd (none (woken (fresh_bits_wake u at fresh t c is inside (cell-task u t c of_task) of_task same is_fresh)))
              | inr stale ↦ ap (λ b. has_bit old b bit (bit_of c)) same ∙ known bit (bit_of c) stale set
            ]
          ]

  -- all tasks that fresh bits are in wait
  pub wakes-new : ((bit : Bool) (i : ℕ) → is_set fresh i ≡ false → is_set (word_for bit w) i ≡ true → has_bit old (block_in u at) bit i ≡ true)
      → (before after : Worklist) → Pushed u (IsWoken u at fresh) before after → Wakes u old new before after
  wakes-new known before after p = record {
    of = of;
    worklist = p.of;
    bits = joins.kept;
    mark = joins.mark;
    kept = p.kept;
    woken = λ t. waits-or-same known after t (p.pushed t);
  }

  -- and there is a literal more
  pub more-new : (l : Lit) → IsNewIn u old (block_in u at) w l → literal_count u old < literal_count u new
  more-new l is_new =
      let set : has u new l ≡ true = bit-has u new l is_new.in_time (ap (λ b. has_bit new b l.bit (bit_of l.cell)) is_new.in_block ∙ joins.joined l.bit (bit_of l.cell) is_new.listed) in
      more_literals_count_more u old new l of (has-kept u old new joins.kept) is_new.unknown set

  pub falls-new : (l : Lit) → IsNewIn u old (block_in u at) w l → (before after : Worklist) → Falls u true old new before after
  falls-new l is_new before after =
      let most : literal_count u new ≤ 128 * blocks_in u = literals_are_bits u new of in
      let fewer : missing_of u new < missing_of u old = omega (arith, more-new l is_new, most) in
      record {
        no_more = omega (arith, fewer);
        fewer = λ _. fewer;
        same = λ no. cc;
      }

-- one join after another
pub wakes-then : (u : Unrolling) (a b c : PlaneSet) (p q r : Worklist) → Wakes u a b p q → Wakes u b c q r → Wakes u a c p r
wakes-then u a b c p q r first second = record {
  of = second.of;
  worklist = second.worklist;
  bits = λ x bit i h. second.bits x bit i (first.bits x bit i h);
  mark = second.mark ∙ first.mark;
  kept = λ t h. second.kept t (first.kept t h);
  woken = λ t. elim (second.woken t) [
    | inl waits ↦ inl waits
    | inr same ↦ elim (first.woken t) [
      | inl waited ↦ inl (second.kept t waited)
      | inr before ↦ inr (λ x bit h. same x bit h ∙ before x bit h)
    ]
  ];
}

pub wakes-none : (u : Unrolling) (a : PlaneSet) (p : Worklist) → IsOf u a → IsWorklistOf u p → Wakes u a a p p
wakes-none u a p of are = record { of = of; worklist = are; bits = λ x bit i h. h; mark = refl; kept = λ t h. h; woken = λ t. inr (λ x bit h. refl) }

pub falls-then : (u : Unrolling) (x y : Bool) (a b c : PlaneSet) (p q r : Worklist) → Falls u x a b p q → Falls u y b c q r → Falls u (y || x) a c p r
falls-then u x true a b c p q r first second = record {
  no_more = omega (arith, first.no_more, second.no_more);
  fewer = λ _. omega (arith, first.no_more, second.fewer refl);
  same = λ no. cc;
}
falls-then u x false a b c p q r first second = record {
  no_more = omega (arith, first.no_more, second.no_more);
  fewer = λ yes. omega (arith, first.fewer yes, second.no_more);
  same = λ no. ((second.same refl).0 ∙ (first.same no).0, (second.same refl).1 ∙ (first.same no).1);
}

pub falls-none : (u : Unrolling) (a : PlaneSet) (p : Worklist) → Falls u false a a p p
falls-none u a p = record { no_more = omega arith; fewer = λ yes. cc; same = λ no. (refl, refl) }
