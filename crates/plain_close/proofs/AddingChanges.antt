-- Changes that are added to planes, one after another.
use Rattle.std.proofs.Common.{ℕ, ◌≡◌, ◌<◌, ◌/◌, ◌⊎◌, Bool, true, false, List, [], ◌∷◌, ◌++◌, arith, inl, inr, refl, sym, ap, subst, ◌∙◌}
use Rattle.std.specs.Prelude.{IsFalse, IsTrue}
use Rattle.std.proofs.lemmas.Bool.{cases_Bool, true≢false}
use Rattle.std.proofs.lemmas.List.Elements.{Contains-append_left, Contains-append_right, Contains-push_cases}
use Rattle.sr_model.specs.declared.cells.Cell.{Cell}
use Rattle.sr_model.specs.declared.cells.Lit.{Lit}
use Rattle.sr_model.specs.Closure.{lit}
use Rattle.sr_model.proofs.lemmas.Members.{not_in_nil, Contains-here}
use Rattle.unroll.specs.declared.problem.Task.{Task}
use Rattle.unroll.specs.Bits.{is_set, word_for}
use Rattle.unroll.specs.Problem.{Unrolling, block_at, block_of, bit_of, cell_of, chunk_at, chunks_in, sig_at}
use Rattle.unroll.specs.Tasks.{IsCellOf, chunk_of, task_at}
use Rattle.unroll.proofs.lemmas.Laws.{bit-small, block-chunk, block-sig, cell-itself, cycle-chunk}
use Rattle.gate_rules.specs.Forced.{ForcedIn}
use Rattle.known_planes.specs.Counts.{literal_count}
use Rattle.known_planes.specs.Planes.{PlaneSet, IsOf, has, has_bit}
use Rattle.plain_close.specs.declared.changes.Added.{Added}
use Rattle.plain_close.specs.declared.changes.Change.{Change}
use Rattle.plain_close.specs.declared.worklist.Worklist.{Worklist}
use Rattle.plain_close.specs.Changes.{AddsChange, AddsChanges, HasChange, IsCalm, IsChange, IsOwnChange, IsQuiet}
use Rattle.plain_close.specs.Worklist.{IsWorklistOf}
use Rattle.plain_close.proofs.Turning.{bit-has, has-bit_of, has-kept}

-- none of them
pub adds-none : (u : Unrolling) (chunk : ℕ) (planes : PlaneSet) (q : Worklist) → IsOf u planes → IsWorklistOf u q → AddsChanges u chunk [] (record { some = false; clash = false }) planes planes q q
adds-none u chunk planes q of are = record {
  of = of;
  worklist = are;
  bits = λ l h. h;
  joined = λ l early same h. absurd (not_in_nil h.change h.listed);
  only = λ l h. inl h;
  kept = λ t h. h;
  quiet = λ t. inr (inl (λ c bit of_task. refl));
  same = λ _. refl;
  more = λ any. absurd (true≢false (sym any));
  clash = λ _ c both. both;
}

module _ (u : Unrolling) (chunk : ℕ) (changes : List Change) (base old new : PlaneSet) (before mid after : Worklist) (earlier added : Added) (first : AddsChanges u chunk changes earlier base old before mid)
    (change : Change) (is : IsChange u chunk change) (own : IsFalse change.again → IsOwnChange u (has u base) chunk change) (step : AddsChange u chunk change earlier added old new mid after) where
  -- one of the first ones has the literal, or the last one
  one-more : (l : Lit) → HasChange (changes ++ change ∷ []) l → HasChange changes l ⊎ ((change.sig ≡ l.cell.sig) × (is_set (word_for l.bit change.words) (bit_of l.cell) ≡ true))
  one-more l h =
      elim (Contains-push_cases changes change h.change h.listed) [
        | inl listed ↦ inl (record { change = h.change; listed = listed; signal = h.signal; set = h.set })
        | inr e ↦ inr (ap (λ (x : Change). x.sig) e ∙ h.signal, ap (λ (x : Change). is_set (word_for l.bit x.words) (bit_of l.cell)) e ∙ h.set)
      ]

  last-has : (l : Lit) → change.sig ≡ l.cell.sig → is_set (word_for l.bit change.words) (bit_of l.cell) ≡ true → HasChange (changes ++ change ∷ []) l
  last-has l sig set = record { change = change; listed = Contains-append_right changes (change ∷ []) change (Contains-here change []); signal = sig; set = set }

  first-has : (l : Lit) → HasChange changes l → HasChange (changes ++ change ∷ []) l
  first-has l h = record { change = h.change; listed = Contains-append_left changes (change ∷ []) h.change h.listed; signal = h.signal; set = h.set }

  -- what is new is a bit of the block
  new-bit : (l : Lit) → has u new l ≡ true
      → (has u old l ≡ true) ⊎ ((l.cell.cycle < u.cycles) × (block_of u l.cell ≡ block_at u change.sig chunk) × (is_set (word_for l.bit change.words) (bit_of l.cell) ≡ true))
  new-bit l h =
      let at : (l.cell.cycle < u.cycles) × (has_bit new (block_of u l.cell) l.bit (bit_of l.cell) ≡ true) = has-bit_of u new l h in
      elim (step.joins.only (block_of u l.cell) l.bit (bit_of l.cell) at.1) [
        | inl before ↦ inl (bit-has u old l at.0 before)
        | inr (same, set) ↦ inr (at.0, same, set)
      ]

  now-only : (l : Lit) → has u new l ≡ true → (has u base l ≡ true) ⊎ ((l.cell.cycle / 64 ≡ chunk) × HasChange (changes ++ change ∷ []) l)
  now-only l h =
      elim (new-bit l h) [
        | inl was ↦ elim (first.only l was) [
          | inl known ↦ inl known
          | inr (in_chunk, has) ↦ inr (in_chunk, first-has l has)
        ]
        | inr (early, same, set) ↦
            let there : l.cell.cycle / 64 < chunks_in u = cycle-chunk u l.cell.cycle early in
            inr (
              sym (block-chunk u l.cell.sig (l.cell.cycle / 64) there) ∙ ap (chunk_at u) same ∙ block-chunk u change.sig chunk is.inside.1,
              last-has l (sym (block-sig u change.sig chunk is.inside.1) ∙ sym (ap (sig_at u) same) ∙ block-sig u l.cell.sig (l.cell.cycle / 64) there) set,
            )
      ]

  now-joined : (l : Lit) → l.cell.cycle < u.cycles → l.cell.cycle / 64 ≡ chunk → HasChange (changes ++ change ∷ []) l → has u new l ≡ true
  now-joined l early same h =
      elim (one-more l h) [
        | inl has ↦ has-kept u old new step.joins.kept l (first.joined l early same has)
        | inr (sig, set) ↦
            let block : block_of u l.cell ≡ block_at u change.sig chunk = ap (λ s. block_at u s (l.cell.cycle / 64)) (sym sig) ∙ ap (block_at u change.sig) same in
            bit-has u new l early (ap (λ b. has_bit new b l.bit (bit_of l.cell)) block ∙ step.joins.joined l.bit (bit_of l.cell) set)
      ]

  -- the task that forces the change itself has no other new literals than those that it forces
  own-quiet : (t : Task) → IsFalse change.again → t ≡ task_at u change.cause chunk
      → ((c : Cell) (bit : Bool) → IsCellOf u t c → has u old (lit c bit) ≡ true → (has u base (lit c bit) ≡ true) ⊎ ForcedIn u t (has u base) (lit c bit)) → IsQuiet u chunk t base new after
  own-quiet t no_more e until =
      let is_own : IsOwnChange u (has u base) chunk change = own no_more in
      inr (inr (
        ap (chunk_of u) e ∙ block-chunk u change.cause chunk is_own.task.early,
        subst (λ x. IsCalm u x (has u base)) (sym e) is_own.calm,
        λ c bit of_task h. elim (new-bit (lit c bit) h) [
          | inl was ↦ until c bit of_task was
          | inr (early, same, set) ↦
              let cell : cell_of u (block_at u change.sig chunk) (bit_of c) ≡ c = ap (λ b. cell_of u b (bit_of c)) (sym same) ∙ cell-itself u c early in
              inr (subst (λ x. ForcedIn u x (has u base) (lit c bit)) (sym e)
              (subst (λ x. ForcedIn u (task_at u change.cause chunk) (has u base) (lit x bit)) cell (is_own.forced bit (bit_of c) (bit-small c) set)))
        ],
      ))

  now-quiet : (t : Task) → IsQuiet u chunk t base new after
  now-quiet t =
      elim (first.quiet t) [
        | inl waits ↦ inl (step.kept t waits)
        | inr quiet ↦ elim (step.woken t) [
          | inl waits ↦ inl waits
          | inr (inl same) ↦ elim quiet [
            | inl before ↦ inr (inl (λ c bit of_task. same c bit of_task ∙ before c bit of_task))
            | inr (in_chunk, calm, all) ↦ inr (inr (in_chunk, calm, λ c bit of_task h. all c bit of_task (sym (same c bit of_task) ∙ h)))
          ]
          | inr (inr (no_more, e)) ↦ own-quiet t no_more e (elim quiet [
            | inl before ↦ λ c bit of_task h. inl (sym (before c bit of_task) ∙ h)
            | inr (in_chunk, calm, all) ↦ all
          ])
        ]
      ]

  now-more : IsTrue added.some → literal_count u base < literal_count u new
  now-more any =
      elim step.some [
        | inl (planes, same) ↦ subst (λ x. literal_count u base < literal_count u x) (sym planes) (first.more (ap (λ (a : Added). a.some) (sym same) ∙ any))
        | inr (some, more) ↦ elim (cases_Bool earlier.some) [
          | inl already ↦ let less : literal_count u base < literal_count u old = first.more already in omega (arith, less, more)
          | inr nothing ↦ subst (λ x. literal_count u x < literal_count u new) (first.same nothing) more
        ]
      ]

  adds-push : AddsChanges u chunk (changes ++ change ∷ []) added base new before after
  adds-push = record {
    of = step.of;
    worklist = step.worklist;
    bits = λ l h. has-kept u old new step.joins.kept l (first.bits l h);
    joined = now-joined;
    only = now-only;
    kept = λ t h. step.kept t (first.kept t h);
    quiet = now-quiet;
    same = λ no. elim step.some [
      | inl (planes, same) ↦ planes ∙ first.same (ap (λ (a : Added). a.some) (sym same) ∙ no)
      | inr (some, more) ↦ absurd (true≢false (sym some ∙ no))
    ];
    more = now-more;
    clash = λ no c both. first.clash (step.clash no).0 c ((step.clash no).1 c both);
  }

  -- one more of a list
  pub adds-more : (more : List Change) → more ≡ changes ++ change ∷ [] → AddsChanges u chunk more added base new before after
  adds-more more e = subst (λ xs. AddsChanges u chunk xs added base new before after) (sym e) adds-push
