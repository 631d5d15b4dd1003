-- A change that is added to planes.
use Rattle.std.proofs.Common.{ℕ, ◌≡◌, ◌≢◌, ◌<◌, ◌⊎◌, ◌&&◌, Bool, true, false, inl, inr, refl, sym, ap, ◌∙◌}
use Rattle.std.specs.Prelude.{IsFalse, IsTrue}
use Rattle.std.proofs.lemmas.Bool.{and_from, cases_Bool, cases_eq, true≢false}
use Rattle.sr_model.specs.declared.cells.Cell.{Cell}
use Rattle.sr_model.specs.declared.cells.Lit.{Lit}
use Rattle.sr_model.specs.Closure.{HasBoth, lit}
use Rattle.unroll.specs.declared.problem.Block.{Block}
use Rattle.unroll.specs.declared.problem.Task.{Task}
use Rattle.unroll.specs.declared.words.PinWord.{PinWord}
use Rattle.unroll.specs.Bits.{is_set, word_for}
use Rattle.unroll.specs.Laws.{IsWoken}
use Rattle.unroll.specs.Problem.{Unrolling, IsProblem, block_at, block_of, bit_of}
use Rattle.unroll.specs.Tasks.{IsCellOf, task_at}
use Rattle.unroll.proofs.lemmas.Words.{is_set_zero}
use Rattle.known_planes.specs.Planes.{PlaneSet, IsNewIn, IsOf, Joins, has, has_bit, lits, words_at}
use Rattle.plain_close.specs.declared.changes.Added.{Added}
use Rattle.plain_close.specs.declared.changes.Change.{Change}
use Rattle.plain_close.specs.declared.worklist.Worklist.{Worklist}
use Rattle.plain_close.specs.Changes.{AddsChange, IsChange}
use Rattle.plain_close.specs.Worklist.{IsWorklistOf, Pushed, TaskWaits}
use Rattle.plain_close.proofs.Turning.{bit-has, has-bit_of}
use Rattle.plain_close.proofs.Waking.{joins-known, more-new, waits-or-same}

-- where no cell of the block that words were joined into has both literals, no other cell has since
pub both-before : (u : Unrolling) (b : Block) (w : PinWord) (old new : PlaneSet) → Joins b w old new → (there : PinWord) (both : ℕ) → there ≡ words_at new b → ((k : ℕ) → is_set both k ≡ (is_set there.zero k && is_set there.one k)) → both ≡ 0
    → (c : Cell) → HasBoth (lits u new) c → HasBoth (lits u old) c
both-before u b w old new joins there both there_is both_is none c known = (kept false known.0, kept true known.1)
  where
    zero : (c.cycle < u.cycles) × (has_bit new (block_of u c) false (bit_of c) ≡ true)
    zero = has-bit_of u new (lit c false) known.0

    one : (c.cycle < u.cycles) × (has_bit new (block_of u c) true (bit_of c) ≡ true)
    one = has-bit_of u new (lit c true) known.1

    elsewhere : block_of u c ≢ b
    elsewhere same =
        true≢false (sym (and_from (has_bit new (block_of u c) false (bit_of c)) (has_bit new (block_of u c) true (bit_of c)) zero.1 one.1)
        ∙ ap (λ a. has_bit new a false (bit_of c) && has_bit new a true (bit_of c)) same ∙ ap (λ (x : PinWord). is_set x.zero (bit_of c) && is_set x.one (bit_of c)) (sym there_is)
        ∙ sym (both_is (bit_of c)) ∙ ap (λ n. is_set n (bit_of c)) none ∙ is_set_zero (bit_of c))

    kept : (bit : Bool) → has u new (lit c bit) ≡ true → has u old (lit c bit) ≡ true
    kept bit h =
        let at : (c.cycle < u.cycles) × (has_bit new (block_of u c) bit (bit_of c) ≡ true) = has-bit_of u new (lit c bit) h in
        elim (joins.only (block_of u c) bit (bit_of c) at.1) [
          | inl before ↦ bit-has u old (lit c bit) at.0 before
          | inr (same, set) ↦ absurd (elsewhere same)
        ]

module _ (u : Unrolling) (is : IsProblem u) (chunk : ℕ) (change : Change) (is_change : IsChange u chunk change) (fresh : ℕ) (old : PlaneSet)
    (known : (bit : Bool) (i : ℕ) → is_set fresh i ≡ false → is_set (word_for bit change.words) i ≡ true → has_bit old (block_at u change.sig chunk) bit i ≡ true) (earlier : Added) where
  -- nothing of it is new
  pub adds-nothing : fresh ≡ 0 → IsOf u old → (q : Worklist) → IsWorklistOf u q → AddsChange u chunk change earlier earlier old old q q
  adds-nothing none of q are = record {
    of = of;
    worklist = are;
    joins = joins-known (block_at u change.sig chunk) change.words fresh old known none;
    kept = λ t h. h;
    woken = λ t. inr (inl (λ c bit of_task. refl));
    some = inl (refl, refl);
    clash = λ no. (no, λ c both. both);
  }

  -- there is something new, and the tasks wait that the fresh bits are in
  module _ (new : PlaneSet) (of : IsOf u new) (joins : Joins (block_at u change.sig chunk) change.words old new) (before after : Worklist)
      (pushed : Pushed u (λ t. IsWoken u (record { sig = change.sig; chunk = chunk }) fresh t × (IsFalse change.again → t ≢ task_at u change.cause chunk)) before after) where
    pub woken-but : (t : Task) → TaskWaits u after t ⊎ ((c : Cell) (bit : Bool) → IsCellOf u t c → has u new (lit c bit) ≡ has u old (lit c bit)) ⊎ (IsFalse change.again × (t ≡ task_at u change.cause chunk))
    woken-but t =
        elim (cases_Bool change.again) [
          | inl again ↦ unless (λ no. absurd (true≢false (sym again ∙ no)))
          | inr no_more ↦ elim (cases_eq t.0 (task_at u change.cause chunk).0) [
            | inl own ↦ inr (inr (no_more, ap (λ n. record { 0 = n }) own))
            | inr other ↦ unless (λ no own. other (ap (λ (x : Task). x.0) own))
          ]
        ]
      where
        unless : (IsFalse change.again → t ≢ task_at u change.cause chunk)
            → TaskWaits u after t ⊎ ((c : Cell) (bit : Bool) → IsCellOf u t c → has u new (lit c bit) ≡ has u old (lit c bit)) ⊎ (IsFalse change.again × (t ≡ task_at u change.cause chunk))
        unless other =
            elim (waits-or-same u is (record { sig = change.sig; chunk = chunk }) is_change.inside change.words fresh old new of joins known after t (λ woken. pushed.pushed t (woken, other))) [
              | inl waits ↦ inl waits
              | inr same ↦ inr (inl same)
            ]

    pub adds-new : (l : Lit) → IsNewIn u old (block_at u change.sig chunk) change.words l → (added : Added) → IsTrue added.some
        → (IsFalse added.clash → IsFalse earlier.clash × ((c : Cell) → HasBoth (lits u new) c → HasBoth (lits u old) c)) → AddsChange u chunk change earlier added old new before after
    adds-new l is_new added some clash = record {
      of = of;
      worklist = pushed.of;
      joins = joins;
      kept = pushed.kept;
      woken = woken-but;
      some = inr (some, more-new u is (record { sig = change.sig; chunk = chunk }) is_change.inside change.words fresh old new of joins l is_new);
      clash = clash;
    }
