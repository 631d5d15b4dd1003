-- Planes with the literals of others, and what is done there before any turn.
use Rattle.std.proofs.Common.{ℕ, ◌≡◌, ◌<◌, ◌≤◌, ◌+◌, ◌/◌, ◌||◌, Bool, true, arith, inl, inr, sym, ap, subst, ◌∙◌}
use Rattle.std.proofs.lemmas.Bool.{cases_lt, or_cases, or_left, or_right}
use Rattle.sr_model.specs.declared.cells.Sig.{Sig}
use Rattle.sr_model.specs.Closure.{Closure, SameLits, passing, LitSet}
use Rattle.sr_model.proofs.lemmas.Laws.{monotone, has_base, forced_between, closed_between}
use Rattle.unroll.specs.declared.problem.Block.{Block}
use Rattle.unroll.specs.declared.problem.InChunk.{InChunk}
use Rattle.unroll.specs.declared.words.PinWord.{PinWord}
use Rattle.unroll.specs.Bits.{is_set, word_for}
use Rattle.unroll.specs.Problem.{Unrolling, unrolled, IsInside, signals_in, chunks_in, block_at, block_in, block_of, bit_of, HasNoLaterBit}
use Rattle.unroll.proofs.lemmas.Laws.{cycle-chunk, block-chunk, block-within}
use Rattle.known_planes.specs.Planes.{PlaneSet, has, lits, words_at, IsOf, Joins, has_bit}
use Rattle.known_planes.proofs.lemmas.Laws.{literals_are_of_cells}
use Rattle.plain_close.specs.declared.worklist.Worklist.{Worklist}
use Rattle.plain_close.specs.Worklist.{IsSettled}
use Rattle.plain_close.specs.Turns.{Wakes, Adds, AddsChunk}
use Rattle.gate_rules.proofs.lemmas.Laws.{forced_by_cells}
use Rattle.plain_close.proofs.Turning.{has-bit_of, bit-has, has-kept}

-- one signal more
pub chunk-more : (u : Unrolling) (other : PlaneSet) (chunk n : ℕ) (x y z : PlaneSet) (w : PinWord) → AddsChunk u other chunk n x y
    → w ≡ words_at other (block_at u (record { 0 = n }) chunk)
    → Joins (block_at u (record { 0 = n }) chunk) w y z → AddsChunk u other chunk (n + 1) x z
chunk-more u other chunk n x y z w before is step = record {
  joined = λ s bit i early h. elim (cases_lt s.0 n) [
    | inl below ↦ step.kept (block_at u s chunk) bit i (before.joined s bit i below h)
    | inr past ↦
        let same : record { 0 = n } ≡ s = ap (λ k. record { 0 = k }) (number n s.0 past early) in
        subst (λ (r : Sig). has_bit z (block_at u r chunk) bit i ≡ true) same
        (step.joined bit i (ap (λ v. is_set (word_for bit v) i) is ∙ ap (λ (r : Sig). has_bit other (block_at u r chunk) bit i) same ∙ h))
  ];
  only = λ b bit i h. elim (step.only b bit i h) [
    | inl old ↦ before.only b bit i old
    | inr new ↦ inr (ap (λ c. has_bit other c bit i) new.0 ∙ ap (λ v. is_set (word_for bit v) i) (sym is) ∙ new.1)
  ];
}
  where
    number : (n k : ℕ) → n ≤ k → k < n + 1 → n ≡ k
    number n k past early = omega (arith, past, early)

-- one chunk more
pub adds-more : (u : Unrolling) (other : PlaneSet) (n : ℕ) (x y z : PlaneSet) → Adds u other n x y
    → ((b : Block) (bit : Bool) (i : ℕ) → has_bit y b bit i ≡ true → has_bit z b bit i ≡ true) → AddsChunk u other n (signals_in u) y z → Adds u other (n + 1) x z
adds-more u other n x y z before bits step = record {
  joined = λ s chunk bit i h early set. elim (cases_lt chunk n) [
    | inl below ↦ bits (block_at u s chunk) bit i (before.joined s chunk bit i h below set)
    | inr past ↦
        let same : n ≡ chunk = omega (arith, past, early) in
        subst (λ k. has_bit z (block_at u s k) bit i ≡ true) same (step.joined s bit i h (ap (λ k. has_bit other (block_at u s k) bit i) same ∙ set))
  ];
  only = λ b bit i h. elim (step.only b bit i h) [
    | inl old ↦ before.only b bit i old
    | inr new ↦ inr new
  ];
}

-- the literals of both
pub added-lits : (u : Unrolling) (x other z : PlaneSet) (before after : Worklist) → IsOf u other → Wakes u x z before after → Adds u other (chunks_in u) x z
    → SameLits (lits u z) (passing (λ l. has u x l || has u other l))
added-lits u x other z before after of wakes adds = (
  λ l h.
      let parts : (l.cell.cycle < u.cycles) × (has_bit z (block_of u l.cell) l.bit (bit_of l.cell) ≡ true) = has-bit_of u z l h in
      elim (adds.only (block_of u l.cell) l.bit (bit_of l.cell) parts.1) [
        | inl old ↦ or_left (has u x l) (has u other l) (bit-has u x l parts.0 old)
        | inr new ↦ or_right (has u x l) (has u other l) (bit-has u other l parts.0 new)
      ],
  λ l h. elim (or_cases (has u x l) (has u other l) h) [
    | inl old ↦ has-kept u x z wakes.bits l old
    | inr new ↦
        let parts : (l.cell.cycle < u.cycles) × (has_bit other (block_of u l.cell) l.bit (bit_of l.cell) ≡ true) = has-bit_of u other l new in
        bit-has u z l parts.0 (adds.joined l.cell.sig (l.cell.cycle / 64) l.bit (bit_of l.cell) (literals_are_of_cells u other l of new).0 (cycle-chunk u l.cell.cycle parts.0) parts.1)
  ],
)

-- sets with the same literals have the same closure
pub same-closed : (u : Unrolling) (result : PlaneSet) (a b : LitSet) → SameLits a b → SameLits (lits u result) (Closure (unrolled u) a) → SameLits (lits u result) (Closure (unrolled u) b)
same-closed u result a b same closed = (λ l h. monotone (unrolled u) a b same.0 l (closed.0 l h), λ l h. closed.1 l (monotone (unrolled u) b a same.1 l h))

-- after literals were added, each task waits or is done, if that was so before
pub still-settled : (u : Unrolling) (x z : PlaneSet) (before after : Worklist) → IsSettled u x before → Wakes u x z before after → IsSettled u z after
still-settled u x z before after settled wakes t is =
    elim (wakes.woken t) [
      | inl waits ↦ inl waits
      | inr same ↦ elim (settled t is) [
        | inl waited ↦ inl (wakes.kept t waited)
        | inr done ↦ inr (λ l f. has-kept u x z wakes.bits l (done l (forced_by_cells u t (has u z) (has u x) (λ c bit of h. sym (same c bit of) ∙ h) l f)))
      ]
    ]

-- where the planes are closed, all tasks are done
pub settled-closed : (u : Unrolling) (planes : PlaneSet) (q : Worklist) → SameLits (lits u planes) (Closure (unrolled u) (lits u planes)) → IsSettled u planes q
settled-closed u planes q closed t task = inr (λ l f. closed.1 l (forced_between (unrolled u) (lits u planes) (lits u planes) (λ m h. h) closed.0 l (f.place, f.forces)))

-- the words of planes have no bit of a later cycle
pub no_later-in : (u : Unrolling) (other : PlaneSet) (at : InChunk) (w : PinWord) → IsOf u other → IsInside u at → w ≡ words_at other (block_in u at) → HasNoLaterBit u.cycles at.chunk w
no_later-in u other at w of inside is =
    subst (HasNoLaterBit u.cycles at.chunk) (sym is)
    (subst (λ c. HasNoLaterBit u.cycles c (words_at other (block_in u at))) (block-chunk u at.sig at.chunk inside.1) (of.no_later (block_in u at) (block-within u at.sig at.chunk inside.1 inside.0)))

-- a closure is closed
pub closed_again : (u : Unrolling) (planes base : PlaneSet) → SameLits (lits u planes) (Closure (unrolled u) (lits u base)) → SameLits (lits u planes) (Closure (unrolled u) (lits u planes))
closed_again u planes base closed = (
  has_base (unrolled u) (lits u planes),
  (closed_between (unrolled u) (lits u planes) (lits u planes) (λ l h. h) (has_base (unrolled u) (lits u planes))
      (λ l forced. closed.1 l (forced_between (unrolled u) (lits u base) (lits u planes) (λ m h. closed.1 m (has_base (unrolled u) (lits u base) m h)) closed.0 l forced))).1,
)
