-- The first cell with both literals, of what chunks have come to.
use Rattle.std.proofs.Common.{ℕ, zero, suc, ◌≡◌, ◌<◌, ◌≤◌, ◌+◌, ◌/◌, ◌⊎◌, Option, Some, None, Bool, true, false, arith, inl, inr, refl, sym, ap, subst, ◌∙◌}
use Rattle.std.proofs.lemmas.Bool.{cases_eq, cases_lt}
use Rattle.sr_model.specs.declared.cells.Cell.{Cell}
use Rattle.sr_model.specs.declared.cells.Lit.{Lit}
use Rattle.sr_model.specs.Order.{CellLe}
use Rattle.sr_model.specs.Closure.{HasBoth, IsLeastClash, lit}
use Rattle.unroll.specs.Problem.{Unrolling}
use Rattle.unroll.proofs.lemmas.Tasks.{cell-in_time}
use Rattle.known_planes.specs.Planes.{PlaneSet, has, lits}
use Rattle.plain_close.specs.declared.levels.Clash.{Clash}
use Rattle.plain_close.specs.declared.wavefront.Wavefront.{Wavefront}
use Rattle.plain_close.specs.Wavefront.{ComesBefore, IsFirst, IsWavefront, MayStep, Notes, level_of, with_step}
use Rattle.plain_close.proofs.Stepping.{forced-role, step-here, step-other}
use Rattle.plain_close.proofs.Turning.{has-bit_of}

-- cells of levels are in time
pub level-in_time : (u : Unrolling) (base : PlaneSet) (n : ℕ) (l : Lit) → level_of u base n l → l.cell.cycle < u.cycles
level-in_time u base zero l h = (has-bit_of u base l h).0
level-in_time u base (suc n) l h =
    elim h [
      | inl before ↦ level-in_time u base n l before
      | inr (p, f) ↦ cell-in_time u p l.cell (forced-role u (level_of u base n) p l f)
    ]

-- what comes before one that comes before a cell comes before it
pub before-then : (first noted : Clash) (n : ℕ) (c : Cell) → ComesBefore first noted.level noted.cell → ComesBefore noted n c → ComesBefore first n c
before-then first noted n c one two =
    elim one [
      | inl lower ↦ elim two [
        | inl below ↦ inl (omega (arith, lower, below))
        | inr (same, cell) ↦ inl (omega (arith, lower, same))
      ]
      | inr (same, cell) ↦ elim two [
        | inl below ↦ inl (omega (arith, same, below))
        | inr (equal, after) ↦ inr (same ∙ equal, le-then first.cell noted.cell c cell after)
      ]
    ]
  where
    le-then : (a b d : Cell) → CellLe a b → CellLe b d → CellLe a d
    le-then a b d x y =
        elim x [
          | inl early ↦ elim y [ inl later ↦ inl (omega (arith, early, later)) | inr (e, s) ↦ inl (omega (arith, early, e)) ]
          | inr (e, s) ↦ elim y [ inl later ↦ inl (omega (arith, e, later)) | inr (f, t) ↦ inr (e ∙ f, omega (arith, s, t)) ]
        ]

option-cases : {A : Type 0} (o : Option A) → (o ≡ None) ⊎ ((x : A) × (o ≡ Some x))
option-cases None = inl refl
option-cases (Some x) = inr (x, refl)

module _ (u : Unrolling) (base : PlaneSet) (levels : ℕ → ℕ) (chunk here : ℕ) (may : MayStep u levels chunk here) where
  -- a level that a chunk has come to was there before, unless it is the new one of the chunk that went on
  come-to : (n at : ℕ) → n ≤ with_step chunk levels at → (n ≤ levels at) ⊎ ((at ≡ chunk) × (n ≡ here + 1))
  come-to n at h =
      elim (cases_eq at chunk) [
        | inl same ↦
            let last : with_step chunk levels at ≡ here + 1 = step-here chunk at levels same ∙ ap (λ k. k + 1) (ap levels same ∙ may.here) in
            elim (cases_lt n (here + 1)) [
              | inl below ↦ inl (subst (λ k. n ≤ k) (sym (ap levels same ∙ may.here)) (omega (arith, below)))
              | inr above ↦ inr (same, omega (arith, above, h, last))
            ]
        | inr other ↦ inl (subst (λ k. n ≤ k) (step-other chunk at levels other) h)
      ]

  -- a level that was there is there still
  step-more : (at n : ℕ) → n ≤ levels at → n ≤ with_step chunk levels at
  step-more at n h =
      elim (cases_eq at chunk) [
        | inl same ↦ let last : with_step chunk levels at ≡ levels at + 1 = step-here chunk at levels same in omega (arith, h, last)
        | inr other ↦ let last : with_step chunk levels at ≡ levels at = step-other chunk at levels other in omega (arith, h, last)
      ]

  module _ (planes : PlaneSet) (literals : (l : Lit) → level_of u base (with_step chunk levels (l.cell.cycle / 64)) l → has u planes l ≡ true) where
    -- cells of the chunk with both literals in its new level
    both-known : (n : ℕ) (c : Cell) → c.cycle / 64 ≡ chunk → n ≡ here + 1 → HasBoth (level_of u base n) c → HasBoth (lits u planes) c
    both-known n c at is both = (known false both.0, known true both.1)
      where
        known : (bit : Bool) → level_of u base n (lit c bit) → has u planes (lit c bit) ≡ true
        known bit h =
            literals (lit c bit)
            (subst (λ k. level_of u base k (lit c bit)) (is ∙ sym (step-here chunk (c.cycle / 64) levels at ∙ ap (λ k. k + 1) (ap levels at ∙ may.here))) h)

    -- where no cell has both literals since
    pub first-same : (old : PlaneSet) → ((l : Lit) → has u old l ≡ true → level_of u base (levels (l.cell.cycle / 64)) l) → ((c : Cell) → HasBoth (lits u planes) c → HasBoth (lits u old) c)
        → (first : Option Clash) → IsFirst u base levels first → IsFirst u base (with_step chunk levels) first
    first-same old known none None is = λ n c come both. elim (come-to n (c.cycle / 64) come) [
      | inl before ↦ is n c before both
      | inr (at, last) ↦
          let there = none c (both-known n c at last both) in
          is (levels (c.cycle / 64)) c (omega arith) (known (lit c false) there.0, known (lit c true) there.1)
    ]
    first-same old known none (Some first) is = (
      step-more (first.cell.cycle / 64) first.level is.0,
      is.1,
      λ n c come both. elim (come-to n (c.cycle / 64) come) [
        | inl before ↦ is.2 n c before both
        | inr (at, last) ↦
            let there = none c (both-known n c at last both) in
            let earlier : ComesBefore first here c =
            subst (λ k. ComesBefore first k c) (ap levels at ∙ may.here) (is.2 (levels (c.cycle / 64)) c (omega arith) (known (lit c false) there.0, known (lit c true) there.1)) in
            elim earlier [
              | inl lower ↦ inl (omega (arith, lower, last))
              | inr (same, cell) ↦ inl (omega (arith, same, last))
            ]
      ],
    )

    -- where they are noted
    pub first-noted : ((l : Lit) → has u planes l ≡ true → level_of u base (with_step chunk levels (l.cell.cycle / 64)) l) → (old new : Option Clash) → Notes u planes chunk (here + 1) old new
        → IsFirst u base levels old → IsFirst u base (with_step chunk levels) new
    first-noted there old new notes is =
        elim (option-cases new) [
          | inl none ↦ subst (IsFirst u base (with_step chunk levels)) (sym none) (no-first none)
          | inr (first, some) ↦ subst (IsFirst u base (with_step chunk levels)) (sym some) (come-first first some, both first some, λ n c come h. before first some n c come h)
        ]
      where
        never : (first : Clash) → new ≡ None → new ≡ Some first → ⊥
        never first none some = cc

        old-none : new ≡ None → old ≡ None
        old-none none =
            elim (option-cases old) [
              | inl e ↦ e
              | inr (noted, was) ↦ let now = notes.kept noted was in absurd (never now.0 none now.1)
            ]

        no-first : new ≡ None → IsFirst u base (with_step chunk levels) None
        no-first none n c come h =
            elim (come-to n (c.cycle / 64) come) [
              | inl earlier ↦ subst (IsFirst u base levels) (old-none none) is n c earlier h
              | inr (at, last) ↦ let now = notes.cells c at (both-known n c at last h) in absurd (never now.0 none now.1)
            ]

        both : (first : Clash) → new ≡ Some first → HasBoth (level_of u base first.level) first.cell
        both first some =
            elim (notes.only first some) [
              | inl was ↦ (subst (IsFirst u base levels) was is).1
              | inr (level, at, h) ↦
                  let last : with_step chunk levels (first.cell.cycle / 64) ≡ first.level = step-here chunk (first.cell.cycle / 64) levels at ∙ ap (λ k. k + 1) (ap levels at ∙ may.here) ∙ sym level in (
                    subst (λ k. level_of u base k (lit first.cell false)) last (there (lit first.cell false) h.0),
                    subst (λ k. level_of u base k (lit first.cell true)) last (there (lit first.cell true) h.1),
                  )
            ]

        come-first : (first : Clash) → new ≡ Some first → first.level ≤ with_step chunk levels (first.cell.cycle / 64)
        come-first first some =
            elim (notes.only first some) [
              | inl was ↦ step-more (first.cell.cycle / 64) first.level (subst (IsFirst u base levels) was is).0
              | inr (level, at, h) ↦
                  let last : with_step chunk levels (first.cell.cycle / 64) ≡ here + 1 = step-here chunk (first.cell.cycle / 64) levels at ∙ ap (λ k. k + 1) (ap levels at ∙ may.here) in
                  omega (arith, last, level)
            ]

        same-first : (a b : Clash) → new ≡ Some a → new ≡ Some b → a ≡ b
        same-first a b x y = cc

        before : (first : Clash) → new ≡ Some first → (n : ℕ) (c : Cell) → n ≤ with_step chunk levels (c.cycle / 64) → HasBoth (level_of u base n) c → ComesBefore first n c
        before first some n c come h =
            elim (come-to n (c.cycle / 64) come) [
              | inl earlier ↦ elim (option-cases old) [
                | inl none ↦ absurd (subst (IsFirst u base levels) none is n c earlier h)
                | inr (noted, was) ↦
                    let now = notes.kept noted was in
                    before-then first noted n c (subst (λ k. ComesBefore k noted.level noted.cell) (same-first now.0 first now.1 some) now.2) ((subst (IsFirst u base levels) was is).2 n c earlier h)
              ]
              | inr (at, last) ↦
                  let now = notes.cells c at (both-known n c at last h) in
                  subst (λ k. ComesBefore first k c) (sym last) (subst (λ k. ComesBefore k (here + 1) c) (same-first now.0 first now.1 some) now.2)
            ]

-- the base itself
pub base-none : (u : Unrolling) (base : PlaneSet) → ((c : Cell) → HasBoth (lits u base) c → ⊥) → IsFirst u base (λ _. 0) None
base-none u base none n c come both =
    let first : n ≡ 0 = omega (arith, come) in
    none c (subst (λ k. level_of u base k (lit c false)) first both.0, subst (λ k. level_of u base k (lit c true)) first both.1)

pub base-some : (u : Unrolling) (base : PlaneSet) (clash : Clash) → clash.level ≡ 0 → IsLeastClash (lits u base) clash.cell → IsFirst u base (λ _. 0) (Some clash)
base-some u base clash level is = (
  omega (arith, level),
  (subst (λ k. level_of u base k (lit clash.cell false)) (sym level) is.both.0, subst (λ k. level_of u base k (lit clash.cell true)) (sym level) is.both.1),
  λ n c come both.
      let first : n ≡ 0 = omega (arith, come) in
      inr (level ∙ sym first, is.least c (subst (λ k. level_of u base k (lit c false)) first both.0, subst (λ k. level_of u base k (lit c true)) first both.1)),
)

-- a wavefront with another first cell noted
pub wavefront-as : (u : Unrolling) (base : PlaneSet) (levels : ℕ → ℕ) (w v : Wavefront) → v.planes ≡ w.planes → v.worklist ≡ w.worklist → v.changes ≡ w.changes → v.buffers ≡ w.buffers → IsWavefront u base levels w → IsWavefront u base levels v
wavefront-as u base levels w v planes worklist changes buffers is =
    subst (λ x. IsWavefront u base levels (record { planes = x; worklist = v.worklist; changes = v.changes; buffers = v.buffers; first = v.first })) (sym planes)
    (subst (λ x. IsWavefront u base levels (record { planes = w.planes; worklist = x; changes = v.changes; buffers = v.buffers; first = v.first })) (sym worklist)
    (subst (λ x. IsWavefront u base levels (record { planes = w.planes; worklist = w.worklist; changes = x; buffers = v.buffers; first = v.first })) (sym changes)
    (subst (λ x. IsWavefront u base levels (record { planes = w.planes; worklist = w.worklist; changes = w.changes; buffers = x; first = v.first })) (sym buffers)
    (record {
      problem = is.problem;
      of = is.of;
      worklist = is.worklist;
      room = is.room;
      size = is.size;
      changes = is.changes;
      literals = is.literals;
      sound = is.sound;
      settled = is.settled;
      ahead = is.ahead;
    }))))
