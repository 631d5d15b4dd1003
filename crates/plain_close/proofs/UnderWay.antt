-- The steps of chunks one after another, and where each chunk is then.
use Rattle.std.proofs.Common.{ℕ, ◌≡◌, ◌<◌, ◌≤◌, ◌+◌, ◌-◌, ◌/◌, ◌||◌, Bool, true, false, Option, Some, None, arith, inl, inr, refl, sym, ap, subst, ◌∙◌}
use Rattle.std.proofs.lemmas.Bool.{cases_eq, cases_lt, true≢false}
use Rattle.sr_model.specs.declared.cells.Lit.{Lit}
use Rattle.sr_model.specs.Closure.{ForcesAt, lit}
use Rattle.unroll.specs.Problem.{Unrolling, chunks_in, unrolled}
use Rattle.unroll.proofs.lemmas.Laws.{cycle-chunk}
use Rattle.known_planes.specs.Counts.{literal_count}
use Rattle.known_planes.specs.Planes.{PlaneSet}
use Rattle.plain_close.specs.declared.levels.Clash.{Clash}
use Rattle.plain_close.specs.declared.wavefront.Wavefront.{Wavefront}
use Rattle.plain_close.specs.Wavefront.{GoesOn, IsAt, IsFirst, IsUnderWay, IsWavefront, MayStep, level_of, with_step}
use Rattle.plain_close.proofs.Firsts.{level-in_time}
use Rattle.plain_close.proofs.Stepping.{step-here, step-other}
use Rattle.plain_close.proofs.Turning.{has-bit_of}

-- only the levels of chunks that are there count
module _ (u : Unrolling) (base : PlaneSet) (levels others : ℕ → ℕ) (same : (chunk : ℕ) → chunk < chunks_in u → levels chunk ≡ others chunk) where
  at-same : (l : Lit) → l.cell.cycle < u.cycles → levels (l.cell.cycle / 64) ≡ others (l.cell.cycle / 64)
  at-same l early = same (l.cell.cycle / 64) (cycle-chunk u l.cell.cycle early)

  pub wavefront-same : (w : Wavefront) → IsWavefront u base levels w → IsWavefront u base others w
  wavefront-same w is = record {
    problem = is.problem;
    of = is.of;
    worklist = is.worklist;
    room = is.room;
    size = is.size;
    changes = is.changes;
    literals = λ l. (
      λ h. subst (λ n. level_of u base n l) (at-same l (has-bit_of u w.planes l h).0) ((is.literals l).0 h),
      λ h. (is.literals l).1 (subst (λ n. level_of u base n l) (sym (at-same l (level-in_time u base (others (l.cell.cycle / 64)) l h))) h),
    );
    sound = λ l early h. subst (λ n. level_of u base (n + 1) l) (at-same l early) (is.sound l early h);
    settled = is.settled;
    ahead = λ chunk more apart p l at cell f.
        is.ahead chunk more (same chunk (below chunk (chunks_in u) more) ∙ apart ∙ ap (λ n. n + 1) (sym (same (chunk + 1) more))) p l at cell
        (subst (λ n. ForcesAt (unrolled u) (level_of u base n) p l) (sym (same (chunk + 1) more)) f);
  }
    where
      below : (n k : ℕ) → n + 1 < k → n < k
      below n k h = omega (arith, h)

  pub first-other : (first : Option Clash) → IsFirst u base levels first → IsFirst u base others first
  first-other None is = λ n c come both. is n c (subst (λ k. n ≤ k) (sym (at-same (lit c false) (level-in_time u base n (lit c false) both.0))) come) both
  first-other (Some first) is = (subst (λ k. first.level ≤ k) (at-same (lit first.cell false) (level-in_time u base first.level (lit first.cell false) is.1.0)) is.0, is.1, λ n c come both. is.2 n c (subst (λ k. n ≤ k) (sym (at-same (lit c false) (level-in_time u base n (lit c false) both.0))) come) both)

  pub goes-same : (some : Bool) (old new : Wavefront) → GoesOn u base levels some old new → GoesOn u base others some old new
  goes-same some old new goes = record { wavefront = wavefront-same new goes.wavefront; first = first-other new.first goes.first; bits = goes.bits; same = goes.same; more = goes.more }

-- one after another
pub goes-then : (u : Unrolling) (base : PlaneSet) (levels others : ℕ → ℕ) (some more : Bool) (a b c : Wavefront) → GoesOn u base levels some a b → GoesOn u base others more b c → GoesOn u base others (more || some) a c
goes-then u base levels others true true a b c first second = record {
  wavefront = second.wavefront;
  first = second.first;
  bits = λ l h. second.bits l (first.bits l h);
  same = λ never. absurd (true≢false never);
  more = λ _. omega (arith, first.more refl, second.more refl);
}
goes-then u base levels others true false a b c first second = record {
  wavefront = second.wavefront;
  first = second.first;
  bits = λ l h. second.bits l (first.bits l h);
  same = λ never. absurd (true≢false never);
  more = λ _. subst (λ n. literal_count u a.planes < n) (ap (literal_count u) (sym (second.same refl))) (first.more refl);
}
goes-then u base levels others false true a b c first second = record {
  wavefront = second.wavefront;
  first = second.first;
  bits = λ l h. second.bits l (first.bits l h);
  same = λ never. absurd (true≢false never);
  more = λ _. subst (λ n. n < literal_count u c.planes) (ap (literal_count u) (first.same refl)) (second.more refl);
}
goes-then u base levels others false false a b c first second = record {
  wavefront = second.wavefront;
  first = second.first;
  bits = λ l h. second.bits l (first.bits l h);
  same = λ _. second.same refl ∙ first.same refl;
  more = λ never. absurd (true≢false (sym never));
}

pub goes-none : (u : Unrolling) (base : PlaneSet) (levels : ℕ → ℕ) (w : Wavefront) → IsWavefront u base levels w → IsFirst u base levels w.first → GoesOn u base levels false w w
goes-none u base levels w is first = record { wavefront = is; first = first; bits = λ l h. h; same = λ _. refl; more = λ never. absurd (true≢false (sym never)) }

-- the chunk that is to take its step may do so
pub may-step : (u : Unrolling) (levels : ℕ → ℕ) (level time steps : ℕ) → ((chunk : ℕ) → chunk < chunks_in u → IsAt level time steps chunk (levels chunk)) → steps < 4 → steps ≤ time → time - steps < chunks_in u
    → MayStep u levels (time - steps) (level + steps)
may-step u levels level time steps at few within early = record {
  early = early;
  here = let n = at (time - steps) early in here_is (levels (time - steps)) (n.behind (omega (arith, within)) (omega (arith, within, few)));
  next = λ more. next_is more;
  before = λ some. before_is some;
}
  where
    here_is : (n : ℕ) → n + (time - steps) ≡ level + time → n ≡ level + steps
    here_is n e = omega (arith, e, within)

    next_is : time - steps + 1 < chunks_in u → levels (time - steps + 1) ≡ level + steps
    next_is more =
        elim (cases_lt 0 steps) [
          | inl some ↦ let e = (at (time - steps + 1) more).ahead (omega (arith, within, some)) (omega (arith, within, some)) in omega (arith, e, within)
          | inr none ↦ let e = (at (time - steps + 1) more).later (omega (arith, within, none)) in omega (arith, e, none)
        ]

    before_is : 0 < time - steps → levels (time - steps - 1) ≡ level + steps + 1
    before_is some =
        let below : time - steps - 1 < chunks_in u = omega (arith, early) in
        elim (cases_lt steps 3) [
          | inl fewer ↦ let e = (at (time - steps - 1) below).behind (omega (arith, some, within)) (omega (arith, some, within, fewer)) in omega (arith, e, some, within)
          | inr last ↦ let e = (at (time - steps - 1) below).done (omega (arith, some, within, few, last)) in omega (arith, e, few, last)
        ]

-- and is where it is to be after it
pub at-stepped : (level time steps chunk n : ℕ) → steps < 4 → steps ≤ time → chunk ≡ time - steps → IsAt level time steps chunk n → IsAt level time (steps + 1) chunk (n + 1)
at-stepped level time steps chunk n few within is at = record {
  later = λ h. absurd (omega (arith, h, is, within));
  ahead = λ h k. let e = at.behind (omega (arith, is, within)) (omega (arith, is, within, few)) in omega (arith, e);
  behind = λ h k. absurd (omega (arith, h, is, within));
  done = λ h. absurd (omega (arith, h, is, within, few));
}

-- as the others are
pub at-other : (level time steps chunk n : ℕ) → (chunk + steps ≡ time → ⊥) → IsAt level time steps chunk n → IsAt level time (steps + 1) chunk n
at-other level time steps chunk n other at = record {
  later = at.later;
  ahead = λ h k. elim (cases_eq (chunk + steps) time) [ inl e ↦ absurd (other e) | inr apart ↦ at.ahead h (below chunk steps time k apart) ];
  behind = λ h k. at.behind (omega (arith, h)) k;
  done = at.done;
}
  where
    below : (c s t : ℕ) → t < c + (s + 1) → (c + s ≡ t → ⊥) → t < c + s
    below c s t k apart = elim (cases_lt t (c + s)) [ inl h ↦ h | inr past ↦ absurd (apart (omega (arith, past, k))) ]

-- at the next time
pub at-next : (level time chunk n : ℕ) → IsAt level time 4 chunk n → IsAt level (time + 1) 0 chunk n
at-next level time chunk n at = record {
  later = λ h. at.later (omega (arith, h));
  ahead = λ h k. absurd (omega (arith, h, k));
  behind = λ h k. elim (cases_lt time chunk) [
    | inl before ↦ let e = at.later before in omega (arith, e, before, h)
    | inr past ↦ let e = at.ahead past (omega (arith, k)) in omega (arith, e)
  ];
  done = λ h. elim (cases_lt time (chunk + 4)) [
    | inl now ↦ let e = at.ahead (omega (arith, h)) now in omega (arith, e, h, now)
    | inr past ↦ at.done past
  ];
}

pub at-first : (level chunk : ℕ) → IsAt level 0 0 chunk level
at-first level chunk = record {
  later = λ h. refl;
  ahead = λ h k. absurd (omega (arith, h, k));
  behind = λ h k. omega (arith, h);
  done = λ h. absurd (omega (arith, h));
}

module _ (u : Unrolling) (base : PlaneSet) (level time steps : ℕ) (some : Bool) (start w : Wavefront) (way : IsUnderWay u base level time steps some start w) (few : steps < 4) where
  -- one step more
  pub way-stepped : steps ≤ time → time - steps < chunks_in u → (more : Bool) (new : Wavefront) → GoesOn u base (with_step (time - steps) way.levels) more w new → IsUnderWay u base level time (steps + 1) (more || some) start new
  way-stepped within early more new goes = record {
    levels = with_step (time - steps) way.levels;
    at = λ chunk h. elim (cases_eq chunk (time - steps)) [
      | inl same ↦
          subst (IsAt level time (steps + 1) chunk) (sym (step-here (time - steps) chunk way.levels same)) (at-stepped level time steps chunk (way.levels chunk) few within same (way.at chunk h))
      | inr other ↦
          subst (IsAt level time (steps + 1) chunk) (sym (step-other (time - steps) chunk way.levels other))
          (at-other level time steps chunk (way.levels chunk) (λ e. other (back chunk time steps e)) (way.at chunk h))
    ];
    goes = goes-then u base way.levels (with_step (time - steps) way.levels) some more start w new way.goes goes;
  }
    where
      back : (c t s : ℕ) → c + s ≡ t → c ≡ t - s
      back c t s e = omega (arith, e)

  -- or none, where no chunk is to take it
  pub way-skipped : (steps ≤ time → time - steps < chunks_in u → ⊥) → IsUnderWay u base level time (steps + 1) some start w
  way-skipped none = record {
    levels = way.levels;
    at = λ chunk h. at-other level time steps chunk (way.levels chunk) (λ e. none (within chunk time steps e) (subst (λ n. n < chunks_in u) (back chunk time steps e) h)) (way.at chunk h);
    goes = way.goes;
  }
    where
      within : (c t s : ℕ) → c + s ≡ t → s ≤ t
      within c t s e = omega (arith, e)

      back : (c t s : ℕ) → c + s ≡ t → c ≡ t - s
      back c t s e = omega (arith, e)

-- the next time
pub way-next : (u : Unrolling) (base : PlaneSet) (level time : ℕ) (some : Bool) (start w : Wavefront) → IsUnderWay u base level time 4 some start w → IsUnderWay u base level (time + 1) 0 some start w
way-next u base level time some start w way = record { levels = way.levels; at = λ chunk h. at-next level time chunk (way.levels chunk) (way.at chunk h); goes = way.goes }

pub way-first : (u : Unrolling) (base : PlaneSet) (level : ℕ) (w : Wavefront) → IsWavefront u base (λ _. level) w → IsFirst u base (λ _. level) w.first → IsUnderWay u base level 0 0 false w w
way-first u base level w is first = record { levels = λ _. level; at = λ chunk h. at-first level chunk; goes = goes-none u base (λ _. level) w is first }

pub way-last : (u : Unrolling) (base : PlaneSet) (level time : ℕ) (some : Bool) (start w : Wavefront) → chunks_in u + 3 ≤ time → IsUnderWay u base level time 0 some start w → GoesOn u base (λ _. level + 4) some start w
way-last u base level time some start w all way =
    goes-same u base way.levels (λ _. level + 4) (λ chunk h. (way.at chunk h).done (omega (arith, h, all))) some start w way.goes

-- one of three or the rest
pub or-then : (a b c : Bool) → (a || (b || c)) ≡ ((a || b) || c)
or-then true b c = refl
or-then false b c = refl
