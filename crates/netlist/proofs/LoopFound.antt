-- Drivers have a loop, to which the walk comes, or none.
use Rattle.std.proofs.Common.{ℕ, zero, suc, ◌≡◌, ◌+◌, ◌-◌, ◌<◌, ◌≤◌, ◌⊎◌, Bool, true, false, List, [], ◌∷◌, length, get_or, set, replicate, Option, Some, None, refl, inl, inr, arith, count_by}
use Rattle.std.proofs.lemmas.Bool.{cases_Bool}
use Rattle.sr_model.specs.declared.cells.Sig.{Sig}
use Rattle.sr_model.specs.Netlist.{Driver}
use Rattle.netlist.specs.Loops.{HasNoLoop, IsLoop}
use Rattle.netlist.specs.Ranking.{MarksFed, pin_at, pins_at}
use Rattle.netlist.proofs.Marks.{number, marked_within}
use Rattle.netlist.proofs.Ranking.{with_ranks, with_fed, ranked_or_fed, ranks_exclude_loops, pins_cases}
use Rattle.netlist.proofs.Walks.{Walking, Walking-begins, Walking-goes, Walking-ends, count-met, first_is_next, is_open}

abbrev HasLoop : List Driver → Type 0
HasLoop drivers = (name : Sig) × (steps : ℕ) × IsLoop drivers name steps

-- the first mark
record IsFirstMark (marks : List Bool) (s : ℕ) : Type 0 where
  marked : get_or marks s false ≡ true
  least : (t : ℕ) → get_or marks t false ≡ true → s ≤ t

first_mark : (marks : List Bool) (s : ℕ) → get_or marks s false ≡ true → (first : ℕ) × IsFirstMark marks first
first_mark [] s marked = absurd cc
first_mark (mark ∷ marks) s marked =
    elim (cases_Bool mark) [
      | inl is ↦ (0, record { marked = is; least = λ t h. omega arith })
      | inr not ↦ let later = first_mark marks (before s not marked) (there s not marked) in (suc later.0, record { marked = later.1.marked; least = least not later.0 later.1 })
    ] where
      before : (s : ℕ) → mark ≡ false → get_or (mark ∷ marks) s false ≡ true → ℕ
      before zero not is = 0
      before (suc s) not is = s

      there : (s : ℕ) (not : mark ≡ false) (is : get_or (mark ∷ marks) s false ≡ true) → get_or marks (before s not is) false ≡ true
      there zero not is = absurd cc
      there (suc s) not is = is

      least : mark ≡ false → (first : ℕ) → IsFirstMark marks first → (t : ℕ) → get_or (mark ∷ marks) t false ≡ true → suc first ≤ t
      least not first is zero h = absurd cc
      least not first is (suc t) h = let le : first ≤ t = is.least t h in omega arith

-- the walk comes to a loop: each signal that it meets is one that it had not met
module _ (drivers : List Driver) (marks : List Bool) (are : MarksFed drivers marks) where
  goes_on : (met : List (Option ℕ)) (s : Sig) (steps : ℕ) → Walking drivers marks met s steps → get_or met s.0 None ≡ None → (next : Sig) × Walking drivers marks (set met s.0 (Some steps)) next (steps + 1)
  goes_on met s steps w new =
      let within : s.0 < length marks = marked_within marks s.0 w.marked in
      let size : length marks ≡ length drivers = are.size in
      elim (pins_cases marks (pins_at drivers s.0)) [
        | inl none ↦ let found = first_is_next drivers marks s (length (pins_at drivers s.0)) are w.marked (omega arith) none in absurd (let below : _ < length (pins_at drivers s.0) = found.0 in omega arith)
        | inr pin ↦
            let below : pin.0 < length (pins_at drivers s.0) = pin.1.below in
            let found = first_is_next drivers marks s pin.0 are w.marked (omega arith) pin.1.before in
            let next : Sig = pin_at (pins_at drivers s.0) pin.0 in
            (next, Walking-goes drivers marks met s next steps w (omega arith) new (found.1 pin.1.marked) pin.1.marked)
      ]

  -- by how many signals it has not met
  comes : (m : ℕ) (met : List (Option ℕ)) (s : Sig) (steps : ℕ) → Walking drivers marks met s steps → count_by is_open met ≤ m → (o : Option ℕ) → get_or met s.0 None ≡ o → HasLoop drivers
  comes m met s steps w few (Some step) is = (s, steps - step, (Walking-ends drivers marks met s steps step w is).1)
  comes zero met s steps w few None is =
      let within : s.0 < length marks = marked_within marks s.0 w.marked in
      let size : length marks ≡ length drivers = are.size in
      let long : length met ≡ length drivers = w.size in
      let less : count_by is_open (set met s.0 (Some steps)) + 1 ≡ count_by is_open met = count-met met s.0 steps (omega arith) is in
      absurd (omega arith)
  comes (suc m) met s steps w few None is =
      let within : s.0 < length marks = marked_within marks s.0 w.marked in
      let size : length marks ≡ length drivers = are.size in
      let long : length met ≡ length drivers = w.size in
      let less : count_by is_open (set met s.0 (Some steps)) + 1 ≡ count_by is_open met = count-met met s.0 steps (omega arith) is in
      let on = goes_on met s steps w is in
      comes m (set met s.0 (Some steps)) on.0 (steps + 1) on.1 (omega arith) (get_or (set met s.0 (Some steps)) on.0.0 None) refl

  loop_of : (s : ℕ) → get_or marks s false ≡ true → HasLoop drivers
  loop_of s marked =
      let first = first_mark marks s marked in
      let met : List (Option ℕ) = replicate (length drivers) None in
      comes (count_by is_open met) met (number first.0) 0 (Walking-begins drivers marks (number first.0) are first.1.marked first.1.least) (omega arith) (get_or met first.0 None) refl

pub loop_or_none : (drivers : List Driver) → HasNoLoop drivers ⊎ ((name : Sig) × (steps : ℕ) × IsLoop drivers name steps)
loop_or_none drivers =
    elim (ranked_or_fed drivers) [
      | with_ranks ranks is_rank ↦ inl (ranks_exclude_loops drivers ranks is_rank)
      | with_fed marks are s marked ↦ inr (loop_of drivers marks are s marked)
    ]
