-- What always holds of the shared word and of what the sides know.
use Rattle.std.specs.Prelude.{ℕ, zero, suc, ◌≡◌, ◌+◌, ◌-◌, ◌<◌, ◌≤◌, min, nat_lt, Bool, true, false, [], ◌∷◌, ◌++◌, length, slice_index}
use Rattle.std.specs.List.{sum_by}
use mathlib.Core.Option.{some}
use lib.ListN.{get_elem?}
use Rattle.atomic_table.specs.Table.{State}
use Rattle.steal_queue.specs.declared.rule.DealSize.{DealSize}
use Rattle.steal_queue.specs.declared.rule.Drawn.{Drawn}

-- so many sides that have drawn nothing
abbrev pub nothing_drawn : ℕ → Drawn
nothing_drawn sides = record { sides = sides; done = 0; numbers = [] }

abbrev pub all_sides : DealSize → Drawn
all_sides size = nothing_drawn size.sides

-- the same without one side, which has drawn nothing
abbrev pub one_less : Drawn → Drawn
one_less v = record { sides = v.sides - 1; done = v.done; numbers = v.numbers }

-- what two seats know together
abbrev pub together : Drawn → Drawn → Drawn
together v w = record { sides = v.sides + w.sides; done = v.done + w.done; numbers = v.numbers ++ w.numbers }

-- after a draw that found this number: it is drawn, or it was none of the queue
abbrev pub drew_if : Bool → ℕ → Drawn → Drawn
drew_if true found v = record { sides = v.sides; done = v.done; numbers = v.numbers ++ found ∷ [] }
drew_if false found v = record { sides = v.sides; done = v.done + 1; numbers = v.numbers }

abbrev pub drew : ℕ → ℕ → Drawn → Drawn
drew chunks found v = drew_if (nat_lt found chunks) found v

-- g of each number below n, added up
abbrev pub sum_below : (ℕ → ℕ) → ℕ → ℕ
sum_below g zero = 0
sum_below g (suc n) = sum_below g n + g n

-- what holds of each seat, where the next number is this
pub record Knows (next : ℕ) (size : DealSize) (v : Drawn) : Type 0 where
  pub empty : 0 < v.done → size.chunks ≤ next
  pub few : v.done ≤ v.sides
  pub idle : v.sides ≡ 0 → v.numbers ≡ []

-- The rule: the numbers that all sides drew are those below the next one and below `chunks`, each once. That is said by sums: however each number is weighed, those drawn and
-- those below weigh the same
pub record IsDealt (size : DealSize) (s : State (Unit {0}) Drawn) : Type 0 where
  pub one_word : length s.words ≡ 1
  pub each_once : (g : ℕ → ℕ) → sum_by (λ v. sum_by g v.numbers) s.views ≡ sum_below g (min (slice_index s.words 0) size.chunks)
  pub low : slice_index s.words 0 ≤ size.chunks + sum_by (λ v. v.done) s.views
  pub whole : sum_by (λ v. v.sides) s.views ≡ size.sides
  pub seats : (j : ℕ) (v : Drawn) → get_elem? s.views j ≡ some v → Knows (slice_index s.words 0) size v
