-- Counts that stand still at the greatest u64.
use Rattle.std.specs.Prelude.{ℕ, ◌+◌, ◌-◌, ◌^◌, ◌≤◌, min}

-- the count, k later
abbrev pub count_after : ℕ → ℕ → ℕ
count_after count k = min (count + k) (2 ^ 64 - 1)

-- One more was counted between these two moments; a count that stands at its end counts as risen.
-- (Where "rose" means only that the number is greater than before, a clause says before < after.)
abbrev pub IsCounted : ℕ → ℕ → Type 0
IsCounted before after = count_after before 1 ≤ after
