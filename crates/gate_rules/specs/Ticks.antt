-- A count that stands still at the greatest u64.
use Rattle.std.specs.Prelude.{ℕ, ◌+◌, ◌-◌, ◌^◌, ◌≤◌, min}

-- the greatest u64
abbrev pub greatest_number : ℕ
greatest_number = 2 ^ 64 - 1

-- the count, one later
abbrev pub ticked : ℕ → ℕ
ticked count = min (count + 1) greatest_number

-- what contracts see of a count
pub record Counted : Type 0 where
  pub number : ℕ
  pub few : number ≤ greatest_number
