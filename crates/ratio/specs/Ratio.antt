-- How many values are known for each one that was traced.
use Rattle.std.specs.Prelude.{ℕ, zero, suc, ◌*◌, ◌/◌, Option, Some, None}

-- the numbers of known and of traced values
pub record Counts : Type 0 where
  pub known : ℕ
  pub traced : ℕ

-- known over traced in thousandths, rounded down; none where nothing was traced
abbrev pub in_thousandths : (known traced : ℕ) → Option ℕ
in_thousandths known zero = None
in_thousandths known (suc more) = Some (known * 1000 / suc more)
