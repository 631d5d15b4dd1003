-- How numbers are written.
use Rattle.std.specs.Prelude.{ℕ, ◌+◌, ◌/◌, ◌%◌, List, [], ◌∷◌, ◌++◌, length, drop, codes}
use Rattle.std.specs.Fmt.{decimal}

-- the digit of the ones
abbrev pub last_digit : ℕ → ℕ
last_digit n = 48 + n % 10

-- a number of thousandths: the whole part, a point and three digits
abbrev pub thousandths : ℕ → List ℕ
thousandths n = decimal (n / 1000) ++ codes "." ++ last_digit (n / 100) ∷ last_digit (n / 10) ∷ last_digit n ∷ []

-- a text put in place of the first bytes of another
abbrev pub put_front : List ℕ → List ℕ → List ℕ
put_front text bytes = text ++ drop (length text) bytes
