-- The lines of a text, and those that say something.
use Rattle.std.specs.Prelude.{ℕ, ◌≡◌, ◌+◌, ◌==◌, List, [], ◌∷◌, ◌++◌, length, map, if◌then◌else◌}
use Rattle.bstr.specs.Text.{lines_of, without_terminator}
use Rattle.sr_text.specs.Text.{cut_line}

-- the lines of a text, without their line feeds
abbrev pub text_lines : List ℕ → List (List ℕ)
text_lines text = map without_terminator (lines_of text)

-- the lines, cut, that are not empty then, each with its number, where lines count from a number on
abbrev pub numbered_from : ℕ → List (List ℕ) → List (ℕ × List ℕ)
numbered_from number [] = []
numbered_from number (line ∷ lines) =
    let text = cut_line line in
    if length text == 0 then numbered_from (number + 1) lines else (number, text) ∷ numbered_from (number + 1) lines

-- lines count from 1
abbrev pub numbered : List ℕ → List (ℕ × List ℕ)
numbered text = numbered_from 1 (text_lines text)

-- the number that a line behind the last would have
abbrev pub past_end : List ℕ → ℕ
past_end text = length (text_lines text) + 1

-- how many lines of a text have been passed, and the lines that are left
pub record LinesLeft : Type 0 where
  pub passed : ℕ
  pub lines : List (List ℕ)

-- the lines that are left, and say something
abbrev pub rest_of : LinesLeft → List (ℕ × List ℕ)
rest_of left = numbered_from (left.passed + 1) left.lines

-- the number that a line behind the last would have
abbrev pub past : LinesLeft → ℕ
past left = left.passed + length left.lines + 1

abbrev pub with_line_feed : List ℕ → List ℕ
with_line_feed line = line ++ 10 ∷ []

-- Lines say some things, and the line behind them, which has this number, is bad in some way, which may depend on those things.
pub record FirstFault {X : Type 0} (Say : List (ℕ × List ℕ) → List X → Type 0) (IsFault : List X → List ℕ → Type 0) (lines : List (ℕ × List ℕ)) (number : ℕ)
    : Type 0 where
  pub before : List (ℕ × List ℕ)
  pub bad : List ℕ
  pub after : List (ℕ × List ℕ)
  pub whole : lines ≡ before ++ (number, bad) ∷ after
  pub said : List X
  pub say : Say before said
  pub fault : IsFault said bad
