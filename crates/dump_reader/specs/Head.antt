-- The first two lines of a dump.
use Rattle.std.specs.Prelude.{ℕ, List, ◌++◌, codes}
use Rattle.std.specs.Fmt.{decimal}

-- the words of the first line: the format and its version
abbrev pub format : List ℕ
format = codes "srdump"

abbrev pub version : List ℕ
version = codes "1"

-- the word before the number of cycles
abbrev pub cycles_word : List ℕ
cycles_word = codes "cycles"

-- both lines up to the number of cycles
abbrev pub head_start : List ℕ
head_start = format ++ codes " " ++ version ++ codes "\n" ++ cycles_word ++ codes " "

-- both lines as they are printed
abbrev pub head_text : ℕ → List ℕ
head_text cycles = head_start ++ decimal cycles ++ codes "\n"
