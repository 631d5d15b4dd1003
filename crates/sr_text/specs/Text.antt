-- The bytes of a line: its blanks, what stands before its comment, and its tokens.
use Rattle.std.specs.Prelude.{ℕ, ◌+◌, ◌-◌, ◌==◌, ◌||◌, Bool, List, length, take, drop, nat_lt, if◌then◌else◌, Option, Some, None}
use Rattle.std.specs.List.{prefix_len, suffix_len, position_or_len, before_first}

-- tab, carriage return or space
abbrev pub is_blank : ℕ → Bool
is_blank b = b == 9 || b == 13 || b == 32

-- the text from its first byte that is not blank on
abbrev pub skip_blanks : List ℕ → List ℕ
skip_blanks text = drop (prefix_len is_blank text) text

-- the text up to its last byte that is not blank
abbrev pub drop_end_blanks : List ℕ → List ℕ
drop_end_blanks text = take (length text - suffix_len is_blank text) text

-- what stands before the first #, without blanks at either end
unfoldable pub cut_line : List ℕ → List ℕ
cut_line line = drop_end_blanks (skip_blanks (before_first (λ b. b == 35) line))

-- the first run of bytes that are not blank, at or after a place: its start and its end
unfoldable pub token_at : List ℕ → ℕ → Option (ℕ × ℕ)
token_at line from =
    let start = from + prefix_len is_blank (drop from line) in
    if nat_lt start (length line) then Some (start, start + position_or_len is_blank (drop start line)) else None
