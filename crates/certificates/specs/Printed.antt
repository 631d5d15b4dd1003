-- The text of a certificate as it is printed.
use Rattle.std.specs.Prelude.{ℕ, List, [], ◌∷◌, ◌++◌, map, codes, Option, Some, None, slice_index_or}
use Rattle.std.specs.List.{flat_map}
use Rattle.std.specs.Fmt.{decimal}
use Rattle.sr_model.specs.declared.cells.Cell.{Cell}
use Rattle.sr_model.specs.declared.cells.Sig.{Sig}
use Rattle.sr_text.specs.Lines.{with_line_feed}
use Rattle.certificates.specs.declared.claim.Fact.{Fact}
use Rattle.certificates.specs.Forms.{format, version, by_word, end_word, contradiction_word, digit}

-- the two words of the first line
abbrev pub head_line : List ℕ
head_line = format ++ codes " " ++ version

-- a signal's name and a cycle
abbrev pub at_cycle : List (List ℕ) → Sig → ℕ → List ℕ
at_cycle names sig cycle = slice_index_or names sig.0 [] ++ codes " " ++ decimal cycle

-- a literal, and the place that forces it
abbrev pub fact_line : List (List ℕ) → Fact → List ℕ
fact_line names fact =
    at_cycle names fact.lit.cell.sig fact.lit.cell.cycle ++ codes " " ++ digit fact.lit.bit ++ codes " " ++ by_word ++ codes " " ++ at_cycle names fact.place.target fact.place.cycle

-- the end, or a contradiction
abbrev pub last_line : List (List ℕ) → Option Cell → List ℕ
last_line names None = end_word
last_line names (Some cell) = contradiction_word ++ codes " " ++ at_cycle names cell.sig cell.cycle

abbrev pub cert_lines : List (List ℕ) → List Fact → Option Cell → List (List ℕ)
cert_lines names facts clash = head_line ∷ map (fact_line names) facts ++ last_line names clash ∷ []

-- each line with its line feed
abbrev pub cert_text : List (List ℕ) → List Fact → Option Cell → List ℕ
cert_text names facts clash = flat_map with_line_feed (cert_lines names facts clash)
