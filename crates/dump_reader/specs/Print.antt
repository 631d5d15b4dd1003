-- The printed form of a dump.
use Rattle.std.specs.Prelude.{ℕ, Bool, true, false, List, [], ◌∷◌, ◌++◌, map, codes, Option, Some, None, slice_index_or}
use Rattle.std.specs.List.{flat_map}
use Rattle.std.specs.Fmt.{decimal}
use Rattle.sr_text.specs.Lines.{with_line_feed}
use Rattle.sr_model.specs.Dump.{Row}
use Rattle.dump_reader.specs.Head.{cycles_word, format, version}
use Rattle.dump_reader.specs.Recording.{Recording}

-- 0, 1 or x
abbrev pub bit_character : Option Bool → ℕ
bit_character (Some false) = 48
bit_character (Some true) = 49
bit_character None = 120

-- a row's name, one space, and a character for each cycle
abbrev pub row_text : List (List ℕ) → Row → List ℕ
row_text names row = slice_index_or names row.sig.0 [] ++ codes " " ++ map bit_character row.bits

-- the lines of a dump of a netlist with these names
abbrev pub printed_lines : List (List ℕ) → Recording → List (List ℕ)
printed_lines names r = (format ++ codes " " ++ version) ∷ (cycles_word ++ codes " " ++ decimal r.cycles) ∷ map (row_text names) r.rows

-- each line with its line feed
abbrev pub printed : List (List ℕ) → Recording → List ℕ
printed names r = flat_map with_line_feed (printed_lines names r)
