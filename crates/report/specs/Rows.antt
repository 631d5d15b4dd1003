-- The parts of which the text of a table is made.
use Rattle.std.specs.Prelude.{ℕ, Bool, true, false, List, map, Option, Some, None, if◌then◌else◌}
use Rattle.std.specs.List.{flat_map, range_with_len}
use Rattle.sr_model.specs.declared.cells.Sig.{Sig}
use Rattle.sr_model.specs.declared.cells.Lit.{Lit}
use Rattle.netlist.specs.Circuit.{Circuit}
use Rattle.sr_text.specs.Lines.{with_line_feed}
use Rattle.dump_reader.specs.Print.{bit_character, row_text}
use Rattle.unroll.specs.declared.words.PinWord.{PinWord}
use Rattle.unroll.specs.Bits.{is_set}
use Rattle.report.specs.Table.{known_bit, known_row}

-- the line of a signal
abbrev pub row_line : Circuit → ℕ → (Lit → Bool) → Sig → List ℕ
row_line c cycles known sig = with_line_feed (row_text c.names (known_row known cycles sig))

-- the lines of these signals
abbrev pub row_lines : Circuit → ℕ → (Lit → Bool) → List Sig → List ℕ
row_lines c cycles known sigs = flat_map (row_line c cycles known) sigs

-- the characters of a signal's first cycles
abbrev pub cells_text : (Lit → Bool) → Sig → ℕ → List ℕ
cells_text known sig cycles = map (λ t. bit_character (known_bit known t sig)) (range_with_len 0 cycles)

-- what the words of a chunk have of its cycle i
abbrev pub word_bit : PinWord → ℕ → Option Bool
word_bit words i = if is_set words.zero i then Some false else (if is_set words.one i then Some true else None)

-- the characters of a chunk's first cycles
abbrev pub word_text : PinWord → ℕ → List ℕ
word_text words count = map (λ i. bit_character (word_bit words i)) (range_with_len 0 count)
