use Rattle.std.proofs.Common.{◌≡◌, map, take, Some}
use Rattle.dump_reader.specs.Recording.{tri_bit}
use Rattle.dump_reader.specs.Grammar.{bit_read}
use Rattle.dump_reader.proofs.row.read_cells.Given as goal

abbrev pub invariant-loop-character : goal.invariant-loop-character
invariant-loop-character l = map bit_read (take l.character-index l.characters) ≡ map (λ cell. Some (tri_bit cell)) l.cells.items
