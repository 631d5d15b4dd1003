use Rattle.std.proofs.Common.{◌≡◌, ◌∷◌, ◌++◌, [], map, take}
use Rattle.dump_reader.specs.Recording.{tri_bit}
use Rattle.dump_reader.specs.Print.{bit_character}
use Rattle.dump_reader.proofs.printer.push_row.Given as goal

abbrev pub invariant-loop-cell : goal.invariant-loop-cell
invariant-loop-cell l = l.text.items ≡ l.fn.text.items ++ (l.name ++ 32 ∷ [] ++ map (λ cell. bit_character (tri_bit cell)) (take l.cell-index l.cells))
