use Rattle.std.proofs.Common.{◌≡◌, ◌+◌, ◌*◌, ◌++◌, length, take}
use Rattle.std.specs.Prelude.{min}
use Rattle.known_planes.specs.Planes.{has}
use Rattle.report.specs.Rows.{cells_text}
use Rattle.report.proofs.table.fill_cells.Given as goal

-- the characters of the chunks so far are there
abbrev pub invariant-loop-chunk : goal.invariant-loop-chunk
invariant-loop-chunk l = record {
  size : length l.bytes ≡ length l.initial.bytes;
  text : take (l.start + min (64 * l.chunk) l.p.cycles) l.bytes ≡ take l.start l.initial.bytes ++ cells_text (has l.p l.planes) l.sig (min (64 * l.chunk) l.p.cycles);
}
