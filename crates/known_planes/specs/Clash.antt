-- Which bits of the planes are set in both words, and the literals in which a chunk's clashes are looked for.
use Rattle.std.specs.Prelude.{ℕ, ◌≡◌, ◌/◌, ◌&&◌, Bool}
use Rattle.sr_model.specs.declared.cells.Lit.{Lit}
use Rattle.unroll.specs.Bits.{is_set}
use Rattle.unroll.specs.Problem.{Unrolling}
use Rattle.known_planes.specs.Planes.{PlaneSet, lits, pair_in}

-- whether bit i is set in both words of a signal in a chunk
abbrev pub has_both_at : PlaneSet → ℕ → ℕ → ℕ → Bool
has_both_at planes s chunk i = is_set (pair_in planes s chunk).zero i && is_set (pair_in planes s chunk).one i

-- the literals of the planes that are of cells in a chunk
abbrev pub lits_in_chunk : Unrolling → PlaneSet → ℕ → Lit → Type 0
lits_in_chunk u planes chunk l = lits u planes l × (l.cell.cycle / 64 ≡ chunk)
