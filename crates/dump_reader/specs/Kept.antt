-- How a dump keeps its rows.
use Rattle.std.specs.Prelude.{ℕ, ◌≡◌, ◌≢◌, ◌*◌, ◌↔◌, Bool, false, IsTrue, List, [], ◌∷◌, length, take, drop, slice_index_or, Contains}
use Rattle.std.specs.List.{AllPairs}
use Rattle.sr_model.specs.declared.cells.Sig.{Sig}
use Rattle.sr_model.specs.Dump.{Row}
use Rattle.dump_reader.specs.declared.dump.Tri.{Tri}
use Rattle.dump_reader.specs.Recording.{IsCount, row_of}

-- the rows of these signals, whose cells stand one row behind the other
abbrev pub rows_of : ℕ → List Sig → List Tri → List Row
rows_of cycles [] cells = []
rows_of cycles (sig ∷ sigs) cells = row_of sig (take cycles cells) ∷ rows_of cycles sigs (drop cycles cells)

-- whether signal i has a row, in a list that ends behind the last that has one
abbrev pub is_marked : List Bool → ℕ → Bool
is_marked marks i = slice_index_or marks i false

-- a cell for each cycle of each row, no signal twice, and a mark at each signal that has a row
pub record IsKept (cycles : ℕ) (sigs : List Sig) (cells : List Tri) (marks : List Bool) : Type 0 where
  pub count : IsCount cycles
  pub full : length cells ≡ length sigs * cycles
  pub once : AllPairs (λ a b. a ≢ b) sigs
  pub marked : (sig : Sig) → IsTrue (is_marked marks sig.0) ↔ Contains sigs sig
