-- What contracts see of a list that knows its room.
use Rattle.std.specs.Prelude.{ℕ, List, map}

-- the items, and how many it holds without more memory
pub record WithRoom (X : Type 0) : Type 0 where
  pub items : List X
  pub room : ℕ

-- the names of a list of names
abbrev pub texts : WithRoom (WithRoom ℕ) → List (List ℕ)
texts names = map (λ name. name.items) names.items
