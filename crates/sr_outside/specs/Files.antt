-- What contracts see of files that are read by name, and of a writer that is a sink.
use Rattle.std.specs.Prelude.{ℕ, Bool, List, Option}

-- whether one is started, the bytes of it that were not read, if its reader tells them, and the counts
pub record Counted : Type 0 where
  pub live : Bool
  pub left : Option (List ℕ)
  pub starts : ℕ
  pub taken : ℕ
  pub faults : ℕ

-- the bytes that the writer holds, if it tells them, and the faults
pub record Written : Type 0 where
  pub contents : Option (List ℕ)
  pub faults : ℕ
