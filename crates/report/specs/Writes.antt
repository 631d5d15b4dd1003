-- What the writing of a text does to a sink.
use Rattle.std.specs.Prelude.{◌≡◌, ◌<◌, ◌≤◌, ℕ, List, Option, Result, IsErr, OnOk, OnErr}
use Rattle.std.specs.Io.KnownBytes.{append_known}
use Rattle.sr_outside.specs.declared.write.WriteFault.{WriteFault}
use Rattle.sr_outside.specs.Counts.{IsCounted}
use Rattle.sr_outside.specs.Told.{AppendsPart, IsFull, LacksPlace}

-- The whole text was appended and no fault counted, or a proper front of it was, the room is used up and a fault was counted: so there was no room for the whole text. The room is as it was.
pub record Writes {K : Type 0} (written : K → Option (List ℕ)) (room : K → Option ℕ) (faults : K → ℕ) (before after : K) (answer : Result (Unit {0}) WriteFault) (text : List ℕ) : Type 0 where
  pub appended : OnOk answer (written after ≡ append_known (written before) text)
  pub uncounted : OnOk answer (faults after ≡ faults before)
  pub part : OnErr answer (AppendsPart (written before) (written after) text)
  pub full : OnErr answer (IsFull (written after) (room after))
  pub lacks : OnErr answer (LacksPlace (written before) (room before) text)
  pub counted : OnErr answer (IsCounted (faults before) (faults after))
  pub rose : faults before < faults after → IsErr answer
  pub never_falls : faults before ≤ faults after
  pub same_room : room after ≡ room before
