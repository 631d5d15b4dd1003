-- What the reading of files does to the inputs.
use Rattle.std.specs.Prelude.{◌≡◌, ◌<◌, ◌≤◌, ℕ, Bool, List, Option, IsSome, IfSome}
use Rattle.sr_outside.specs.Counts.{IsCounted}
use Rattle.sr_outside.specs.Told.{Held}
use Rattle.report.specs.declared.refusal.Part.{Part}
use Rattle.restore_program.specs.Faults.{AreAllSteady, IsFaultOf}
use Rattle.restore_program.specs.Requests.{File}

-- Files of which this holds were read, and the answer says of a part that it was not read, if of one. It says so only where a fault was counted, and of a part
-- whose file may fail; and where one was counted it says so. What is held and what is shaky stay as they were.
pub record Reads {I : Type 0} (held : I → Option Held) (shaky : I → Option (List ℕ → Bool)) (faults : I → ℕ) (before after : I) (Of : File → Type 0) (unread : Option Part) : Type 0 where
  pub counted : IsSome unread → IsCounted (faults before) (faults after)
  pub rose : faults before < faults after → IsSome unread
  pub never_falls : faults before ≤ faults after
  pub steady : AreAllSteady (held before) (shaky before) Of → faults after ≡ faults before
  pub cause : IfSome unread (IsFaultOf (held before) (shaky before) Of)
  pub same_held : held after ≡ held before
  pub same_shaky : shaky after ≡ shaky before
