-- What is written with each status.
use Rattle.std.specs.Prelude.{ℕ, ◌≡◌, Bool, List, Option}
use Rattle.sr_outside.specs.Told.{Held}
use Rattle.report.specs.declared.refusal.Part.{Part}
use Rattle.report.specs.InputRefusals.{fault_line, no_memory_line}
use Rattle.restore_program.specs.declared.status.Status.{Status}
use Rattle.restore_program.specs.declared.status.Status.TheVariants as statuses
use Rattle.restore_program.specs.Answer.{Answer}
use Rattle.restore_program.specs.Faults.{IsWordsFault, TellsEnough}

-- The text that is written with a status. Where it is told what the inputs hold, and where the words need none, both are the answer.
abbrev pub Says : List (List ℕ) → Option Held → Option (List ℕ → Bool) → List ℕ → Status → Type 0
Says words told shaky text statuses.ReadFault = (part : Part) × (text ≡ fault_line part) × IsWordsFault words told shaky part
Says words told shaky text statuses.NoMemory = text ≡ no_memory_line
Says words told shaky text statuses.WriteFault = ⊥
Says words told shaky text status = (held : Held) → TellsEnough words told held → Answer words held text status
