-- The laws of an answer, for all words and all that the inputs hold.
use Rattle.std.specs.Prelude.{ℕ, ◌≡◌, ◌≤◌, Bool, List, length, IsSome, Some}
use Rattle.sr_model.specs.declared.cells.Cell.{Cell}
use Rattle.sr_model.specs.declared.cells.Sig.{Sig}
use Rattle.sr_model.specs.Closure.{HasBoth, IsWithin}
use Rattle.sr_model.specs.Netlist.{Valuation, Has}
use Rattle.sr_outside.specs.Told.{Held}
use Rattle.netlist.specs.Circuit.{Circuit}
use Rattle.dump_reader.specs.Recording.{Recording}
use Rattle.cycle_sim.specs.Simulation.{IsSimulated, traced_rows}
use Rattle.restore_program.specs.declared.status.Status.{Status}
use Rattle.report.specs.declared.refusal.Part.TheVariants as parts
use Rattle.restore_program.specs.Texts.{KnownFrom, most_bytes}
use Rattle.restore_program.specs.Answer.{Answer, RequestAnswer}
use Rattle.restore_program.specs.Reply.{IsResult}
use Rattle.restore_program.specs.Faults.{IsComeTo}
use Rattle.restore_program.specs.Requests.{File, Request, Asks, certification, checking, files_of}
use Rattle.restore_program.specs.Sound.{IsAccepted, IsCompleted}

-- there is one answer at most
abbrev pub HasOneAnswer : Type 0
HasOneAnswer = (words : List (List ℕ)) (held : Held) (text other : List ℕ) (status last : Status) → Answer words held text status → Answer words held other last → (text ≡ other) × (status ≡ last)

-- each file that is come to on what is asked for is held
abbrev pub IsServed : Held → Request → Type 0
IsServed held request = (file : File) → IsComeTo (Some held) (files_of request) file → IsSome (held file.1)

-- there is an answer wherever the inputs that are come to are held
abbrev pub AnswerExists : Type 0
AnswerExists = (words : List (List ℕ)) (held : Held) → ((request : Request) → Asks words request → IsServed held request) → (text : List ℕ) × (status : Status) × Answer words held text status

-- where what is asked for is accepted, each answer completes it
abbrev pub AcceptedIsCompleted : Type 0
AcceptedIsCompleted =
    (words : List (List ℕ)) (held : Held) (request : Request) → Asks words request → IsAccepted held request → (text : List ℕ) (status : Status) → Answer words held text status → IsCompleted request status

-- what is certified is accepted by a check for the same netlist and dump, unless it is too long
abbrev pub CertifiedIsAccepted : Type 0
CertifiedIsAccepted =
    (held : Held) (netlist dump certificate text : List ℕ) (status : Status) → RequestAnswer held (certification netlist dump) text status → IsResult status → held certificate ≡ Some text
    → length text ≤ most_bytes parts.Certificate → IsAccepted held (checking netlist dump certificate)

-- what is known from the trace of a simulated execution are bits of the execution, and so is no contradiction
abbrev pub TraceIsSimulated : Type 0
TraceIsSimulated =
    (c : Circuit) (cycles : ℕ) (given : ℕ → ℕ → Bool) (v : Valuation) (sigs : List Sig) → IsSimulated c cycles given v
    → let trace : Recording = record { cycles = cycles; rows = traced_rows v cycles sigs } in
    IsWithin (KnownFrom c trace) (Has v) × ((cell : Cell) → HasBoth (KnownFrom c trace) cell → ⊥)
