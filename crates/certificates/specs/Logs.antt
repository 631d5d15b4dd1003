-- The facts of a log.
use Rattle.std.specs.Prelude.{ℕ, ◌<◌, ⊤, List, map, length, Option, Some, None}
use Rattle.std.specs.List.{All}
use Rattle.sr_model.specs.declared.cells.Cell.{Cell}
use Rattle.sr_model.specs.Closure.{passing}
use Rattle.sr_model.specs.Dump.{dump_has}
use Rattle.netlist.specs.Circuit.{Circuit, IsCircuit, unrolled_over}
use Rattle.dump_reader.specs.Recording.{Recording, IsRecording}
use Rattle.plain_close.specs.declared.log.Step.{Step}
use Rattle.plain_close.specs.Log.{IsLog}
use Rattle.certificates.specs.declared.claim.Fact.{Fact}
use Rattle.certificates.specs.Printed.{cert_text}
use Rattle.certificates.specs.Validity.{IsValid}

-- what a step says
abbrev pub fact_of : Step → Fact
fact_of step = record { lit = step.lit; place = step.place }

abbrev pub facts_of : List Step → List Fact
facts_of steps = map fact_of steps

-- the signals of the literal and of the place are there
abbrev pub IsStepIn : ℕ → Step → Type 0
IsStepIn signals step = (step.lit.cell.sig.0 < signals) × (step.place.target.0 < signals)

-- so is the signal of the contradiction
abbrev pub IsClashIn : ℕ → Option Cell → Type 0
IsClashIn signals None = ⊤
IsClashIn signals (Some cell) = cell.sig.0 < signals

-- the signals of a log are there
abbrev pub LogsAreIn : Type 0
LogsAreIn =
    (c : Circuit) (d : Recording) (steps : List Step) (clash : Option Cell) → IsCircuit c → IsRecording d → All (λ row. row.sig.0 < length c.drivers) d.rows
    → IsLog (unrolled_over c d.cycles) (passing (dump_has d.rows)) steps clash → All (IsStepIn (length c.drivers)) steps × IsClashIn (length c.drivers) clash

-- the printed text of a dump's log is a valid certificate of its steps and its clash
abbrev pub PrintedIsValid : Type 0
PrintedIsValid =
    (c : Circuit) (d : Recording) (steps : List Step) (clash : Option Cell) → IsCircuit c → IsRecording d → All (λ row. row.sig.0 < length c.drivers) d.rows
    → IsLog (unrolled_over c d.cycles) (passing (dump_has d.rows)) steps clash → IsValid c d (cert_text c.names (facts_of steps) clash) (facts_of steps) clash
