-- What is written of a certificate, and what of a check.
use Rattle.std.specs.Prelude.{ℕ, ◌≡◌, List, length, Option, Some, None}
use Rattle.sr_model.specs.declared.cells.Cell.{Cell}
use Rattle.sr_model.specs.Closure.{passing}
use Rattle.sr_model.specs.Dump.{dump_has}
use Rattle.netlist.specs.Circuit.{Circuit, unrolled_over}
use Rattle.dump_reader.specs.Recording.{Recording}
use Rattle.plain_close.specs.declared.log.Step.{Step}
use Rattle.plain_close.specs.Log.{IsLog}
use Rattle.certificates.specs.declared.claim.Fact.{Fact}
use Rattle.certificates.specs.Logs.{facts_of}
use Rattle.certificates.specs.Printed.{cert_text}
use Rattle.report.specs.Check.{checked_text}
use Rattle.restore_program.specs.declared.status.Status.{Status}
use Rattle.restore_program.specs.declared.status.Status.TheVariants as statuses
use Rattle.restore_program.specs.Texts.{IsCertificateText, RefusedCertificate, given_rows}

-- how a run ends with a contradiction, or without one
abbrev pub ends_with : Option Cell → Status
ends_with None = statuses.Done
ends_with (Some cell) = statuses.Contradiction

-- level by level, the steps to all that follows from a recording, or to its first contradiction
abbrev pub IsLogOf : Circuit → Recording → List Step → Option Cell → Type 0
IsLogOf c d steps clash = IsLog (unrolled_over c d.cycles) (passing (dump_has (given_rows d))) steps clash

-- on a recording that is certified
pub data OnCertify (c : Circuit) (d : Recording) : List ℕ → Status → Type 0 where
  certified : (steps : List Step) (clash : Option Cell) → IsLogOf c d steps clash → OnCertify c d (cert_text c.names (facts_of steps) clash) (ends_with clash)

-- on a certificate's text that is checked
pub data OnCheck (c : Circuit) (d : Recording) (bytes : List ℕ) : List ℕ → Status → Type 0 where
  not_accepted : (text : List ℕ) (status : Status) → RefusedCertificate c d bytes text status → OnCheck c d bytes text status
  is_accepted : (facts : List Fact) (clash : Option Cell) → IsCertificateText c d bytes facts clash → OnCheck c d bytes (checked_text c (length facts) clash) (ends_with clash)
