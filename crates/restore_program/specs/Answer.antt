-- What a run is to write, and how it is to end, by the words and the bytes that the inputs hold.
use Rattle.std.specs.Prelude.{ℕ, ◌≡◌, ◌⊎◌, Bool, List, Option, Some}
use Rattle.sr_model.specs.declared.cells.Cell.{Cell}
use Rattle.sr_model.specs.declared.cells.Lit.{Lit}
use Rattle.sr_model.specs.Closure.{HasBoth, SameLits, passing}
use Rattle.sr_outside.specs.Told.{Held}
use Rattle.bench_reader.specs.Printed.{bench_text}
use Rattle.netlist.specs.Circuit.{Circuit}
use Rattle.dump_reader.specs.Recording.{Recording}
use Rattle.certificates.specs.declared.claim.Fact.{Fact}
use Rattle.report.specs.declared.refusal.WordRefusal.TheVariants as word_refusals
use Rattle.report.specs.Clash.{clash_line}
use Rattle.report.specs.Refusals.{word_line}
use Rattle.report.specs.Table.{table_text}
use Rattle.restore_program.specs.declared.status.Status.{Status}
use Rattle.restore_program.specs.declared.status.Status.TheVariants as statuses
use Rattle.restore_program.specs.Certifying.{OnCertify, OnCheck}
use Rattle.restore_program.specs.Loading.{IsLoadText}
use Rattle.restore_program.specs.Requests.{Request, Asks, restoration, selection, simulation, printing, loading, certification, checking}
use Rattle.restore_program.specs.Selecting.{OnSelect}
use Rattle.restore_program.specs.Texts.{IsCertificateText, IsClashOf, IsDumpText, IsNetlistText, KnownFrom, RefusedDump, RefusedNetlist, traced_count}
use Rattle.restore_program.specs.Tracing.{OnTrace}
use Rattle.restore_program.specs.Words.{IsBadNumber, IsCommand}

-- ---- a recording

-- on a recording, with the rows of all signals or of the flip-flops alone
pub data OnRecording (c : Circuit) (d : Recording) (all : Bool) : List ℕ → Status → Type 0 where
  clash : (cell : Cell) → IsClashOf c d cell → OnRecording c d all (clash_line c cell) statuses.Contradiction
  table : (known : Lit → Bool) → SameLits (passing known) (KnownFrom c d) → ((cell : Cell) → HasBoth (passing known) cell → ⊥) → OnRecording c d all (table_text c d.cycles known (traced_count c d) all) statuses.Done

-- ---- the files by their names

-- the name is held, with the text of this netlist
abbrev pub IsNetlistOf : Held → List ℕ → Circuit → Type 0
IsNetlistOf held name c = (bytes : List ℕ) × (held name ≡ Some bytes) × IsNetlistText bytes c

-- on a netlist that is refused
abbrev pub OnRefused : Held → List ℕ → List ℕ → Status → Type 0
OnRefused held name text status = (bytes : List ℕ) × (held name ≡ Some bytes) × RefusedNetlist bytes text status

-- a netlist is refused, or this is so of it
abbrev pub OnNetlist : Held → List ℕ → (Circuit → List ℕ → Status → Type 0) → List ℕ → Status → Type 0
OnNetlist held netlist P text status = OnRefused held netlist text status ⊎ ((c : Circuit) × IsNetlistOf held netlist c × P c text status)

-- the name is held, with the text of a dump of the netlist, with this recording
abbrev pub IsDumpOf : Held → List ℕ → Circuit → Recording → Type 0
IsDumpOf held name c d = (bytes : List ℕ) × (held name ≡ Some bytes) × IsDumpText c bytes d

-- on a dump that is refused
abbrev pub OnRefusedDump : Held → List ℕ → Circuit → List ℕ → Status → Type 0
OnRefusedDump held name c text status = (bytes : List ℕ) × (held name ≡ Some bytes) × RefusedDump c bytes text status

-- a dump of a netlist is refused, or this is so of its recording
abbrev pub OnDump : Held → List ℕ → Circuit → (Recording → List ℕ → Status → Type 0) → List ℕ → Status → Type 0
OnDump held dump c P text status = OnRefusedDump held dump c text status ⊎ ((d : Recording) × IsDumpOf held dump c d × P d text status)

-- the name is held, with the text of a certificate of these facts for a recording, and of a contradiction at the cell, if there is one
abbrev pub IsCertificateOf : Held → List ℕ → Circuit → Recording → List Fact → Option Cell → Type 0
IsCertificateOf held name c d facts contradiction = (bytes : List ℕ) × (held name ≡ Some bytes) × IsCertificateText c d bytes facts contradiction

-- on this certificate of a recording
abbrev pub OnCertificate : Held → List ℕ → Circuit → Recording → List ℕ → Status → Type 0
OnCertificate held certificate c d text status = (bytes : List ℕ) × (held certificate ≡ Some bytes) × OnCheck c d bytes text status

-- ---- what the words ask for

-- a netlist's text
abbrev pub OnPrint : Circuit → List ℕ → Status → Type 0
OnPrint c text status = (text ≡ bench_text c) × (status ≡ statuses.Done)

-- what follows in a netlist that is drawn from a number; no input is read for it
abbrev pub OnLoad : ℕ → ℕ → List ℕ → Status → Type 0
OnLoad number signals text status = IsLoadText number signals text × (status ≡ statuses.Done)

-- on what is asked for
abbrev pub RequestAnswer : Held → Request → List ℕ → Status → Type 0
RequestAnswer held (restoration netlist dump all) = OnNetlist held netlist (λ c. OnDump held dump c (λ d. OnRecording c d all))
RequestAnswer held (selection netlist width cycles seed) = OnNetlist held netlist (λ c. OnSelect c width cycles seed)
RequestAnswer held (simulation netlist cycles seed list) = OnNetlist held netlist (λ c. OnTrace c cycles seed list)
RequestAnswer held (printing netlist) = OnNetlist held netlist OnPrint
RequestAnswer held (loading number signals) = OnLoad number signals
RequestAnswer held (certification netlist dump) = OnNetlist held netlist (λ c. OnDump held dump c (OnCertify c))
RequestAnswer held (checking netlist dump certificate) = OnNetlist held netlist (λ c. OnDump held dump c (OnCertificate held certificate c))

-- on all words; there is none where an input that is come to is not held
pub data Answer (words : List (List ℕ)) (held : Held) : List ℕ → Status → Type 0 where
  usage : ¬ IsCommand words → Answer words held (word_line words word_refusals.Usage) statuses.Words
  bad_number : (place : ℕ) → IsBadNumber words place → Answer words held (word_line words (word_refusals.Number place)) statuses.Words
  asked : (request : Request) (text : List ℕ) (status : Status) → Asks words request → RequestAnswer held request text status → Answer words held text status
