-- What the text of a run says of the executions that match the dump, and what is completed.
use Rattle.std.specs.Prelude.{ℕ, ◌≡◌, ◌≤◌, ◌⊎◌, ⊤, Bool, List, [], ◌∷◌, length, Option, All}
use Rattle.sr_model.specs.declared.cells.Cell.{Cell}
use Rattle.sr_model.specs.declared.cells.Lit.{Lit}
use Rattle.sr_model.specs.declared.cells.Sig.{Sig}
use Rattle.sr_model.specs.Closure.{HasBoth, SameLits, passing}
use Rattle.sr_model.specs.Netlist.{Valuation, Has, IsExecution}
use Rattle.sr_model.specs.Dump.{Matches}
use Rattle.sr_outside.specs.Told.{Held}
use Rattle.netlist.specs.Circuit.{Circuit, unrolled_over}
use Rattle.dump_reader.specs.Recording.{Recording}
use Rattle.sr_model.specs.Limits.{block_count, max_blocks}
use Rattle.certificates.specs.declared.claim.Fact.{Fact}
use Rattle.certificates.specs.Validity.{IsValid}
use Rattle.report.specs.declared.refusal.Part.TheVariants as parts
use Rattle.report.specs.Check.{checked_text}
use Rattle.report.specs.Table.{known_rows, table_text}
use Rattle.restore_program.specs.declared.status.Status.{Status}
use Rattle.restore_program.specs.declared.status.Status.TheVariants as statuses
use Rattle.restore_program.specs.Texts.{given_rows, KnownFrom, SpellsDump, traced_count}
use Rattle.restore_program.specs.Answer.{IsCertificateOf, IsDumpOf, IsNetlistOf}
use Rattle.restore_program.specs.Faults.{IsAcceptedOn}
use Rattle.restore_program.specs.Requests.{Asks, File, Request, certification, checking, files_of, loading, printing, restoration, selection, simulation}
use Rattle.restore_program.specs.Selecting.{HasWidth}
use Rattle.restore_program.specs.Tracing.{AreNamed, names_in}
use Rattle.restore_program.specs.Words.{Restores}

-- the words ask for something about a netlist and a dump that are held and accepted, with this recording
pub record IsAbout (words : List (List ℕ)) (held : Held) (c : Circuit) (d : Recording) : Type 0 where
  pub request : Request
  pub asked : Asks words request
  pub netlist : List ℕ
  pub dump : List ℕ
  pub others : List File
  pub files : files_of request ≡ (parts.Netlist, netlist) ∷ (parts.Dump, dump) ∷ others
  pub netlist_held : IsNetlistOf held netlist c
  pub dump_held : IsDumpOf held dump c d

-- the words ask for the restoration of a netlist and a dump that are held and accepted, with this recording, and for the rows of all signals or of the flip-flops alone
pub record Accepts (words : List (List ℕ)) (held : Held) (c : Circuit) (d : Recording) (all : Bool) : Type 0 where
  pub netlist : List ℕ
  pub dump : List ℕ
  pub asked : Restores words netlist dump all
  pub netlist_held : IsNetlistOf held netlist c
  pub dump_held : IsDumpOf held dump c d

-- The text is the table of what is known, and each execution that matches the dump has each bit of its rows.
pub record IsSoundTable (words : List (List ℕ)) (text : List ℕ) (held : Held) : Type 0 where
  pub c : Circuit
  pub d : Recording
  pub all : Bool
  pub accepts : Accepts words held c d all
  pub known : Lit → Bool
  pub is_known : SameLits (passing known) (KnownFrom c d)
  pub is_table : text ≡ table_text c d.cycles known (traced_count c d) all
  pub matched : (v : Valuation) → IsExecution (unrolled_over c d.cycles) v → Matches v (given_rows d) → Matches v (known_rows c d.cycles known all).rows

-- The text is itself a dump of the netlist, and the table of what is known from that dump has its rows and no contradiction.
pub record IsDumpAgain (words : List (List ℕ)) (text : List ℕ) (held : Held) : Type 0 where
  pub c : Circuit
  pub d : Recording
  pub all : Bool
  pub accepts : Accepts words held c d all
  pub own : Recording
  pub spells : SpellsDump c text own
  pub same_rows : (known : Lit → Bool) → SameLits (passing known) (KnownFrom c own) → (known_rows c own.cycles known all ≡ own) × ((cell : Cell) → HasBoth (passing known) cell → ⊥)

-- no execution matches the dump
abbrev pub NoneMatches : List (List ℕ) → Held → Type 0
NoneMatches words held = (c : Circuit) × (d : Recording) × IsAbout words held c d × ((v : Valuation) → IsExecution (unrolled_over c d.cycles) v → Matches v (given_rows d) → ⊥)

-- ---- certificates

-- the text is a valid certificate for the netlist and the dump that the words ask to certify
pub record IsValidCertificate (words : List (List ℕ)) (text : List ℕ) (held : Held) : Type 0 where
  pub c : Circuit
  pub d : Recording
  pub about : IsAbout words held c d
  pub facts : List Fact
  pub clash : Option Cell
  pub valid : IsValid c d text facts clash

-- The words ask for the check of a certificate that is held and valid, the text says how many facts it has, and each of them is so in each execution that matches the dump.
pub record IsSoundCheck (words : List (List ℕ)) (text : List ℕ) (held : Held) : Type 0 where
  pub c : Circuit
  pub d : Recording
  pub about : IsAbout words held c d
  pub certificate : List ℕ
  pub third : about.others ≡ (parts.Certificate, certificate) ∷ []
  pub facts : List Fact
  pub clash : Option Cell
  pub certificate_held : IsCertificateOf held certificate c d facts clash
  pub is_text : text ≡ checked_text c (length facts) clash
  pub matched : (v : Valuation) → IsExecution (unrolled_over c d.cycles) v → Matches v (given_rows d) → All (λ fact. Has v fact.lit) facts

-- ---- what is completed

-- nothing else that is asked of this netlist is refused: there are so many flip-flops, the names of a trace are those of signals, each once, and the cells are not too many
abbrev pub IsAllowedOn : Circuit → Request → Type 0
IsAllowedOn c (restoration netlist dump all) = ⊤
IsAllowedOn c (selection netlist width cycles seed) = HasWidth c width × (block_count (length c.drivers) cycles ≤ max_blocks)
IsAllowedOn c (simulation netlist cycles seed list) = (sigs : List Sig) × AreNamed c (names_in list) sigs × (block_count (length c.drivers) cycles ≤ max_blocks)
IsAllowedOn c (printing netlist) = ⊤
IsAllowedOn c (loading number signals) = ⊤
IsAllowedOn c (certification netlist dump) = ⊤
IsAllowedOn c (checking netlist dump certificate) = ⊤

-- the files that are asked for are held and accepted, on one netlist and one recording, and so is what is asked of the netlist
abbrev pub IsAccepted : Held → Request → Type 0
IsAccepted held request = (c : Circuit) × (d : Recording) × All (IsAcceptedOn c d held) (files_of request) × IsAllowedOn c request

-- how it ends then: a restoration, a certificate and a check with or without a contradiction, and what else is asked for with its text
abbrev pub IsCompleted : Request → Status → Type 0
IsCompleted (restoration netlist dump all) status = (status ≡ statuses.Done) ⊎ (status ≡ statuses.Contradiction)
IsCompleted (selection netlist width cycles seed) status = status ≡ statuses.Done
IsCompleted (simulation netlist cycles seed list) status = status ≡ statuses.Done
IsCompleted (printing netlist) status = status ≡ statuses.Done
IsCompleted (loading number signals) status = status ≡ statuses.Done
IsCompleted (certification netlist dump) status = (status ≡ statuses.Done) ⊎ (status ≡ statuses.Contradiction)
IsCompleted (checking netlist dump certificate) status = (status ≡ statuses.Done) ⊎ (status ≡ statuses.Contradiction)
