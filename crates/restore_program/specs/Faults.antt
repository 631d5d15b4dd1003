-- Which inputs are come to, and what is said of one that was not read.
use Rattle.std.specs.Prelude.{ℕ, ◌≡◌, ◌⊎◌, Bool, List, [], ◌∷◌, ◌++◌, Option, Some, IfSome, All}
use Rattle.sr_outside.specs.Told.{Held, IsSteady}
use Rattle.sr_model.specs.declared.cells.Cell.{Cell}
use Rattle.netlist.specs.Circuit.{Circuit}
use Rattle.dump_reader.specs.Recording.{Recording}
use Rattle.certificates.specs.declared.claim.Fact.{Fact}
use Rattle.report.specs.declared.refusal.Part.{Part}
use Rattle.report.specs.declared.refusal.Part.TheVariants as parts
use Rattle.restore_program.specs.Answer.{IsCertificateOf, IsDumpOf, IsNetlistOf}
use Rattle.restore_program.specs.Requests.{File, Request, Asks, files_of}
use Rattle.restore_program.specs.Words.{IsBadNumber, IsCommand}

-- the words are refused by themselves
abbrev pub AreRefused : List (List ℕ) → Type 0
AreRefused words = ¬ IsCommand words ⊎ ((place : ℕ) × IsBadNumber words place)

-- no input is started on these words: they are refused, or what they ask for comes to no file
abbrev pub NeedsNoInput : List (List ℕ) → Type 0
NeedsNoInput words = AreRefused words ⊎ ((request : Request) × Asks words request × (files_of request ≡ []))

-- The answer of these inputs is known from what is told: they are what is told, or none is needed.
abbrev pub TellsEnough : List (List ℕ) → Option Held → Held → Type 0
TellsEnough words told held = (told ≡ Some held) ⊎ NeedsNoInput words

-- ---- which input

-- the file is held, and its text is that of this netlist, of a dump of it with this recording, or of a certificate for both
abbrev pub IsAcceptedOn : Circuit → Recording → Held → File → Type 0
IsAcceptedOn c d held (parts.Netlist, name) = IsNetlistOf held name c
IsAcceptedOn c d held (parts.Dump, name) = IsDumpOf held name c d
IsAcceptedOn c d held (parts.Certificate, name) = (facts : List Fact) × (clash : Option Cell) × IsCertificateOf held name c d facts clash

-- the files are held and accepted, on one netlist and one recording
abbrev pub AreAccepted : Held → List File → Type 0
AreAccepted held files = (c : Circuit) × (d : Recording) × All (IsAcceptedOn c d held) files

-- The file is come to: it is one of these, and where it is told what the inputs hold, those before it are accepted.
pub record IsComeTo (told : Option Held) (files : List File) (file : File) : Type 0 where
  pub before : List File
  pub after : List File
  pub is_one : files ≡ before ++ file ∷ after
  pub accepted : IfSome told (λ held. AreAccepted held before)

-- the file is come to on what the words ask for
abbrev pub IsFileOf : List (List ℕ) → Option Held → File → Type 0
IsFileOf words told file = (request : Request) × Asks words request × IsComeTo told (files_of request) file

-- ---- what is told of the files of which this holds

-- they are held, and no call on them is to fail
abbrev pub AreAllSteady : Option Held → Option (List ℕ → Bool) → (File → Type 0) → Type 0
AreAllSteady told shaky Of = (file : File) → Of file → IsSteady told shaky file.1

-- A fault can be one of this part: such a file has it, and it is not told that the file is held and that no call on it is to fail.
abbrev pub IsFaultOf : Option Held → Option (List ℕ → Bool) → (File → Type 0) → Part → Type 0
IsFaultOf told shaky Of part = (name : List ℕ) × Of (part, name) × ¬ IsSteady told shaky name

abbrev pub AreSteady : Option Held → Option (List ℕ → Bool) → List (List ℕ) → Type 0
AreSteady told shaky words = AreAllSteady told shaky (IsFileOf words told)

abbrev pub IsWordsFault : List (List ℕ) → Option Held → Option (List ℕ → Bool) → Part → Type 0
IsWordsFault words told shaky = IsFaultOf told shaky (IsFileOf words told)
