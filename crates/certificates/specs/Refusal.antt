-- Why a certificate is refused.
use Rattle.std.specs.Prelude.{ℕ, ◌≡◌, List, Option}
use Rattle.sr_model.specs.declared.cells.Cell.{Cell}
use Rattle.netlist.specs.Circuit.{Circuit, unrolled_over}
use Rattle.sr_text.specs.Lines.{FirstFault, numbered, past_end}
use Rattle.dump_reader.specs.Grammar.{FailsFirst}
use Rattle.dump_reader.specs.Recording.{Recording}
use Rattle.certificates.specs.declared.claim.Fact.{Fact}
use Rattle.certificates.specs.declared.claim.Claim.{Claim}
use Rattle.certificates.specs.declared.refusal.CertRefusal.{CertRefusal}
use Rattle.certificates.specs.declared.refusal.CertRefusal.TheVariants.{CertHead, CertSyntax, CertCell, NotForced, NoMemory}
use Rattle.certificates.specs.Forms.{IsHead}
use Rattle.certificates.specs.Grammar.{States, IsFormFault, IsCellFault}
use Rattle.certificates.specs.Validity.{AreComplete, HasHead, Holds, StateFacts, known_by}

-- behind these facts the text makes a claim that is not true
pub record IsClaimFault (c : Circuit) (d : Recording) (facts : List Fact) (text : List ℕ) : Type 0 where
  pub claim : Claim
  pub stated : States c d.cycles text claim
  pub fails : Holds (unrolled_over c d.cycles) (known_by d facts) claim → ⊥

-- the line behind some facts has none of the forms, or stands behind the last line; or the last line is missing, and the number is the one past the end
pub data IsSyntaxFault (c : Circuit) (d : Recording) (past : ℕ) (lines : List (ℕ × List ℕ)) (number : ℕ) : Type 0 where
  has_no_form : FirstFault (StateFacts c d) (λ facts bad. IsFormFault bad) lines number → IsSyntaxFault c d past lines number
  behind_last : FirstFault (λ before facts. (clash : Option Cell) × AreComplete c d before facts clash) (λ facts bad. Unit {0}) lines number → IsSyntaxFault c d past lines number
  no_last : (facts : List Fact) → StateFacts c d lines facts → number ≡ past → IsSyntaxFault c d past lines number

-- the first bad line of the text is bad in this way
abbrev pub IsRefusal : Circuit → Recording → List ℕ → CertRefusal → Type 0
IsRefusal c d text (CertHead line) = FailsFirst IsHead (past_end text) (numbered text) line
IsRefusal c d text (CertSyntax line) = (lines : List (ℕ × List ℕ)) × HasHead text lines × IsSyntaxFault c d (past_end text) lines line
IsRefusal c d text (CertCell line) = (lines : List (ℕ × List ℕ)) × HasHead text lines × FirstFault (StateFacts c d) (λ facts bad. IsCellFault c d.cycles bad) lines line
IsRefusal c d text (NotForced line) = (lines : List (ℕ × List ℕ)) × HasHead text lines × FirstFault (StateFacts c d) (IsClaimFault c d) lines line
IsRefusal c d text NoMemory = Unit {0}

-- the text, which stands in this line, makes no claim for this reason
abbrev pub IsLineRefusal : Circuit → ℕ → ℕ → List ℕ → CertRefusal → Type 0
IsLineRefusal c cycles number text (CertSyntax line) = (line ≡ number) × IsFormFault text
IsLineRefusal c cycles number text (CertCell line) = (line ≡ number) × IsCellFault c cycles text
IsLineRefusal c cycles number text _ = ⊥
