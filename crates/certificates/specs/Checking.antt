-- What is read of the lines that are left.
use Rattle.std.specs.Prelude.{ℕ, ◌≡◌, List, ◌∷◌}
use Rattle.dump_reader.specs.Grammar.{FailsFirst}
use Rattle.certificates.specs.declared.refusal.CertRefusal.{CertRefusal}
use Rattle.certificates.specs.declared.refusal.CertRefusal.TheVariants.{CertHead, CertSyntax}
use Rattle.certificates.specs.Forms.{IsHead}

-- the first of the lines is a head, and the others are left
abbrev pub ReadsHead : List (ℕ × List ℕ) → List (ℕ × List ℕ) → Type 0
ReadsHead lines left = (head : ℕ × List ℕ) × (lines ≡ head ∷ left) × IsHead head.1

-- the first of the lines is no head
abbrev pub IsHeadRefusal : ℕ → List (ℕ × List ℕ) → CertRefusal → Type 0
IsHeadRefusal past lines (CertHead line) = FailsFirst IsHead past lines line
IsHeadRefusal past lines _ = ⊥

-- there is a line, though none should be
abbrev pub IsNotLast : List (ℕ × List ℕ) → CertRefusal → Type 0
IsNotLast lines (CertSyntax line) = (text : List ℕ) × (left : List (ℕ × List ℕ)) × (lines ≡ (line, text) ∷ left)
IsNotLast lines _ = ⊥
