-- What is read of the lines that are left.
use Rattle.std.specs.Prelude.{ℕ, ◌≡◌, ◌≤◌, ◌<◌, List, ◌∷◌}
use Rattle.sr_model.specs.Limits.{block_count, max_blocks}
use Rattle.dump_reader.specs.declared.refusal.DumpRefusal.{DumpRefusal}
use Rattle.dump_reader.specs.declared.refusal.DumpRefusal.TheVariants.{Head, Cycles, TooManyCells}
use Rattle.dump_reader.specs.Grammar.{IsHead, IsCyclesLine, FailsFirst}

-- the first of the lines is a head, and the others are left
abbrev pub ReadsHead : List (ℕ × List ℕ) → List (ℕ × List ℕ) → Type 0
ReadsHead lines left = (head : ℕ × List ℕ) × (lines ≡ head ∷ left) × IsHead head.1

-- the first of the lines is that of so many cycles, which fit so many signals, and the others are left
abbrev pub ReadsCycles : ℕ → ℕ → List (ℕ × List ℕ) → List (ℕ × List ℕ) → Type 0
ReadsCycles signals cycles lines left = (line : ℕ × List ℕ) × (lines ≡ line ∷ left) × IsCyclesLine cycles line.1 × (block_count signals cycles ≤ max_blocks)

-- the first of the lines is no head
abbrev pub IsHeadRefusal : ℕ → List (ℕ × List ℕ) → DumpRefusal → Type 0
IsHeadRefusal past lines (Head line) = FailsFirst IsHead past lines line
IsHeadRefusal past lines _ = ⊥

-- the first of the lines gives no number of cycles, or one that does not fit so many signals
abbrev pub IsCyclesRefusal : ℕ → ℕ → List (ℕ × List ℕ) → DumpRefusal → Type 0
IsCyclesRefusal signals past lines (Cycles line) = FailsFirst (λ text. (cycles : ℕ) × IsCyclesLine cycles text) past lines line
IsCyclesRefusal signals past lines (TooManyCells line product) =
    (cycles : ℕ) × (text : List ℕ) × (left : List (ℕ × List ℕ)) × (lines ≡ (line, text) ∷ left) × IsCyclesLine cycles text × (product ≡ block_count signals cycles) × (max_blocks < product)
IsCyclesRefusal signals past lines _ = ⊥
