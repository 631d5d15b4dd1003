-- What a task forces, as the literals of the words of its blocks.
use Rattle.std.specs.Prelude.{ℕ, ◌≡◌, ◌%◌, ◌<◌, ◌==◌, ◌&&◌, ◌↔◌, Bool, true, IsTrue, IsFalse, List, [], ◌∷◌, length, nat_lt, slice_index_or, if◌then◌else◌}
use Rattle.sr_model.specs.declared.cells.Lit.{Lit}
use Rattle.sr_model.specs.declared.cells.Place.{Place}
use Rattle.sr_model.specs.Closure.{ForcesAt, passing, lit}
use Rattle.unroll.specs.declared.problem.Block.{Block}
use Rattle.unroll.specs.declared.problem.Task.{Task}
use Rattle.unroll.specs.declared.words.PinWord.{PinWord}
use Rattle.unroll.specs.Bits.{is_set, word_for, no_words}
use Rattle.unroll.specs.Problem.{Unrolling, unrolled, block_of, bit_of, cell_of}
use Rattle.unroll.specs.Tasks.{IsPlaceOf}
use Rattle.gate_rules.specs.Lanes.{words_at_place}

-- the words that stand beside a block
abbrev pub words_of : List Block → List PinWord → Block → PinWord
words_of [] words b = no_words
words_of (c ∷ blocks) [] b = no_words
words_of (c ∷ blocks) (w ∷ words) b = if c.0 == b.0 then w else words_of blocks words b

-- whether the words of these blocks have a literal
abbrev pub view_has : Unrolling → List Block → List PinWord → Lit → Bool
view_has u blocks view l = nat_lt l.cell.cycle u.cycles && is_set (word_for l.bit (words_of blocks view (block_of u l.cell))) (bit_of l.cell)

-- a literal that the known ones force at an instance of the task
pub record ForcedIn (u : Unrolling) (t : Task) (known : Lit → Bool) (l : Lit) : Type 0 where
  pub place : Place
  pub belongs : IsPlaceOf u t place
  pub forces : ForcesAt (unrolled u) (passing known) place l

-- the same at an instance in a cycle of the mask, whose bit i is that of cycle 64 * chunk + i of the task's chunk; an instance is in the cycle of its place
pub record ForcedInCycles (u : Unrolling) (t : Task) (mask : ℕ) (known : Lit → Bool) (l : Lit) : Type 0 where
  pub place : Place
  pub belongs : IsPlaceOf u t place
  pub in_mask : is_set mask (place.cycle % 64) ≡ true
  pub forces : ForcesAt (unrolled u) (passing known) place l

-- what the task forces from these literals is among them
abbrev pub IsDone : Unrolling → Task → (Lit → Bool) → Type 0
IsDone u t known = (l : Lit) → ForcedIn u t known l → known l ≡ true

-- bit i of the words for block j
abbrev pub bit_at_place : List PinWord → ℕ → Bool → ℕ → Bool
bit_at_place words j bit i = is_set (word_for bit (words_at_place words j)) i

-- the literal that it stands for
abbrev pub lit_at_place : Unrolling → List Block → ℕ → Bool → ℕ → Lit
lit_at_place u blocks j bit i = lit (cell_of u (slice_index_or blocks j (record { 0 = 0 })) i) bit

-- the words hold exactly the known literals of their blocks, in the cycles that are there
abbrev pub IsViewOf : Unrolling → List Block → (Lit → Bool) → List PinWord → Type 0
IsViewOf u blocks known words =
    (j i : ℕ) (bit : Bool) → j < length blocks → i < 64 → (lit_at_place u blocks j bit i).cell.cycle < u.cycles
    → bit_at_place words j bit i ≡ known (lit_at_place u blocks j bit i)

-- the words hold exactly what the task forces from the known literals
abbrev pub AreForcedBy : Unrolling → Task → List Block → (Lit → Bool) → List PinWord → Type 0
AreForcedBy u t blocks known words =
    (j i : ℕ) (bit : Bool) → j < length blocks → i < 64 → IsTrue (bit_at_place words j bit i) ↔ ForcedIn u t known (lit_at_place u blocks j bit i)

-- the same in the cycles of the mask
abbrev pub AreForcedInCyclesBy : Unrolling → Task → ℕ → List Block → (Lit → Bool) → List PinWord → Type 0
AreForcedInCyclesBy u t mask blocks known words =
    (j i : ℕ) (bit : Bool) → j < length blocks → i < 64 → IsTrue (bit_at_place words j bit i) ↔ ForcedInCycles u t mask known (lit_at_place u blocks j bit i)

-- the words hold exactly what the task forces from those of the view
abbrev pub IsForcedExactly : Unrolling → Task → List Block → List PinWord → List PinWord → Type 0
IsForcedExactly u t blocks view words = AreForcedBy u t blocks (view_has u blocks view) words

-- the same in the cycles of the mask
abbrev pub IsForcedExactlyIn : Unrolling → Task → ℕ → List Block → List PinWord → List PinWord → Type 0
IsForcedExactlyIn u t mask blocks view words = AreForcedInCyclesBy u t mask blocks (view_has u blocks view) words

-- the words hold exactly what of all that it forces the view does not have
abbrev pub IsNewExactly : Unrolling → Task → List Block → List PinWord → List PinWord → Type 0
IsNewExactly u t blocks view words =
    (j i : ℕ) (bit : Bool) → j < length blocks → i < 64
    → IsTrue (bit_at_place words j bit i) ↔ (ForcedIn u t (view_has u blocks view) (lit_at_place u blocks j bit i) × IsFalse (view_has u blocks view (lit_at_place u blocks j bit i)))
