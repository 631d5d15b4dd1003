-- What is forced is in time, and what of it the view does not have.
use Rattle.std.proofs.Common.{ℕ, ◌≡◌, ◌+◌, ◌*◌, ◌%◌, ◌<◌, ◌≤◌, ◌&&◌, Bool, true, not, List, length, get_or, set, arith, sym, ap, ◌∙◌}
use Rattle.std.specs.List.{AllPairs}
use Rattle.std.proofs.lemmas.Bool.{and_parts, and_from, not-true, not_from_false, lt-ltb}
use Rattle.sr_model.specs.declared.cells.Lit.{Lit}
use Rattle.unroll.specs.declared.problem.Block.{Block}
use Rattle.unroll.specs.declared.problem.Task.{Task}
use Rattle.unroll.specs.declared.words.PinWord.{PinWord}
use Rattle.unroll.specs.Bits.{is_set, word_for}
use Rattle.unroll.specs.Problem.{Unrolling, chunk_at, block_of, bit_of, cell_of, HaveNoLaterBit}
use Rattle.unroll.proofs.lemmas.Laws.{cell-bit, role}
use Rattle.unroll.proofs.lemmas.Tasks.{cell-in_time}
use Rattle.gate_rules.specs.Lanes.{words_at_place}
use Rattle.gate_rules.specs.Forced.{ForcedIn, ForcedInCycles, IsForcedExactly, IsForcedExactlyIn, IsNewExactly, bit_at_place, lit_at_place, view_has, words_of}
use Rattle.gate_rules.proofs.BlockPlaces.{words_of-place}

-- a forced literal is one of a cycle that is there
pub forced-in_time : (u : Unrolling) (t : Task) (known : Lit → Bool) (l : Lit) → ForcedIn u t known l → l.cell.cycle < u.cycles
forced-in_time u t known l f = cell-in_time u f.place l.cell (role u f.place f.forces.instance l.cell f.forces.stands f.forces.forces.on_cells)

-- what is forced in the cycles of a mask is forced, and all is in those of the mask that has each
pub in_cycles-forced : (u : Unrolling) (t : Task) (mask : ℕ) (known : Lit → Bool) (l : Lit) → ForcedInCycles u t mask known l → ForcedIn u t known l
in_cycles-forced u t mask known l f = record { place = f.place; belongs = f.belongs; forces = f.forces }

pub forced-in_cycles : (u : Unrolling) (t : Task) (mask : ℕ) (known : Lit → Bool) (l : Lit) → ((i : ℕ) → i < 64 → is_set mask i ≡ true) → ForcedIn u t known l → ForcedInCycles u t mask known l
forced-in_cycles u t mask known l all f = record { place = f.place; belongs = f.belongs; in_mask = all (f.place.cycle % 64) (below f.place.cycle); forces = f.forces } where
  below : (n : ℕ) → n % 64 < 64
  below n = omega arith

module _ (u : Unrolling) (t : Task) (blocks : List Block) (view words : List PinWord) where
  -- all cycles
  pub exactly-all : (mask : ℕ) → ((i : ℕ) → i < 64 → is_set mask i ≡ true) → IsForcedExactlyIn u t mask blocks view words → IsForcedExactly u t blocks view words
  exactly-all mask all exact j i bit within lane =
      let l : Lit = lit_at_place u blocks j bit i in (
        λ set. in_cycles-forced u t mask (view_has u blocks view) l ((exact j i bit within lane).0 set),
        λ f. (exact j i bit within lane).1 (forced-in_cycles u t mask (view_has u blocks view) l all f),
      )

  pub no_later : (mask : ℕ) → IsForcedExactlyIn u t mask blocks view words → HaveNoLaterBit u blocks words
  no_later mask exact j within bit i lane set =
      let l : Lit = lit_at_place u blocks j bit i in
      lt-ltb l.cell.cycle u.cycles (forced-in_time u t (view_has u blocks view) l (in_cycles-forced u t mask (view_has u blocks view) l ((exact j i bit within lane).0 set)))

  -- in a cycle that is there, the view has the literal of a bit that is set
  pub view-at : AllPairs (λ a b. a.0 < b.0) blocks → length view ≡ length blocks → (j i : ℕ) (bit : Bool) → j < length blocks → i < 64
      → (lit_at_place u blocks j bit i).cell.cycle < u.cycles → view_has u blocks view (lit_at_place u blocks j bit i) ≡ bit_at_place view j bit i
  view-at up size j i bit within lane early =
      let b : Block = get_or blocks j (record { 0 = 0 }) in
      let at : (block_of u (cell_of u b i) ≡ b) × (bit_of (cell_of u b i) ≡ i) = cell-bit u b i lane in
      ap (λ x. x && is_set (word_for bit (words_of blocks view (block_of u (cell_of u b i)))) (bit_of (cell_of u b i))) (lt-ltb (64 * chunk_at u b + i) u.cycles early)
      ∙ ap (λ (c : Block). is_set (word_for bit (words_of blocks view c)) (bit_of (cell_of u b i))) at.0
      ∙ ap (λ w. is_set (word_for bit w) (bit_of (cell_of u b i))) (words_of-place blocks view up size j (record { 0 = 0 }) within)
      ∙ ap (is_set (word_for bit (words_at_place view j))) at.1

  -- the forced literals that the view does not have
  pub new_exactly : (new : List PinWord) → AllPairs (λ a b. a.0 < b.0) blocks → length view ≡ length blocks → IsForcedExactly u t blocks view words
      → ((j i : ℕ) (bit : Bool) → j < length blocks → i < 64 → bit_at_place new j bit i ≡ (bit_at_place words j bit i && not (bit_at_place view j bit i))) → IsNewExactly u t blocks view new
  new_exactly new up size exact taken j i bit within lane = (
    λ set.
        let both : (bit_at_place words j bit i ≡ true) × (not (bit_at_place view j bit i) ≡ true) = and_parts (bit_at_place words j bit i) (not (bit_at_place view j bit i)) (sym (taken j i bit within lane) ∙ set) in
        let forced : ForcedIn u t (view_has u blocks view) (lit_at_place u blocks j bit i) = (exact j i bit within lane).0 both.0 in
        let early : (lit_at_place u blocks j bit i).cell.cycle < u.cycles = forced-in_time u t (view_has u blocks view) (lit_at_place u blocks j bit i) forced in
        (forced, view-at up size j i bit within lane early ∙ not-true (bit_at_place view j bit i) both.1),
    λ (forced, new).
        let early : (lit_at_place u blocks j bit i).cell.cycle < u.cycles = forced-in_time u t (view_has u blocks view) (lit_at_place u blocks j bit i) forced in
        taken j i bit within lane
        ∙ and_from (bit_at_place words j bit i) (not (bit_at_place view j bit i)) ((exact j i bit within lane).1 forced)
        (not_from_false (bit_at_place view j bit i) (sym (view-at up size j i bit within lane early) ∙ new)),
  )

-- The literals of the view were taken out of the words at the places below n.
pub record TakenOut (before view after : List PinWord) (n : ℕ) : Type 0 where
  pub size : length after ≡ length before
  pub taken : (j i : ℕ) (bit : Bool) → j < n → i < 64 → bit_at_place after j bit i ≡ (bit_at_place before j bit i && not (bit_at_place view j bit i))
  pub rest : (j : ℕ) → n ≤ j → words_at_place after j ≡ words_at_place before j
