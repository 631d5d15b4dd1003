-- A task forces no more once what it forces is added.
use Rattle.std.proofs.Common.{ℕ, suc, ◌≡◌, ◌<◌, ◌↔◌, ◌⊎◌, ◌||◌, ◌==◌, if◌then◌else◌, Bool, true, false, eqb, ltb, List, [], ◌∷◌, length, map, arith, inl, inr, sym, ap, subst, ◌∙◌}
use Rattle.std.specs.List.{Contains}
use Rattle.std.proofs.lemmas.Bool.{cases_Bool, and_parts, and_from, eqb-true, eq-eqb, lt-ltb, ltb-true, or_cases, or_left, or_right, true≢false}
use Rattle.std.proofs.lemmas.List.{get_or_default, length-map}
use Rattle.sr_model.specs.declared.cells.Cell.{Cell}
use Rattle.sr_model.specs.declared.cells.Lit.{Lit}
use Rattle.sr_model.specs.Closure.{HasBoth, lit, passing}
use Rattle.sr_model.proofs.lemmas.Members.{Contains-cases, not_in_nil}
use Rattle.unroll.specs.declared.problem.Block.{Block}
use Rattle.unroll.specs.declared.problem.InChunk.{InChunk}
use Rattle.unroll.specs.declared.problem.Task.{Task}
use Rattle.unroll.specs.declared.words.PinWord.{PinWord}
use Rattle.unroll.specs.Bits.{is_set, word_for}
use Rattle.unroll.specs.Problem.{Unrolling, bit_of, block_in, block_of, cell_of, chunks_in}
use Rattle.unroll.specs.Tasks.{IsCellOf, drives_itself, task_in}
use Rattle.unroll.proofs.lemmas.Laws.{bit-small, block-sig, cell-itself}
use Rattle.unroll.proofs.lemmas.Words.{none_bits}
use Rattle.gate_rules.specs.Forced.{AreForcedBy, ForcedIn, IsDone, bit_at_place, lit_at_place, view_has, words_of}
use Rattle.gate_rules.proofs.lemmas.Laws.{done_once, forced_by_cells, forced_on_cells}
use Rattle.known_planes.specs.Planes.{PlaneSet, has, has_bit}
use Rattle.plain_close.specs.Turns.{AreForced}
use Rattle.plain_close.specs.Changes.{HaveNoClashWith, IsCalm}
use Rattle.plain_close.proofs.Joining.{block_of_index}
use Rattle.plain_close.proofs.Turning.{has-bit_of}

-- where a word is picked by whether two numbers are the same
picked : (a b : ℕ) (v w : PinWord) → a ≡ b → (if a == b then v else w) ≡ v
picked a b v w same = ap (λ t. if t then v else w) (eq-eqb a b same)

passed : (a b : ℕ) (v w : PinWord) → eqb a b ≡ false → (if a == b then v else w) ≡ w
passed a b v w other = ap (λ t. if t then v else w) other

module _ (b : Block) (bit : Bool) (i : ℕ) where
  -- a bit of the words of a block is one of those that stand beside it
  pub bit-beside : (blocks : List Block) (words : List PinWord) → is_set (word_for bit (words_of blocks words b)) i ≡ true
      → (j : ℕ) × (j < length blocks) × (block_of_index blocks j ≡ b) × (bit_at_place words j bit i ≡ true)
  bit-beside [] words h = absurd (true≢false (sym h ∙ none_bits bit i))
  bit-beside (c ∷ blocks) [] h = absurd (true≢false (sym h ∙ none_bits bit i))
  bit-beside (c ∷ blocks) (w ∷ words) h =
      elim (cases_Bool (eqb c.0 b.0)) [
        | inl same ↦
            let e : c.0 ≡ b.0 = eqb-true c.0 b.0 same in
            (0, omega arith, ap (λ n. record { 0 = n }) e, ap (λ v. is_set (word_for bit v) i) (sym (picked c.0 b.0 w (words_of blocks words b) e)) ∙ h)
        | inr other ↦
            let rest = bit-beside blocks words (ap (λ v. is_set (word_for bit v) i) (sym (passed c.0 b.0 w (words_of blocks words b) other)) ∙ h) in
            (suc rest.0, omega (arith, rest.1), rest.2, rest.3)
      ]

  -- and the words have it where all that stand beside the block do
  pub beside-bit : (blocks : List Block) (words : List PinWord) → length words ≡ length blocks → Contains blocks b
      → ((j : ℕ) → j < length blocks → block_of_index blocks j ≡ b → bit_at_place words j bit i ≡ true) → is_set (word_for bit (words_of blocks words b)) i ≡ true
  beside-bit [] words size there each = absurd (not_in_nil b there)
  beside-bit (c ∷ blocks) [] size there each = absurd (omega (arith, size))
  beside-bit (c ∷ blocks) (w ∷ words) size there each =
      elim (cases_Bool (eqb c.0 b.0)) [
        | inl same ↦
            let e : c.0 ≡ b.0 = eqb-true c.0 b.0 same in
            ap (λ v. is_set (word_for bit v) i) (picked c.0 b.0 w (words_of blocks words b) e) ∙ each 0 (omega arith) (ap (λ n. record { 0 = n }) e)
        | inr other ↦
            ap (λ v. is_set (word_for bit v) i) (passed c.0 b.0 w (words_of blocks words b) other)
            ∙ (elim (Contains-cases c blocks b there) [
              | inl e ↦ absurd (true≢false (sym (eq-eqb c.0 b.0 (ap (λ (x : Block). x.0) e)) ∙ other))
              | inr later ↦ beside-bit blocks words (omega (arith, size)) later (λ j h e. each (suc j) (omega (arith, h)) e)
            ])
      ]

-- the literal of an index
pub at-index : (u : Unrolling) (blocks : List Block) (l : Lit) (index : ℕ) → l.cell.cycle < u.cycles → block_of_index blocks index ≡ block_of u l.cell → lit_at_place u blocks index l.bit (bit_of l.cell) ≡ l
at-index u blocks l index early e = ap (λ b. lit (cell_of u b (bit_of l.cell)) l.bit) e ∙ ap (λ c. lit c l.bit) (cell-itself u l.cell early)

module _ (u : Unrolling) (t : Task) (planes : PlaneSet) (blocks : List Block) (out : List PinWord) (size : length out ≡ length blocks)
    (has_cells : (c : Cell) → IsCellOf u t c → Contains blocks (block_of u c)) (exact : AreForcedBy u t blocks (has u planes) out) where
  -- the index of a cell's block
  pub index-of : (c : Cell) → IsCellOf u t c → (j : ℕ) × (j < length blocks) × (block_of_index blocks j ≡ block_of u c)
  index-of c of =
      let there : Contains blocks (block_of u c) = has_cells c of in
      (there.0, there.1, get_or_default blocks there.0 (record { 0 = 0 }) (block_of u c) there.1 ∙ there.2)

  -- a bit of what is forced at an index
  pub set-at : (l : Lit) → l.cell.cycle < u.cycles → (j : ℕ) → j < length blocks → block_of_index blocks j ≡ block_of u l.cell → ForcedIn u t (has u planes) l → bit_at_place out j l.bit (bit_of l.cell) ≡ true
  set-at l early j within e f = (exact j (bit_of l.cell) l.bit within (bit-small l.cell)).1 (subst (ForcedIn u t (has u planes)) (sym (at-index u blocks l j early e)) f)

  pub forced-at : (l : Lit) → l.cell.cycle < u.cycles → (j : ℕ) → j < length blocks → block_of_index blocks j ≡ block_of u l.cell → bit_at_place out j l.bit (bit_of l.cell) ≡ true → ForcedIn u t (has u planes) l
  forced-at l early j within e set = subst (ForcedIn u t (has u planes)) (at-index u blocks l j early e) ((exact j (bit_of l.cell) l.bit within (bit-small l.cell)).0 set)

  -- whether a literal is known or forced
  abbrev all : Lit → Bool
  all l = has u planes l || view_has u blocks out l

  known-or-forced : (l : Lit) → IsCellOf u t l.cell → (all l ≡ true) ↔ ((has u planes l ≡ true) ⊎ ForcedIn u t (has u planes) l)
  known-or-forced l of = (
    λ h. elim (or_cases (has u planes l) (view_has u blocks out l) h) [
      | inl known ↦ inl known
      | inr seen ↦
          let parts = and_parts (ltb l.cell.cycle u.cycles) (is_set (word_for l.bit (words_of blocks out (block_of u l.cell))) (bit_of l.cell)) seen in
          let found = bit-beside (block_of u l.cell) l.bit (bit_of l.cell) blocks out parts.1 in
          inr (forced-at l (ltb-true l.cell.cycle u.cycles parts.0) found.0 found.1 found.2 found.3)
    ],
    λ h. elim h [
      | inl known ↦ or_left (has u planes l) (view_has u blocks out l) known
      | inr f ↦
          let early : l.cell.cycle < u.cycles = (forced_on_cells u t (has u planes) l f).1 in
          or_right (has u planes l) (view_has u blocks out l)
          (and_from (ltb l.cell.cycle u.cycles) (is_set (word_for l.bit (words_of blocks out (block_of u l.cell))) (bit_of l.cell)) (lt-ltb l.cell.cycle u.cycles early)
          (beside-bit (block_of u l.cell) l.bit (bit_of l.cell) blocks out size (has_cells l.cell of) (λ j within e. set-at l early j within e f)))
    ],
  )

  -- where no cell has both literals then
  no-both : HaveNoClashWith planes blocks out → (c : Cell) → IsCellOf u t c → HasBoth (passing all) c → ⊥
  no-both none c of both =
      let at = index-of c of in
      none at.0 (bit_of c) at.1 (bit-small c) (either at)
    where
      holds : (bit : Bool) → all (lit c bit) ≡ true
      holds true = both.1
      holds false = both.0

      either : (at : (j : ℕ) × (j < length blocks) × (block_of_index blocks j ≡ block_of u c)) → (bit : Bool) → (has_bit planes (block_of_index blocks at.0) bit (bit_of c) ≡ true) ⊎ (bit_at_place out at.0 bit (bit_of c) ≡ true)
      either at bit =
          elim ((known-or-forced (lit c bit) of).0 (holds bit)) [
            | inl known ↦ inl (ap (λ b. has_bit planes b bit (bit_of c)) at.2 ∙ (has-bit_of u planes (lit c bit) known).1)
            | inr f ↦ inr (set-at (lit c bit) (forced_on_cells u t (has u planes) (lit c bit) f).1 at.0 at.1 at.2 f)
          ]

  -- where all that the task forces from those is among them
  calm : IsDone u t all → IsCalm u t (has u planes)
  calm done more bounded l f =
      (known-or-forced l (forced_on_cells u t more l f).0).0
      (done l (forced_by_cells u t more all (λ c bit of h. (known-or-forced (lit c bit) of).1 (bounded c bit of h)) l f))

-- so where the target is not its own pin behind a flip-flop
pub calm-task : (u : Unrolling) (task : InChunk) → task.chunk < chunks_in u → (planes : PlaneSet) (in_chunks : List InChunk) (out : List PinWord) → AreForced u planes task in_chunks out
    → drives_itself u task.sig ≡ false → HaveNoClashWith planes (map (block_in u) in_chunks) out → IsCalm u (task_in u task) (has u planes)
calm-task u task early planes in_chunks out are apart none =
    let size : length out ≡ length (map (block_in u) in_chunks) = are.out_size ∙ sym (length-map in_chunks (block_in u)) in
    calm u (task_in u task) planes (map (block_in u) in_chunks) out size are.has_cells are.exact
    (done_once u (task_in u task) (has u planes) (all u (task_in u task) planes (map (block_in u) in_chunks) out size are.has_cells are.exact)
    (ap (drives_itself u) (block-sig u task.sig task.chunk early) ∙ apart)
    (known-or-forced u (task_in u task) planes (map (block_in u) in_chunks) out size are.has_cells are.exact)
    (no-both u (task_in u task) planes (map (block_in u) in_chunks) out size are.has_cells are.exact none))
