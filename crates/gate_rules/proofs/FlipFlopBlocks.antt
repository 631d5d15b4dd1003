-- The blocks of a flip-flop's cells in a chunk: which bits stand for the cells of its instances, and what its task forces of them.
use Rattle.std.proofs.Common.{ℕ, ◌≡◌, ◌+◌, ◌-◌, ◌*◌, ◌/◌, ◌%◌, ◌<◌, ◌≤◌, ◌↔◌, ◌&&◌, ◌||◌, Bool, true, eqb, ltb, List, [], ◌∷◌, arith, inl, inr, sym, ap, ◌∙◌, subst}
use Rattle.std.specs.Prelude.{IsTrue}
use Rattle.std.proofs.lemmas.Bool.{cases_lt, cond-true, cond-false, lt-ltb, le-ltb, ltb-true, eqb-true, eq-eqb, and_parts, and_from, or_cases, or_left, or_right}
use Rattle.sr_model.specs.declared.gates.Kind.TheVariants.{Dff}
use Rattle.sr_model.specs.declared.cells.Sig.{Sig}
use Rattle.sr_model.specs.declared.cells.Cell.{Cell}
use Rattle.sr_model.specs.Netlist.{Driven, cell_at}
use Rattle.sr_model.specs.Closure.{lit}
use Rattle.netlist.specs.Wiring.{driver_at}
use Rattle.unroll.specs.declared.problem.Block.{Block}
use Rattle.unroll.specs.declared.words.PinWord.{PinWord}
use Rattle.unroll.specs.Bits.{is_set, is_cycle, word_for}
use Rattle.unroll.specs.Problem.{Unrolling, chunks_in, block_at, sig_at, chunk_at, cell_of}
use Rattle.unroll.specs.Tasks.{task_at}
use Rattle.unroll.proofs.lemmas.Tasks.{lane-bit, lane-chunk}
use Rattle.unroll.proofs.lemmas.Laws.{block-sig, block-chunk, block-itself, cycle-chunk}
use Rattle.gate_rules.specs.declared.flip_flops.CellBlocks.{CellBlocks}
use Rattle.gate_rules.specs.Forced.{ForcedInCycles, words_of, view_has}
use Rattle.gate_rules.specs.FlipFlopBits.{is_set_after, is_shared, is_bit_of}
use Rattle.gate_rules.proofs.FlipFlopShared.{IsShownAt, shared-says, shown-forced}

-- a cycle by its chunk and bit
digits : (m i c j : ℕ) → i < 64 → j < 64 → 64 * m + i ≡ 64 * c + j → (m ≡ c) × (i ≡ j)
digits m i c j p q e = (omega arith, omega arith)

module _ (u : Unrolling) where
  -- the cell of a bit of a signal's block
  pub cell-of : (s : Sig) (c i : ℕ) → c < chunks_in u → cell_of u (block_at u s c) i ≡ cell_at (64 * c + i) s
  cell-of s c i early =
      ap (λ n. cell_at (64 * n + i) (sig_at u (block_at u s c))) (block-chunk u s c early) ∙ ap (cell_at (64 * c + i)) (block-sig u s c early)

  -- and the only bit that has the cell
  bit-of-cell : (b : Block) (i : ℕ) (s : Sig) (c j : ℕ) → i < 64 → j < 64 → cell_of u b i ≡ cell_at (64 * c + j) s → (b ≡ block_at u s c) × (i ≡ j)
  bit-of-cell b i s c j p q e =
      let at : (chunk_at u b ≡ c) × (i ≡ j) = digits (chunk_at u b) i c j p q (ap (λ x. x.cycle) e) in
      (sym (block-itself u b) ∙ ap (λ x. block_at u x (chunk_at u b)) (ap (λ (x : Cell). x.sig) e) ∙ ap (block_at u s) at.0, at.1)

  module _ (blocks : List Block) (view : List PinWord) (bit : Bool) where
    -- what is known of a cell
    known-at : (s : Sig) (c i : ℕ) → i < 64 → 64 * c + i < u.cycles
        → is_set (word_for bit (words_of blocks view (block_at u s c))) i ≡ view_has u blocks view (lit (cell_at (64 * c + i) s) bit)
    known-at s c i h early =
        ap (λ n. is_set (word_for bit (words_of blocks view (block_at u s n))) i) (sym (lane-chunk c i h))
        ∙ ap (is_set (word_for bit (words_of blocks view (block_at u s ((64 * c + i) / 64))))) (sym (lane-bit c i h))
        ∙ ap (λ b. b && is_set (word_for bit (words_of blocks view (block_at u s ((64 * c + i) / 64)))) ((64 * c + i) % 64)) (sym (lt-ltb (64 * c + i) u.cycles early))

    -- the same of the cycle after
    known-after : (s : Sig) (c k : ℕ) → k < 64 → 64 * c + k + 1 < u.cycles
        → is_set_after (word_for bit (words_of blocks view (block_at u s c))) (word_for bit (words_of blocks view (block_at u s (c + 1)))) k
        ≡ view_has u blocks view (lit (cell_at (64 * c + k + 1) s) bit)
    known-after s c k h early =
        elim (cases_lt k 63) [
          | inl below ↦
              cond-true (ltb k 63) (is_set (word_for bit (words_of blocks view (block_at u s c))) (k + 1)) (is_set (word_for bit (words_of blocks view (block_at u s (c + 1)))) 0) (lt-ltb k 63 below)
              ∙ known-at s c (k + 1) (omega arith) (omega (arith, early)) ∙ ap (λ n. view_has u blocks view (lit (cell_at n s) bit)) (next c k)
          | inr last ↦
              cond-false (ltb k 63) (is_set (word_for bit (words_of blocks view (block_at u s c))) (k + 1)) (is_set (word_for bit (words_of blocks view (block_at u s (c + 1)))) 0) (le-ltb k 63 last)
              ∙ known-at s (c + 1) 0 (omega arith) (omega (arith, early)) ∙ ap (λ n. view_has u blocks view (lit (cell_at n s) bit)) (carry c k h last)
        ]
      where
        next : (m n : ℕ) → 64 * m + (n + 1) ≡ 64 * m + n + 1
        next m n = omega arith

        carry : (m n : ℕ) → n < 64 → 63 ≤ n → 64 * (m + 1) + 0 ≡ 64 * m + n + 1
        carry m n p q = omega arith

module _ (u : Unrolling) (target pin : Sig) (chunk : ℕ) (early : chunk < chunks_in u) (cells : CellBlocks) (at_pin : cells.pin ≡ block_at u pin chunk) (at_own : cells.own ≡ block_at u target chunk)
    (after_own : cells.next.0 ≡ cells.own.0 + 1) where
  at_next : cells.next ≡ block_at u target (chunk + 1)
  at_next = ap (λ n. record { 0 = n }) (after_own ∙ ap (λ (b : Block). b.0 + 1) at_own ∙ plus (target.0 * chunks_in u) chunk) where
    plus : (m n : ℕ) → m + n + 1 ≡ m + (n + 1)
    plus m n = omega arith

  module _ (valid mask : ℕ) (is_valid : (i : ℕ) → i < 64 → is_set valid i ≡ (is_cycle u.cycles chunk (i + 1) && is_set mask i)) (blocks : List Block) (view : List PinWord) (bit : Bool) (shared : ℕ)
      (is : (i : ℕ) → i < 64 → is_set shared i ≡ is_shared (word_for bit (words_of blocks view cells.pin)) (word_for bit (words_of blocks view cells.own)) (word_for bit (words_of blocks view cells.next)) valid i) where
    pin-known : (k : ℕ) → k < 64 → 64 * chunk + k + 1 < u.cycles → is_set (word_for bit (words_of blocks view cells.pin)) k ≡ view_has u blocks view (lit (cell_at (64 * chunk + k) pin) bit)
    pin-known k h below = ap (λ b. is_set (word_for bit (words_of blocks view b)) k) at_pin ∙ known-at u blocks view bit pin chunk k h (omega arith)

    after-known : (k : ℕ) → k < 64 → 64 * chunk + k + 1 < u.cycles
        → is_set_after (word_for bit (words_of blocks view cells.own)) (word_for bit (words_of blocks view cells.next)) k ≡ view_has u blocks view (lit (cell_at (64 * chunk + k + 1) target) bit)
    after-known k h below =
        ap (λ b. is_set_after (word_for bit (words_of blocks view b)) (word_for bit (words_of blocks view cells.next)) k) at_own
        ∙ ap (λ b. is_set_after (word_for bit (words_of blocks view (block_at u target chunk))) (word_for bit (words_of blocks view b)) k) at_next
        ∙ known-after u blocks view bit target chunk k h below

    next-chunk : is_set shared 63 ≡ true → chunk + 1 < chunks_in u
    next-chunk set =
        let below : 64 * chunk + 63 + 1 < u.cycles = ((shared-says u target pin chunk early (view_has u blocks view) valid mask is_valid bit (word_for bit (words_of blocks view cells.pin)) (word_for bit (words_of blocks view cells.own)) (word_for bit (words_of blocks view cells.next)) shared is pin-known after-known 63 (omega arith)).0 set).0 in
        subst (λ n. n < chunks_in u) (whole chunk) (cycle-chunk u (64 * chunk + 63 + 1) below)
      where
        whole : (n : ℕ) → (64 * n + 63 + 1) / 64 ≡ n + 1
        whole n = omega arith

    same-block : (b c : Block) → eqb b.0 c.0 ≡ true → b ≡ c
    same-block b c e = ap (λ n. record { 0 = n }) (eqb-true b.0 c.0 e)

    found : (b : Block) (i : ℕ) → i < 64 → is_bit_of cells b shared i ≡ true → IsShownAt target pin chunk shared (cell_of u b i)
    found b i h set =
        elim (or_cases (eqb b.0 cells.pin.0 && is_set shared i)
        ((eqb b.0 cells.own.0 && (ltb 0 i && is_set shared (i - 1))) || (eqb b.0 cells.next.0 && (eqb i 0 && is_set shared 63))) set) [
          | inl p ↦
              let parts : (eqb b.0 cells.pin.0 ≡ true) × (is_set shared i ≡ true) = and_parts (eqb b.0 cells.pin.0) (is_set shared i) p in
              let here : b ≡ block_at u pin chunk = same-block b cells.pin parts.0 ∙ at_pin in
              record { lane = i; within = h; set = parts.1; cell = inl (ap (λ x. cell_of u x i) here ∙ cell-of u pin chunk i early) }
          | inr rest ↦ elim (or_cases (eqb b.0 cells.own.0 && (ltb 0 i && is_set shared (i - 1))) (eqb b.0 cells.next.0 && (eqb i 0 && is_set shared 63)) rest) [
            | inl o ↦
                let parts : (eqb b.0 cells.own.0 ≡ true) × ((ltb 0 i && is_set shared (i - 1)) ≡ true) = and_parts (eqb b.0 cells.own.0) (ltb 0 i && is_set shared (i - 1)) o in
                let more : (ltb 0 i ≡ true) × (is_set shared (i - 1) ≡ true) = and_parts (ltb 0 i) (is_set shared (i - 1)) parts.1 in
                let above : 0 < i = ltb-true 0 i more.0 in
                let here : b ≡ block_at u target chunk = same-block b cells.own parts.0 ∙ at_own in
                record {
                  lane = i - 1;
                  within = omega arith;
                  set = more.1;
                  cell = inr (ap (λ x. cell_of u x i) here ∙ cell-of u target chunk i early ∙ ap (λ n. cell_at n target) (back chunk i above));
                }
            | inr n ↦
                let parts : (eqb b.0 cells.next.0 ≡ true) × ((eqb i 0 && is_set shared 63) ≡ true) = and_parts (eqb b.0 cells.next.0) (eqb i 0 && is_set shared 63) n in
                let more : (eqb i 0 ≡ true) × (is_set shared 63 ≡ true) = and_parts (eqb i 0) (is_set shared 63) parts.1 in
                let first : i ≡ 0 = eqb-true i 0 more.0 in
                let here : b ≡ block_at u target (chunk + 1) = same-block b cells.next parts.0 ∙ at_next in
                record {
                  lane = 63;
                  within = omega arith;
                  set = more.1;
                  cell = inr (ap (λ x. cell_of u x i) here ∙ cell-of u target (chunk + 1) i (next-chunk more.1) ∙ ap (λ n. cell_at n target) (carry chunk i first));
                }
          ]
        ]
      where
        back : (m n : ℕ) → 0 < n → 64 * m + n ≡ 64 * m + (n - 1) + 1
        back m n above = omega arith

        carry : (m n : ℕ) → n ≡ 0 → 64 * (m + 1) + n ≡ 64 * m + 63 + 1
        carry m n e = omega arith

    is-in : (b : Block) (i : ℕ) → i < 64 → IsShownAt target pin chunk shared (cell_of u b i) → is_bit_of cells b shared i ≡ true
    is-in b i h a =
        elim a.cell [
          | inl e ↦
              let at : (b ≡ block_at u pin chunk) × (i ≡ a.lane) = bit-of-cell u b i pin chunk a.lane h a.within e in
              or_left (eqb b.0 cells.pin.0 && is_set shared i) ((eqb b.0 cells.own.0 && (ltb 0 i && is_set shared (i - 1))) || (eqb b.0 cells.next.0 && (eqb i 0 && is_set shared 63)))
              (and_from (eqb b.0 cells.pin.0) (is_set shared i) (same-number b cells.pin (at.0 ∙ sym at_pin)) (ap (is_set shared) at.1 ∙ a.set))
          | inr e ↦
              or_right (eqb b.0 cells.pin.0 && is_set shared i) ((eqb b.0 cells.own.0 && (ltb 0 i && is_set shared (i - 1))) || (eqb b.0 cells.next.0 && (eqb i 0 && is_set shared 63)))
              (elim (cases_lt a.lane 63) [
                | inl below ↦
                    let at : (b ≡ block_at u target chunk) × (i ≡ a.lane + 1) = bit-of-cell u b i target chunk (a.lane + 1) h (omega arith) (e ∙ ap (λ n. cell_at n target) (next chunk a.lane)) in
                    or_left (eqb b.0 cells.own.0 && (ltb 0 i && is_set shared (i - 1))) (eqb b.0 cells.next.0 && (eqb i 0 && is_set shared 63))
                    (and_from (eqb b.0 cells.own.0) (ltb 0 i && is_set shared (i - 1)) (same-number b cells.own (at.0 ∙ sym at_own))
                    (and_from (ltb 0 i) (is_set shared (i - 1)) (lt-ltb 0 i (omega (arith, at.1))) (ap (is_set shared) (before i a.lane at.1) ∙ a.set)))
                | inr last ↦
                    let at : (b ≡ block_at u target (chunk + 1)) × (i ≡ 0) = bit-of-cell u b i target (chunk + 1) 0 h (omega arith) (e ∙ ap (λ n. cell_at n target) (carry chunk a.lane a.within last)) in
                    or_right (eqb b.0 cells.own.0 && (ltb 0 i && is_set shared (i - 1))) (eqb b.0 cells.next.0 && (eqb i 0 && is_set shared 63))
                    (and_from (eqb b.0 cells.next.0) (eqb i 0 && is_set shared 63) (same-number b cells.next (at.0 ∙ sym at_next))
                    (and_from (eqb i 0) (is_set shared 63) (eq-eqb i 0 at.1) (ap (is_set shared) (sixty-three a.lane a.within last) ∙ a.set)))
              ])
        ]
      where
        same-number : (c d : Block) → c ≡ d → eqb c.0 d.0 ≡ true
        same-number c d e = eq-eqb c.0 d.0 (ap (λ x. x.0) e)

        next : (m n : ℕ) → 64 * m + n + 1 ≡ 64 * m + (n + 1)
        next m n = omega arith

        before : (m n : ℕ) → m ≡ n + 1 → m - 1 ≡ n
        before m n e = omega arith

        sixty-three : (n : ℕ) → n < 64 → 63 ≤ n → 63 ≡ n
        sixty-three n p q = omega arith

        carry : (m n : ℕ) → n < 64 → 63 ≤ n → 64 * m + n + 1 ≡ 64 * (m + 1) + 0
        carry m n p q = omega arith

    -- so the bits of a block are what the task forces of its cells in the cycles of the mask
    pub block-forced : driver_at u.circuit.drivers target.0 ≡ Driven Dff (pin ∷ []) → (b : Block) (i : ℕ) → i < 64
        → IsTrue (is_bit_of cells b shared i) ↔ ForcedInCycles u (task_at u target chunk) mask (view_has u blocks view) (lit (cell_of u b i) bit)
    block-forced driver b i h =
        let exact = shown-forced u target pin chunk early (view_has u blocks view) valid mask is_valid bit (word_for bit (words_of blocks view cells.pin)) (word_for bit (words_of blocks view cells.own))
        (word_for bit (words_of blocks view cells.next)) shared is pin-known after-known driver (cell_of u b i) in
        (λ set. exact.0 (found b i h set), λ f. is-in b i h (exact.1 f))
