-- What words have to say so that they are what the task of a flip-flop forces, whose pin is of another signal.
use Rattle.std.proofs.Common.{ℕ, ◌≡◌, ◌≢◌, ◌+◌, ◌-◌, ◌*◌, ◌/◌, ◌<◌, ◌≤◌, ◌↔◌, ◌&&◌, Bool, true, eqb, ltb, List, [], ◌∷◌, length, get_or, zero, suc, arith, inl, inr, refl, sym, ap, ◌∙◌, subst}
use Rattle.std.specs.Prelude.{IsTrue}
use Rattle.std.proofs.lemmas.Bool.{cases_lt, cond-true, cond-false, lt-ltb, le-ltb, ltb-true, eqb-true, eq-eqb, and_parts, and_from}
use Rattle.std.proofs.Math.Bool.{and-true}
use Rattle.sr_model.specs.declared.gates.Kind.TheVariants.{Dff}
use Rattle.sr_model.specs.declared.cells.Sig.{Sig}
use Rattle.sr_model.specs.declared.cells.Cell.{Cell}
use Rattle.sr_model.specs.declared.cells.Lit.{Lit}
use Rattle.sr_model.specs.Netlist.{Driven, cell_at}
use Rattle.sr_model.specs.Closure.{lit}
use Rattle.sr_model.proofs.lemmas.Laws.{flip_flop-dff}
use Rattle.netlist.specs.Wiring.{driver_at}
use Rattle.unroll.specs.declared.problem.Block.{Block}
use Rattle.unroll.specs.declared.problem.InChunk.{InChunk}
use Rattle.unroll.specs.declared.words.PinWord.{PinWord}
use Rattle.unroll.specs.declared.records.Shape.TheVariants as shapes
use Rattle.unroll.specs.Bits.{is_set, is_cycle, word_for, no_words}
use Rattle.unroll.specs.Problem.{Unrolling, HaveNoLaterBit, chunks_in, block_at}
use Rattle.unroll.specs.Records.{HasShape}
use Rattle.unroll.specs.Tasks.{IsTaskAt, task_in}
use Rattle.unroll.proofs.lemmas.Laws.{cycle-chunk}
use Rattle.unroll.proofs.lemmas.Words.{all-set}
use Rattle.gate_rules.specs.Lanes.{words_at_place}
use Rattle.gate_rules.specs.Forced.{ForcedIn, AreForcedBy, IsViewOf, lit_at_place}
use Rattle.gate_rules.specs.FewPins.{HasNextCycles, blocks_at, one_pin_places, flip_flop_places}
use Rattle.gate_rules.specs.FewPinBits.{literal}
use Rattle.gate_rules.specs.FlipFlopBits.{is_set_after, is_shared}
use Rattle.gate_rules.proofs.FewPinTasks.{lit-here, view-says}
use Rattle.gate_rules.proofs.FlipFlopShared.{IsShownAt, shown-forced}
use Rattle.gate_rules.proofs.NewLiterals.{forced-in_cycles, in_cycles-forced}

-- a cycle by its chunk and bit
same-lane : (c i k : ℕ) → 64 * c + i ≡ 64 * c + k → i ≡ k
same-lane c i k e = omega (arith, e)

lane-before : (c i k : ℕ) → 64 * c + i ≡ 64 * c + k + 1 → i ≡ k + 1
lane-before c i k e = omega (arith, e)

lane-last : (c i k : ℕ) → k < 64 → 64 * (c + 1) + i ≡ 64 * c + k + 1 → (i ≡ 0) × (63 ≡ k)
lane-last c i k h e = (omega (arith, h, e), omega (arith, h, e))

module _ (u : Unrolling) (at : InChunk) (pin other : Sig) (task : IsTaskAt u at) (shape : HasShape shapes.FlipFlop (driver_at u.circuit.drivers at.sig.0) at.sig pin other) (valid : ℕ)
    (nexts : HasNextCycles u at.chunk valid) (known : Lit → Bool) (blocks : List Block) (view : List PinWord) (viewed : IsViewOf u blocks known view) (no_later : HaveNoLaterBit u blocks view)
    (some : 1 < length blocks) (own_here : get_or blocks 0 (record { 0 = 0 }) ≡ block_at u at.sig at.chunk) (pin_here : get_or blocks 1 (record { 0 = 0 }) ≡ block_at u pin at.chunk) where
  module _ (bit : Bool) (next shared : ℕ) (next-known : 64 * at.chunk + 63 + 1 < u.cycles → is_set next 0 ≡ known (lit (cell_at (64 * at.chunk + 63 + 1) at.sig) bit))
      (is : (i : ℕ) → i < 64 → is_set shared i ≡ is_shared (word_for bit (words_at_place view 1)) (word_for bit (words_at_place view 0)) next valid i) where
    pin-known : (k : ℕ) → k < 64 → 64 * at.chunk + k + 1 < u.cycles → is_set (word_for bit (words_at_place view 1)) k ≡ known (lit (cell_at (64 * at.chunk + k) pin) bit)
    pin-known k h early = view-says u at task blocks known view viewed no_later 1 pin some pin_here k h bit (omega (arith, early))

    after-known : (k : ℕ) → k < 64 → 64 * at.chunk + k + 1 < u.cycles
        → is_set_after (word_for bit (words_at_place view 0)) next k ≡ known (lit (cell_at (64 * at.chunk + k + 1) at.sig) bit)
    after-known k h early =
        elim (cases_lt k 63) [
          | inl below ↦
              cond-true (ltb k 63) (is_set (word_for bit (words_at_place view 0)) (k + 1)) (is_set next 0) (lt-ltb k 63 below)
              ∙ view-says u at task blocks known view viewed no_later 0 at.sig (omega (arith, some)) own_here (k + 1) (omega (arith, below)) bit (omega (arith, early))
              ∙ ap (λ n. known (lit (cell_at n at.sig) bit)) (later at.chunk k)
          | inr last ↦
              let whole : 64 * at.chunk + 63 + 1 ≡ 64 * at.chunk + k + 1 = same at.chunk k h last in
              cond-false (ltb k 63) (is_set (word_for bit (words_at_place view 0)) (k + 1)) (is_set next 0) (le-ltb k 63 last)
              ∙ next-known (subst (λ n. n < u.cycles) (sym whole) early) ∙ ap (λ n. known (lit (cell_at n at.sig) bit)) whole
        ]
      where
        later : (c n : ℕ) → 64 * c + (n + 1) ≡ 64 * c + n + 1
        later c n = omega arith

        same : (c n : ℕ) → n < 64 → 63 ≤ n → 64 * c + 63 + 1 ≡ 64 * c + n + 1
        same c n p q = omega (arith, p, q)

    driver : driver_at u.circuit.drivers at.sig.0 ≡ Driven Dff (pin ∷ [])
    driver = shape.1 ∙ ap (λ k. Driven k (pin ∷ [])) (flip_flop-dff shape.0 shape.2)

    is-valid : (i : ℕ) → i < 64 → is_set valid i ≡ (is_cycle u.cycles at.chunk (i + 1) && is_set 18446744073709551615 i)
    is-valid i h = nexts i h ∙ sym (ap (λ b. is_cycle u.cycles at.chunk (i + 1) && b) (all-set i h) ∙ and-true (is_cycle u.cycles at.chunk (i + 1)))

    shown : (c : Cell) → IsShownAt at.sig pin at.chunk shared c ↔ ForcedIn u (task_in u at) known (lit c bit)
    shown c =
        let exact = shown-forced u at.sig pin at.chunk task.early known valid 18446744073709551615 is-valid bit (word_for bit (words_at_place view 1)) (word_for bit (words_at_place view 0)) next shared is
        pin-known after-known driver c in (
          λ a. in_cycles-forced u (task_in u at) 18446744073709551615 known (lit c bit) (exact.0 a),
          λ f. exact.1 (forced-in_cycles u (task_in u at) 18446744073709551615 known (lit c bit) all-set f),
        )

    apart : (m n : ℕ) → cell_at m pin ≢ cell_at n at.sig
    apart m n e = shape.3 (ap (λ (c : Cell). c.sig) e)

    pub at-pin : (i : ℕ) → i < 64 → (is_set shared i ≡ true) ↔ ForcedIn u (task_in u at) known (lit_at_place u blocks 1 bit i)
    at-pin i h =
        subst (λ l. (is_set shared i ≡ true) ↔ ForcedIn u (task_in u at) known l) (sym (lit-here u at task blocks known view viewed no_later 1 pin some pin_here i h bit)) (
          λ set. (shown (cell_at (64 * at.chunk + i) pin)).0 (record { lane = i; within = h; set = set; cell = inl refl }),
          λ f.
              let a : IsShownAt at.sig pin at.chunk shared (cell_at (64 * at.chunk + i) pin) = (shown (cell_at (64 * at.chunk + i) pin)).1 f in
              elim a.cell [
                | inl e ↦ ap (is_set shared) (same-lane at.chunk i a.lane (ap (λ (c : Cell). c.cycle) e)) ∙ a.set
                | inr e ↦ absurd (apart (64 * at.chunk + i) (64 * at.chunk + a.lane + 1) e)
              ],
        )

    pub at-own : (i : ℕ) → i < 64 → ((ltb 0 i && is_set shared (i - 1)) ≡ true) ↔ ForcedIn u (task_in u at) known (lit_at_place u blocks 0 bit i)
    at-own i h =
        subst (λ l. ((ltb 0 i && is_set shared (i - 1)) ≡ true) ↔ ForcedIn u (task_in u at) known l)
        (sym (lit-here u at task blocks known view viewed no_later 0 at.sig (omega (arith, some)) own_here i h bit)) (
          λ set.
              let parts : (ltb 0 i ≡ true) × (is_set shared (i - 1) ≡ true) = and_parts (ltb 0 i) (is_set shared (i - 1)) set in
              let above : 0 < i = ltb-true 0 i parts.0 in
              (shown (cell_at (64 * at.chunk + i) at.sig)).0 (record {
                lane = i - 1;
                within = omega (arith, h);
                set = parts.1;
                cell = inr (ap (λ n. cell_at n at.sig) (back at.chunk i above));
              }),
          λ f.
              let a : IsShownAt at.sig pin at.chunk shared (cell_at (64 * at.chunk + i) at.sig) = (shown (cell_at (64 * at.chunk + i) at.sig)).1 f in
              elim a.cell [
                | inl e ↦ absurd (apart (64 * at.chunk + a.lane) (64 * at.chunk + i) (sym e))
                | inr e ↦
                    let lane : i ≡ a.lane + 1 = lane-before at.chunk i a.lane (ap (λ (c : Cell). c.cycle) e) in
                    and_from (ltb 0 i) (is_set shared (i - 1)) (lt-ltb 0 i (omega (arith, lane))) (ap (is_set shared) (before i a.lane lane) ∙ a.set)
              ],
        )
      where
        back : (c n : ℕ) → 0 < n → 64 * c + n ≡ 64 * c + (n - 1) + 1
        back c n above = omega (arith, above)

        before : (m n : ℕ) → m ≡ n + 1 → m - 1 ≡ n
        before m n e = omega (arith, e)

    pub at-next : (i : ℕ) → i < 64 → ((eqb i 0 && is_set shared 63) ≡ true) ↔ ForcedIn u (task_in u at) known (lit (cell_at (64 * (at.chunk + 1) + i) at.sig) bit)
    at-next i h = (
      λ set.
          let parts : (eqb i 0 ≡ true) × (is_set shared 63 ≡ true) = and_parts (eqb i 0) (is_set shared 63) set in
          (shown (cell_at (64 * (at.chunk + 1) + i) at.sig)).0 (record {
            lane = 63;
            within = omega arith;
            set = parts.1;
            cell = inr (ap (λ n. cell_at n at.sig) (whole at.chunk i (eqb-true i 0 parts.0)));
          }),
      λ f.
          let a : IsShownAt at.sig pin at.chunk shared (cell_at (64 * (at.chunk + 1) + i) at.sig) = (shown (cell_at (64 * (at.chunk + 1) + i) at.sig)).1 f in
          elim a.cell [
            | inl e ↦ absurd (apart (64 * at.chunk + a.lane) (64 * (at.chunk + 1) + i) (sym e))
            | inr e ↦
                let lane : (i ≡ 0) × (63 ≡ a.lane) = lane-last at.chunk i a.lane a.within (ap (λ (c : Cell). c.cycle) e) in
                and_from (eqb i 0) (is_set shared 63) (eq-eqb i 0 lane.0) (ap (is_set shared) lane.1 ∙ a.set)
          ],
    )
      where
        whole : (c n : ℕ) → n ≡ 0 → 64 * (c + 1) + n ≡ 64 * c + 63 + 1
        whole c n e = omega (arith, e)

-- over two chunks
module _ (u : Unrolling) (at : InChunk) (pin other : Sig) (task : IsTaskAt u at) (shape : HasShape shapes.FlipFlop (driver_at u.circuit.drivers at.sig.0) at.sig pin other) (valid : ℕ)
    (nexts : HasNextCycles u at.chunk valid) (goes_on : at.chunk + 1 < chunks_in u) (known : Lit → Bool) (view words : List PinWord) (shared : PinWord)
    (viewed : IsViewOf u (blocks_at u (flip_flop_places at pin)) known view) (no_later : HaveNoLaterBit u (blocks_at u (flip_flop_places at pin)) view)
    (is : (i : ℕ) (bit : Bool) → i < 64
    → literal shared i bit ≡ is_shared (word_for bit (words_at_place view 1)) (word_for bit (words_at_place view 0)) (word_for bit (words_at_place view 2)) valid i) where
  abbrev three : List Block
  three = blocks_at u (flip_flop_places at pin)

  -- the flip-flop in the next chunk
  abbrev after : InChunk
  after = record { sig = at.sig; chunk = at.chunk + 1 }

  is-after : IsTaskAt u after
  is-after = record { signal = task.signal; early = goes_on; driven = task.driven }

  next-says : (bit : Bool) → 64 * at.chunk + 63 + 1 < u.cycles → literal (words_at_place view 2) 0 bit ≡ known (lit (cell_at (64 * at.chunk + 63 + 1) at.sig) bit)
  next-says bit early =
      view-says u after is-after three known view viewed no_later 2 at.sig (omega arith) refl 0 (omega arith) bit (subst (λ n. n < u.cycles) (whole at.chunk) early)
      ∙ ap (λ n. known (lit (cell_at n at.sig) bit)) (sym (whole at.chunk))
    where
      whole : (c : ℕ) → 64 * c + 63 + 1 ≡ 64 * (c + 1) + 0
      whole c = omega arith

  pub over_chunks : ((i : ℕ) (bit : Bool) → i < 64 → literal (words_at_place words 0) i bit ≡ (ltb 0 i && literal shared (i - 1) bit))
      → ((i : ℕ) (bit : Bool) → i < 64 → literal (words_at_place words 1) i bit ≡ literal shared i bit)
      → ((i : ℕ) (bit : Bool) → i < 64 → literal (words_at_place words 2) i bit ≡ (eqb i 0 && literal shared 63 bit))
      → AreForcedBy u (task_in u at) three known words
  over_chunks own pins next zero i bit within lane =
      subst (λ set. IsTrue set ↔ ForcedIn u (task_in u at) known (lit_at_place u three 0 bit i)) (sym (own i bit lane))
      (at-own u at pin other task shape valid nexts known three view viewed no_later (omega arith) refl refl bit (word_for bit (words_at_place view 2)) (word_for bit shared) (next-says bit) (λ k h. is k bit h) i lane)
  over_chunks own pins next (suc zero) i bit within lane =
      subst (λ set. IsTrue set ↔ ForcedIn u (task_in u at) known (lit_at_place u three 1 bit i)) (sym (pins i bit lane))
      (at-pin u at pin other task shape valid nexts known three view viewed no_later (omega arith) refl refl bit (word_for bit (words_at_place view 2)) (word_for bit shared) (next-says bit) (λ k h. is k bit h) i lane)
  over_chunks own pins next (suc (suc zero)) i bit within lane =
      subst (λ set. IsTrue set ↔ ForcedIn u (task_in u at) known (lit_at_place u three 2 bit i)) (sym (next i bit lane))
      (subst (λ l. IsTrue (eqb i 0 && literal shared 63 bit) ↔ ForcedIn u (task_in u at) known l) (sym (lit-here u after is-after three known view viewed no_later 2 at.sig (omega arith) refl i lane bit))
      (at-next u at pin other task shape valid nexts known three view viewed no_later (omega arith) refl refl bit (word_for bit (words_at_place view 2)) (word_for bit shared) (next-says bit) (λ k h. is k bit h) i lane))
  over_chunks own pins next (suc (suc (suc j))) i bit within lane = absurd (omega arith)

-- in the last chunk
module _ (u : Unrolling) (at : InChunk) (pin other : Sig) (task : IsTaskAt u at) (shape : HasShape shapes.FlipFlop (driver_at u.circuit.drivers at.sig.0) at.sig pin other) (valid : ℕ)
    (nexts : HasNextCycles u at.chunk valid) (is_last : at.chunk + 1 ≡ chunks_in u) (known : Lit → Bool) (view words : List PinWord) (shared : PinWord)
    (viewed : IsViewOf u (blocks_at u (one_pin_places at pin)) known view) (no_later : HaveNoLaterBit u (blocks_at u (one_pin_places at pin)) view)
    (is : (i : ℕ) (bit : Bool) → i < 64
    → literal shared i bit ≡ is_shared (word_for bit (words_at_place view 1)) (word_for bit (words_at_place view 0)) (word_for bit no_words) valid i) where
  abbrev last_two : List Block
  last_two = blocks_at u (one_pin_places at pin)

  no-next : (bit : Bool) → 64 * at.chunk + 63 + 1 < u.cycles → literal no_words 0 bit ≡ known (lit (cell_at (64 * at.chunk + 63 + 1) at.sig) bit)
  no-next bit early =
      let chunk : (64 * at.chunk + 63 + 1) / 64 < chunks_in u = cycle-chunk u (64 * at.chunk + 63 + 1) early in
      let later : at.chunk + 1 < chunks_in u = subst (λ n. n < chunks_in u) (whole at.chunk) chunk in
      absurd (omega (arith, later, is_last))
    where
      whole : (n : ℕ) → (64 * n + 63 + 1) / 64 ≡ n + 1
      whole n = omega arith

  pub in_last : ((i : ℕ) (bit : Bool) → i < 64 → literal (words_at_place words 0) i bit ≡ (ltb 0 i && literal shared (i - 1) bit))
      → ((i : ℕ) (bit : Bool) → i < 64 → literal (words_at_place words 1) i bit ≡ literal shared i bit)
      → AreForcedBy u (task_in u at) last_two known words
  in_last own pins zero i bit within lane =
      subst (λ set. IsTrue set ↔ ForcedIn u (task_in u at) known (lit_at_place u last_two 0 bit i)) (sym (own i bit lane))
      (at-own u at pin other task shape valid nexts known last_two view viewed no_later (omega arith) refl refl bit (word_for bit no_words) (word_for bit shared) (no-next bit) (λ k h. is k bit h) i lane)
  in_last own pins (suc zero) i bit within lane =
      subst (λ set. IsTrue set ↔ ForcedIn u (task_in u at) known (lit_at_place u last_two 1 bit i)) (sym (pins i bit lane))
      (at-pin u at pin other task shape valid nexts known last_two view viewed no_later (omega arith) refl refl bit (word_for bit no_words) (word_for bit shared) (no-next bit) (λ k h. is k bit h) i lane)
  in_last own pins (suc (suc j)) i bit within lane = absurd (omega arith)
