-- What words have to say so that they are what a task with few pins forces.
use Rattle.std.proofs.Common.{ℕ, ◌≡◌, ◌≢◌, ◌+◌, ◌*◌, ◌<◌, ◌≤◌, ◌↔◌, ◌&&◌, ◌||◌, Bool, true, false, not, cond, List, [], ◌∷◌, length, map, get_or, arith, zero, suc, inl, inr, refl, sym, ap, ◌∙◌, subst}
use Rattle.std.specs.Prelude.{IsTrue}
use Rattle.std.proofs.lemmas.Bool.{cases_Bool, cases_lt, and_left, or_from, and_parts, and_from, not-true, not_from_false, ltb-true, true≢false}
use Rattle.sr_model.specs.declared.gates.Kind.{Kind}
use Rattle.sr_model.specs.declared.gates.Family.{Family}
use Rattle.sr_model.specs.declared.gates.Family.TheVariants.{AndLike, Parity}
use Rattle.sr_model.specs.declared.cells.Sig.{Sig}
use Rattle.sr_model.specs.declared.cells.Cell.{Cell}
use Rattle.sr_model.specs.declared.cells.Lit.{Lit}
use Rattle.sr_model.specs.AndLike.{IsAndLike}
use Rattle.sr_model.specs.Gate.{is_flip_flop_kind}
use Rattle.sr_model.specs.KindLaws.{IsOfFamily}
use Rattle.sr_model.specs.Netlist.{Driven, Instance, cell_at, delay}
use Rattle.sr_model.specs.Closure.{Forces, passing, lit}
use Rattle.sr_model.specs.XorLike.{plus}
use Rattle.sr_model.proofs.lemmas.Instances.{instance_of}
use Rattle.netlist.specs.Wiring.{driver_at}
use Rattle.unroll.specs.declared.problem.Block.{Block}
use Rattle.unroll.specs.declared.problem.InChunk.{InChunk}
use Rattle.unroll.specs.declared.problem.Task.{Task}
use Rattle.unroll.specs.declared.words.PinWord.{PinWord}
use Rattle.unroll.specs.declared.records.Shape.TheVariants as shapes
use Rattle.unroll.specs.Bits.{is_set}
use Rattle.unroll.specs.Problem.{Unrolling, IsProblem, HaveNoLaterBit, chunk_at, block_at, cell_of}
use Rattle.unroll.specs.Records.{HasShape}
use Rattle.unroll.specs.Tasks.{IsTaskAt, task_in}
use Rattle.unroll.proofs.lemmas.Laws.{block-chunk}
use Rattle.unroll.proofs.lemmas.Tasks.{pin-count}
use Rattle.unroll.proofs.lemmas.Words.{all-set}
use Rattle.gate_rules.specs.Lanes.{words_at_place}
use Rattle.gate_rules.specs.Forced.{ForcedIn, AreForcedBy, IsViewOf, bit_at_place, lit_at_place}
use Rattle.gate_rules.specs.FewPins.{AreNewBy, blocks_at, one_pin_places, two_pin_places}
use Rattle.gate_rules.specs.FewPinBits.{inverts, literal, sum_has}
use Rattle.gate_rules.proofs.FlipFlopBlocks.{cell-of}
use Rattle.gate_rules.proofs.GateForced.{task-instance, instance-task, family-rule}
use Rattle.gate_rules.proofs.GateLanes.{lane_place}
use Rattle.gate_rules.proofs.NewLiterals.{forced-in_time, forced-in_cycles, in_cycles-forced}
use Rattle.gate_rules.proofs.PairGates.{by_bit, inverts_and_like, inverts_parity, lone_target, lone_pin, PairForces, pair_forces}
use Rattle.gate_rules.proofs.ParityPair.{or_swap, plus_twice, turned_sum, parity_target, parity_first, parity_second}

-- what of the forced literals the view does not have
pub new-by : (u : Unrolling) (t : Task) (blocks : List Block) (known : Lit → Bool) (view forced new : List PinWord) → IsViewOf u blocks known view → AreForcedBy u t blocks known forced
    → ((j i : ℕ) (bit : Bool) → j < length blocks → i < 64 → bit_at_place new j bit i ≡ (bit_at_place forced j bit i && not (bit_at_place view j bit i))) → AreNewBy u t blocks known new
new-by u t blocks known view forced new viewed exact taken j i bit within lane =
    let l : Lit = lit_at_place u blocks j bit i in (
      λ set.
          let both : (bit_at_place forced j bit i ≡ true) × (not (bit_at_place view j bit i) ≡ true) =
          and_parts (bit_at_place forced j bit i) (not (bit_at_place view j bit i)) (sym (taken j i bit within lane) ∙ set) in
          let f : ForcedIn u t known (lit_at_place u blocks j bit i) = (exact j i bit within lane).0 both.0 in
          (f, sym (viewed j i bit within lane (forced-in_time u t known l f)) ∙ not-true (bit_at_place view j bit i) both.1),
      λ (f, none). taken j i bit within lane
          ∙ and_from (bit_at_place forced j bit i) (not (bit_at_place view j bit i)) ((exact j i bit within lane).1 f)
          (not_from_false (bit_at_place view j bit i) (viewed j i bit within lane (forced-in_time u t known l f) ∙ none)),
    )

-- the gate in a cycle
abbrev gate_at : Kind → Sig → List Sig → ℕ → Instance
gate_at kind s pins n = record { kind = kind; target = cell_at n s; pins = map (cell_at n) pins }

module _ (u : Unrolling) (at : InChunk) (task : IsTaskAt u at) (blocks : List Block) (known : Lit → Bool) (view : List PinWord) (viewed : IsViewOf u blocks known view)
    (no_later : HaveNoLaterBit u blocks view) where
  -- the cell of a bit of the chunk
  abbrev cell : ℕ → Sig → Cell
  cell i s = cell_at (64 * at.chunk + i) s

  module _ (j : ℕ) (s : Sig) (within : j < length blocks) (here : get_or blocks j (record { 0 = 0 }) ≡ block_at u s at.chunk) (i : ℕ) (lane : i < 64) where
    pub lit-here : (bit : Bool) → lit_at_place u blocks j bit i ≡ lit (cell i s) bit
    lit-here bit = ap (λ b. lit (cell_of u b i) bit) here ∙ ap (λ c. lit c bit) (cell-of u s at.chunk i task.early)

    pub view-says : (bit : Bool) → 64 * at.chunk + i < u.cycles → literal (words_at_place view j) i bit ≡ known (lit (cell i s) bit)
    view-says bit in_time = viewed j i bit within lane (subst (λ (l : Lit). l.cell.cycle < u.cycles) (sym (lit-here bit)) in_time) ∙ ap known (lit-here bit)

    pub none-late : (bit : Bool) → u.cycles ≤ 64 * at.chunk + i → literal (words_at_place view j) i bit ≡ false
    none-late bit late =
        elim (cases_Bool (literal (words_at_place view j) i bit)) [
          | inl set ↦
              let chunk : chunk_at u (get_or blocks j (record { 0 = 0 })) ≡ at.chunk = ap (chunk_at u) here ∙ block-chunk u s at.chunk task.early in
              let early : 64 * chunk_at u (get_or blocks j (record { 0 = 0 })) + i < u.cycles =
              ltb-true (64 * chunk_at u (get_or blocks j (record { 0 = 0 })) + i) u.cycles (no_later j within bit i lane set) in
              let early_here : 64 * at.chunk + i < u.cycles = subst (λ n. 64 * n + i < u.cycles) chunk early in
              absurd (omega (arith, early_here, late))
          | inr none ↦ none
        ]

    module _ (kind : Kind) (pins : List Sig) (driver : driver_at u.circuit.drivers at.sig.0 ≡ Driven kind pins) (gate : is_flip_flop_kind kind ≡ false) where
      none : delay kind ≡ 0
      none = ap (λ b. cond {A = ℕ} b 1 0) gate

      instance-is : instance_of kind pins (lane_place at.sig at.chunk i) ≡ gate_at kind at.sig pins (64 * at.chunk + i)
      instance-is = ap (λ n. record { kind = kind; target = cell_at n at.sig; pins = map (cell_at (64 * at.chunk + i)) pins }) (no_more (64 * at.chunk + i) (delay kind) none) where
        no_more : (m n : ℕ) → n ≡ 0 → m + n ≡ m
        no_more m n e = omega (arith, e)

      -- a bit that says what the gate forces in the cycle says what the task does
      pub gate-exact : (bit set says : Bool) → set ≡ says → (64 * at.chunk + i < u.cycles → IsTrue says ↔ Forces (gate_at kind at.sig pins (64 * at.chunk + i)) (passing known) (lit (cell i s) bit))
          → (u.cycles ≤ 64 * at.chunk + i → says ≡ false) → IsTrue set ↔ ForcedIn u (task_in u at) known (lit_at_place u blocks j bit i)
      gate-exact bit set says is exact late = (
        λ h. subst (ForcedIn u (task_in u at) known) (sym (lit-here bit)) (elim (cases_lt (64 * at.chunk + i) u.cycles) [
          | inl in_time ↦
              in_cycles-forced u (task_in u at) 18446744073709551615 known (lit (cell i s) bit)
              (instance-task u at.sig at.chunk task.early kind pins driver none 18446744073709551615 known i (lit (cell i s) bit) lane in_time (all-set i lane)
              (subst (λ g. Forces g (passing known) (lit (cell i s) bit)) (sym instance-is) ((exact in_time).0 (sym is ∙ h))))
          | inr beyond ↦ absurd (true≢false (sym h ∙ is ∙ late beyond))
        ]),
        λ f.
            let there = task-instance u at.sig at.chunk task.early kind pins driver none 18446744073709551615 known i s bit lane
            (forced-in_cycles u (task_in u at) 18446744073709551615 known (lit (cell i s) bit) all-set (subst (ForcedIn u (task_in u at) known) (lit-here bit) f)) in
            is ∙ (exact there.0).1 (subst (λ g. Forces g (passing known) (lit (cell i s) bit)) instance-is there.2),
      )

-- a gate with two pins
module _ (u : Unrolling) (at : InChunk) (first second : Sig) (is : IsProblem u) (task : IsTaskAt u at) (family : Family)
    (shape : HasShape (shapes.TwoPins family) (driver_at u.circuit.drivers at.sig.0) at.sig first second) (known : Lit → Bool) (view words : List PinWord)
    (viewed : IsViewOf u (blocks_at u (two_pin_places at first second)) known view) (no_later : HaveNoLaterBit u (blocks_at u (two_pin_places at first second)) view) where
  abbrev two : List Block
  two = blocks_at u (two_pin_places at first second)

  -- what is there of the target, and of the pins
  abbrev has : ℕ → ℕ → Bool → Bool
  has j i bit = literal (words_at_place view j) i bit

  apart : (n : ℕ) (s r : Sig) → s ≢ r → cell_at n s ≢ cell_at n r
  apart n s r other e = other (ap (λ (c : Cell). c.sig) e)

  rule : (n : ℕ) → IsOfFamily family (gate_at shape.0 at.sig (first ∷ second ∷ []) n)
  rule n =
      family-rule shape.0 family (sym shape.2) (gate_at shape.0 at.sig (first ∷ second ∷ []) n) refl
      (pin-count u is shape.0 (first ∷ second ∷ []) (lane_place at.sig at.chunk 0) shape.1)

  module _ (i : ℕ) (lane : i < 64) where
    says_target : 64 * at.chunk + i < u.cycles → (bit : Bool) → has 0 i bit ≡ known (lit (cell_at (64 * at.chunk + i) at.sig) bit)
    says_target in_time bit = view-says u at task two known view viewed no_later 0 at.sig (omega arith) refl i lane bit in_time

    says_first : 64 * at.chunk + i < u.cycles → (bit : Bool) → has 1 i bit ≡ known (lit (cell_at (64 * at.chunk + i) first) bit)
    says_first in_time bit = view-says u at task two known view viewed no_later 1 first (omega arith) refl i lane bit in_time

    says_second : 64 * at.chunk + i < u.cycles → (bit : Bool) → has 2 i bit ≡ known (lit (cell_at (64 * at.chunk + i) second) bit)
    says_second in_time bit = view-says u at task two known view viewed no_later 2 second (omega arith) refl i lane bit in_time

    late_target : u.cycles ≤ 64 * at.chunk + i → (bit : Bool) → has 0 i bit ≡ false
    late_target late bit = none-late u at task two known view viewed no_later 0 at.sig (omega arith) refl i lane bit late

    late_first : u.cycles ≤ 64 * at.chunk + i → (bit : Bool) → has 1 i bit ≡ false
    late_first late bit = none-late u at task two known view viewed no_later 1 first (omega arith) refl i lane bit late

    late_second : u.cycles ≤ 64 * at.chunk + i → (bit : Bool) → has 2 i bit ≡ false
    late_second late bit = none-late u at task two known view viewed no_later 2 second (omega arith) refl i lane bit late

    -- the words at a place say what the task forces there, where a formula does
    abbrev Says : ℕ → Bool → Type 0
    Says j bit = IsTrue (literal (words_at_place words j) i bit) ↔ ForcedIn u (task_in u at) known (lit_at_place u two j bit i)

    abbrev InCycle : Bool → Sig → Bool → Type 0
    InCycle says s bit =
        64 * at.chunk + i < u.cycles → IsTrue says ↔ Forces (gate_at shape.0 at.sig (first ∷ second ∷ []) (64 * at.chunk + i)) (passing known) (lit (cell_at (64 * at.chunk + i) s) bit)

    exact_at : (j : ℕ) (s : Sig) → j < 3 → get_or two j (record { 0 = 0 }) ≡ block_at u s at.chunk → (bit says : Bool) → literal (words_at_place words j) i bit ≡ says → InCycle says s bit
        → (u.cycles ≤ 64 * at.chunk + i → says ≡ false) → Says j bit
    exact_at j s within here bit says is_set exact late =
        gate-exact u at task two known view viewed no_later j s within here i lane shape.0 (first ∷ second ∷ []) shape.1 shape.3 bit (literal (words_at_place words j) i bit) says is_set exact late

    x_t : cell_at (64 * at.chunk + i) first ≢ cell_at (64 * at.chunk + i) at.sig
    x_t = apart (64 * at.chunk + i) first at.sig shape.4

    y_t : cell_at (64 * at.chunk + i) second ≢ cell_at (64 * at.chunk + i) at.sig
    y_t = apart (64 * at.chunk + i) second at.sig shape.5

    x_y : cell_at (64 * at.chunk + i) first ≢ cell_at (64 * at.chunk + i) second
    x_y = apart (64 * at.chunk + i) first second shape.6

  -- the bits of an and-like gate
  module _ (p b : Bool) (is_family : family ≡ AndLike p b) where
    and_rule : (n : ℕ) → IsOfFamily (AndLike p b) (gate_at shape.0 at.sig (first ∷ second ∷ []) n)
    and_rule n = subst (λ f. IsOfFamily f (gate_at shape.0 at.sig (first ∷ second ∷ []) n)) is_family (rule n)

    pair : (i : ℕ) → i < 64 → 64 * at.chunk + i < u.cycles
        → PairForces (gate_at shape.0 at.sig (first ∷ second ∷ []) (64 * at.chunk + i)) known (cell_at (64 * at.chunk + i) at.sig) (cell_at (64 * at.chunk + i) first) (cell_at (64 * at.chunk + i) second) p b
        (has 0 i) (has 1 i) (has 2 i)
    pair i lane in_time =
        pair_forces shape.0 (cell_at (64 * at.chunk + i) at.sig) (cell_at (64 * at.chunk + i) first) (cell_at (64 * at.chunk + i) second) (x_t i lane) (y_t i lane) (x_y i lane) known p b
        (and_rule (64 * at.chunk + i)) (has 0 i) (says_target i lane in_time) (has 1 i) (has 2 i) (says_first i lane in_time) (says_second i lane in_time)

    pub and_like_two : ((i : ℕ) → literal (words_at_place words 0) i b ≡ (has 0 i b || (has 1 i p && has 2 i p)))
        → ((i : ℕ) → literal (words_at_place words 0) i (not b) ≡ (has 0 i (not b) || (has 1 i (not p) || has 2 i (not p))))
        → ((i : ℕ) → literal (words_at_place words 1) i p ≡ (has 1 i p || has 0 i b))
        → ((i : ℕ) → literal (words_at_place words 1) i (not p) ≡ (has 1 i (not p) || (has 0 i (not b) && has 2 i p)))
        → ((i : ℕ) → literal (words_at_place words 2) i p ≡ (has 2 i p || has 0 i b))
        → ((i : ℕ) → literal (words_at_place words 2) i (not p) ≡ (has 2 i (not p) || (has 0 i (not b) && has 1 i p)))
        → AreForcedBy u (task_in u at) two known words
    and_like_two t_own t_other x_own x_other y_own y_other zero i bit within lane =
        by_bit (Says i lane 0) b
        (exact_at i lane 0 at.sig (omega arith) refl b (has 0 i b || (has 1 i p && has 2 i p)) (t_own i) (λ in_time. (pair i lane in_time).target_own)
        (λ late. or_from (has 0 i b) (has 1 i p && has 2 i p) (late_target i lane late b) (and_left (has 1 i p) (has 2 i p) (late_first i lane late p))))
        (exact_at i lane 0 at.sig (omega arith) refl (not b) (has 0 i (not b) || (has 1 i (not p) || has 2 i (not p))) (t_other i) (λ in_time. (pair i lane in_time).target_other)
        (λ late. or_from (has 0 i (not b)) (has 1 i (not p) || has 2 i (not p)) (late_target i lane late (not b))
        (or_from (has 1 i (not p)) (has 2 i (not p)) (late_first i lane late (not p)) (late_second i lane late (not p)))))
        bit
    and_like_two t_own t_other x_own x_other y_own y_other (suc zero) i bit within lane =
        by_bit (Says i lane 1) p
        (exact_at i lane 1 first (omega arith) refl p (has 1 i p || has 0 i b) (x_own i) (λ in_time. (pair i lane in_time).first_own)
        (λ late. or_from (has 1 i p) (has 0 i b) (late_first i lane late p) (late_target i lane late b)))
        (exact_at i lane 1 first (omega arith) refl (not p) (has 1 i (not p) || (has 0 i (not b) && has 2 i p)) (x_other i) (λ in_time. (pair i lane in_time).first_other)
        (λ late. or_from (has 1 i (not p)) (has 0 i (not b) && has 2 i p) (late_first i lane late (not p)) (and_left (has 0 i (not b)) (has 2 i p) (late_target i lane late (not b)))))
        bit
    and_like_two t_own t_other x_own x_other y_own y_other (suc (suc zero)) i bit within lane =
        by_bit (Says i lane 2) p
        (exact_at i lane 2 second (omega arith) refl p (has 2 i p || has 0 i b) (y_own i) (λ in_time. (pair i lane in_time).second_own)
        (λ late. or_from (has 2 i p) (has 0 i b) (late_second i lane late p) (late_target i lane late b)))
        (exact_at i lane 2 second (omega arith) refl (not p) (has 2 i (not p) || (has 0 i (not b) && has 1 i p)) (y_other i) (λ in_time. (pair i lane in_time).second_other)
        (λ late. or_from (has 2 i (not p)) (has 0 i (not b) && has 1 i p) (late_second i lane late (not p)) (and_left (has 0 i (not b)) (has 1 i p) (late_target i lane late (not b)))))
        bit
    and_like_two t_own t_other x_own x_other y_own y_other (suc (suc (suc j))) i bit within lane = absurd (omega arith)

  -- the bits of a parity gate, whose target turns
  module _ (inverted : Bool) (is_family : family ≡ Parity inverted) where
    xor_rule : (n : ℕ) → IsOfFamily (Parity inverted) (gate_at shape.0 at.sig (first ∷ second ∷ []) n)
    xor_rule n = subst (λ f. IsOfFamily f (gate_at shape.0 at.sig (first ∷ second ∷ []) n)) is_family (rule n)

    turned_target : ℕ → Bool → Bool
    turned_target i bit = has 0 i (plus inverted bit)

    late_sum : (has_a has_b : Bool → Bool) (sum : Bool) → ((bit : Bool) → has_a bit ≡ false) → sum_has has_a has_b sum ≡ false
    late_sum has_a has_b sum none = or_from (has_a false && has_b sum) (has_a true && has_b (not sum)) (and_left (has_a false) (has_b sum) (none false)) (and_left (has_a true) (has_b (not sum)) (none true))

    pub parity_two : ((i : ℕ) (bit : Bool) → literal (words_at_place words 0) i bit ≡ (has 0 i (plus inverted (plus inverted bit)) || sum_has (has 1 i) (has 2 i) (plus inverted bit)))
        → ((i : ℕ) (bit : Bool) → literal (words_at_place words 1) i bit ≡ (has 1 i bit || sum_has (λ b. has 0 i (plus inverted b)) (has 2 i) bit))
        → ((i : ℕ) (bit : Bool) → literal (words_at_place words 2) i bit ≡ (has 2 i bit || sum_has (λ b. has 0 i (plus inverted b)) (has 1 i) bit))
        → AreForcedBy u (task_in u at) two known words
    parity_two in_t in_x in_y zero i bit within lane =
        exact_at i lane 0 at.sig (omega arith) refl bit (has 0 i bit || sum_has (has 1 i) (has 2 i) (plus inverted bit))
        (in_t i bit ∙ ap (λ c. has 0 i c || sum_has (has 1 i) (has 2 i) (plus inverted bit)) (plus_twice inverted bit))
        (λ in_time. parity_target inverted shape.0 (cell_at (64 * at.chunk + i) at.sig) (cell_at (64 * at.chunk + i) first) (cell_at (64 * at.chunk + i) second) (x_t i lane) (y_t i lane) (x_y i lane)
        (xor_rule (64 * at.chunk + i)) known (has 0 i) (has 1 i) (has 2 i) (says_target i lane in_time) (says_first i lane in_time) (says_second i lane in_time) bit)
        (λ late. or_from (has 0 i bit) (sum_has (has 1 i) (has 2 i) (plus inverted bit)) (late_target i lane late bit) (late_sum (has 1 i) (has 2 i) (plus inverted bit) (late_first i lane late)))
    parity_two in_t in_x in_y (suc zero) i bit within lane =
        exact_at i lane 1 first (omega arith) refl bit (has 1 i bit || sum_has (has 0 i) (has 2 i) (plus inverted bit))
        (in_x i bit ∙ ap (λ c. has 1 i bit || c) (turned_sum inverted (has 0 i) (has 2 i) bit))
        (λ in_time. parity_first inverted shape.0 (cell_at (64 * at.chunk + i) at.sig) (cell_at (64 * at.chunk + i) first) (cell_at (64 * at.chunk + i) second) (x_t i lane) (y_t i lane) (x_y i lane)
        (xor_rule (64 * at.chunk + i)) known (has 0 i) (has 1 i) (has 2 i) (says_target i lane in_time) (says_first i lane in_time) (says_second i lane in_time) bit)
        (λ late. or_from (has 1 i bit) (sum_has (has 0 i) (has 2 i) (plus inverted bit)) (late_first i lane late bit) (late_sum (has 0 i) (has 2 i) (plus inverted bit) (late_target i lane late)))
    parity_two in_t in_x in_y (suc (suc zero)) i bit within lane =
        exact_at i lane 2 second (omega arith) refl bit (has 2 i bit || sum_has (has 0 i) (has 1 i) (plus inverted bit))
        (in_y i bit ∙ ap (λ c. has 2 i bit || c) (turned_sum inverted (has 0 i) (has 1 i) bit))
        (λ in_time. parity_second inverted shape.0 (cell_at (64 * at.chunk + i) at.sig) (cell_at (64 * at.chunk + i) first) (cell_at (64 * at.chunk + i) second) (x_t i lane) (y_t i lane) (x_y i lane)
        (xor_rule (64 * at.chunk + i)) known (has 0 i) (has 1 i) (has 2 i) (says_target i lane in_time) (says_first i lane in_time) (says_second i lane in_time) bit)
        (λ late. or_from (has 2 i bit) (sum_has (has 0 i) (has 1 i) (plus inverted bit)) (late_second i lane late bit) (late_sum (has 0 i) (has 1 i) (plus inverted bit) (late_target i lane late)))
    parity_two in_t in_x in_y (suc (suc (suc j))) i bit within lane = absurd (omega arith)

-- a gate with one pin
module _ (u : Unrolling) (at : InChunk) (pin other : Sig) (is : IsProblem u) (task : IsTaskAt u at) (family : Family)
    (shape : HasShape (shapes.OnePin family) (driver_at u.circuit.drivers at.sig.0) at.sig pin other) (known : Lit → Bool) (view words : List PinWord)
    (viewed : IsViewOf u (blocks_at u (one_pin_places at pin)) known view) (no_later : HaveNoLaterBit u (blocks_at u (one_pin_places at pin)) view) where
  abbrev one : List Block
  one = blocks_at u (one_pin_places at pin)

  abbrev has_one : ℕ → ℕ → Bool → Bool
  has_one j i bit = literal (words_at_place view j) i bit

  lone_rule : (n : ℕ) → IsAndLike true (not (inverts family)) (gate_at shape.0 at.sig (pin ∷ []) n)
  lone_rule n =
      turn family (family-rule shape.0 family (sym shape.2) (gate_at shape.0 at.sig (pin ∷ []) n) refl (pin-count u is shape.0 (pin ∷ []) (lane_place at.sig at.chunk 0) shape.1))
    where
      turn : (f : Family) → IsOfFamily f (gate_at shape.0 at.sig (pin ∷ []) n) → IsAndLike true (not (inverts f)) (gate_at shape.0 at.sig (pin ∷ []) n)
      turn (AndLike p b) rule = inverts_and_like shape.0 (cell_at n at.sig) (cell_at n pin) p b rule
      turn (Parity inverted) rule = inverts_parity shape.0 (cell_at n at.sig) (cell_at n pin) inverted rule

  module _ (i : ℕ) (lane : i < 64) where
    lone_says : (j : ℕ) (s : Sig) → j < 2 → get_or one j (record { 0 = 0 }) ≡ block_at u s at.chunk → 64 * at.chunk + i < u.cycles → (bit : Bool) → has_one j i bit ≡ known (lit (cell_at (64 * at.chunk + i) s) bit)
    lone_says j s within here in_time bit = view-says u at task one known view viewed no_later j s within here i lane bit in_time

    lone_late : (j : ℕ) (s : Sig) → j < 2 → get_or one j (record { 0 = 0 }) ≡ block_at u s at.chunk → u.cycles ≤ 64 * at.chunk + i → (bit : Bool) → has_one j i bit ≡ false
    lone_late j s within here late bit = none-late u at task one known view viewed no_later j s within here i lane bit late

    pin_apart : cell_at (64 * at.chunk + i) pin ≢ cell_at (64 * at.chunk + i) at.sig
    pin_apart e = shape.4 (ap (λ (c : Cell). c.sig) e)

  pub pass_on : ((i : ℕ) (bit : Bool) → literal (words_at_place words 0) i bit ≡ (has_one 1 i (plus (inverts family) bit) || has_one 0 i (plus (inverts family) (plus (inverts family) bit))))
      → ((i : ℕ) (bit : Bool) → literal (words_at_place words 1) i bit ≡ (has_one 1 i bit || has_one 0 i (plus (inverts family) bit)))
      → AreForcedBy u (task_in u at) one known words
  pass_on in_target in_pin zero i bit within lane =
      gate-exact u at task one known view viewed no_later 0 at.sig (omega arith) refl i lane shape.0 (pin ∷ []) shape.1 shape.3 bit (literal (words_at_place words 0) i bit)
      (has_one 0 i bit || has_one 1 i (plus (inverts family) bit))
      (in_target i bit ∙ ap (λ c. has_one 1 i (plus (inverts family) bit) || has_one 0 i c) (plus_twice (inverts family) bit) ∙ or_swap (has_one 1 i (plus (inverts family) bit)) (has_one 0 i bit))
      (λ in_time. lone_target shape.0 (cell_at (64 * at.chunk + i) at.sig) (cell_at (64 * at.chunk + i) pin) (pin_apart i lane) known (has_one 0 i) (has_one 1 i)
      (lone_says i lane 0 at.sig (omega arith) refl in_time) (lone_says i lane 1 pin (omega arith) refl in_time) (inverts family) (lone_rule (64 * at.chunk + i)) bit)
      (λ late. or_from (has_one 0 i bit) (has_one 1 i (plus (inverts family) bit)) (lone_late i lane 0 at.sig (omega arith) refl late bit)
      (lone_late i lane 1 pin (omega arith) refl late (plus (inverts family) bit)))
  pass_on in_target in_pin (suc zero) i bit within lane =
      gate-exact u at task one known view viewed no_later 1 pin (omega arith) refl i lane shape.0 (pin ∷ []) shape.1 shape.3 bit (literal (words_at_place words 1) i bit)
      (has_one 1 i bit || has_one 0 i (plus (inverts family) bit)) (in_pin i bit)
      (λ in_time. lone_pin shape.0 (cell_at (64 * at.chunk + i) at.sig) (cell_at (64 * at.chunk + i) pin) (pin_apart i lane) known (has_one 0 i) (has_one 1 i)
      (lone_says i lane 0 at.sig (omega arith) refl in_time) (lone_says i lane 1 pin (omega arith) refl in_time) (inverts family) (lone_rule (64 * at.chunk + i)) bit)
      (λ late. or_from (has_one 1 i bit) (has_one 0 i (plus (inverts family) bit)) (lone_late i lane 1 pin (omega arith) refl late bit)
      (lone_late i lane 0 at.sig (omega arith) refl late (plus (inverts family) bit)))
  pass_on in_target in_pin (suc (suc j)) i bit within lane = absurd (omega arith)
