-- What known literals force at one place.
use Rattle.std.proofs.Common.{◌≡◌, ◌↔◌, ℕ, ◌+◌, ◌/◌, ◌%◌, ◌^◌, ◌<◌, Bool, false, ◌&&◌, cond, eqb, ltb, List, [], ◌∷◌, length, map, get_or, Option, Some, None, refl, sym, ap, subst, ◌∙◌, inl, inr, arith}
use Rattle.std.specs.Prelude.{IsSome, IsTrue}
use Rattle.std.specs.List.{Contains}
use Rattle.std.proofs.lemmas.Bool.{and_parts, cases_Bool, cond-true, cond-false, false≢true, ltb-true}
use Rattle.std.proofs.lemmas.List.{get_or-map, length-map, get_or_default}
use Rattle.std.proofs.lemmas.List.Elements.{Contains-get_or}
use Rattle.sr_model.specs.declared.cells.Lit.{Lit}
use Rattle.sr_model.specs.declared.cells.Place.{Place}
use Rattle.sr_model.specs.declared.cells.Sig.{Sig}
use Rattle.sr_model.specs.Closure.{ForcesAt, lit}
use Rattle.sr_model.specs.Netlist.{Instance, instance_at}
use Rattle.sr_model.proofs.lemmas.Instances.{Stands, stands}
use Rattle.sr_model.proofs.lemmas.Members.{Contains-cases, not_in_nil}
use Rattle.netlist.specs.Wiring.{driver_at, is_driven, is_flip_flop, signals_of}
use Rattle.unroll.specs.declared.problem.Block.{Block}
use Rattle.unroll.specs.declared.problem.InChunk.{InChunk}
use Rattle.unroll.specs.declared.problem.Task.{Task}
use Rattle.unroll.specs.declared.words.PinWord.{PinWord}
use Rattle.unroll.specs.Bits.{is_set, no_words, word_for}
use Rattle.unroll.specs.Problem.{Unrolling, IsProblem, unrolled, signals_in, chunks_in, blocks_in, block_at, block_of, bit_of, cell_of}
use Rattle.unroll.specs.Tasks.{IsPlaceOf, IsTask, IsTaskAt, blocks_for, blocks_from, blocks_of, goes_on_from, task_of}
use Rattle.unroll.proofs.lemmas.FlatMaps.{flat_map-found}
use Rattle.unroll.proofs.lemmas.Laws.{bit-small, block-within, blocks-at, cell-itself, cycle-chunk, each_in_one_task, have_its_cells}
use Rattle.unroll.proofs.lemmas.Tasks.{driven-within, listed-signal}
use Rattle.unroll.proofs.lemmas.Words.{alone-only, alone-set}
use Rattle.gate_rules.specs.Forced.{AreForcedInCyclesBy, ForcedInCycles, IsForcedExactlyIn, IsViewOf, bit_at_place, lit_at_place}
use Rattle.gate_rules.specs.Lanes.{words_at_place}
use Rattle.gate_rules.proofs.lemmas.Laws.{forced_by_view}
use Rattle.known_planes.specs.Planes.{PlaneSet, IsOf, has, lits, words_at}
use Rattle.known_planes.proofs.lemmas.Laws.{bits_are_literals}
use Rattle.certificates.specs.Known.{IsAnswer, listed, absent}

some-is : {X : Type 0} (o : Option X) → IsSome o → (x : X) × (o ≡ Some x)
some-is None is = absurd (false≢true is)
some-is (Some x) is = (x, refl)

-- the task of the instance at a place
abbrev pub task_at_place : Place → InChunk
task_at_place p = record { sig = p.target; chunk = p.cycle / 64 }

pub task-there : (u : Unrolling) (p : Place) → IsSome (instance_at (unrolled u) p) → IsTaskAt u (task_at_place p)
task-there u p is =
    let found = some-is (instance_at (unrolled u) p) is in
    let s : Stands u.cycles (driver_at u.circuit.drivers p.target.0) p found.0 = stands (unrolled u) p found.0 found.1 in
    record {
      signal = driven-within u.circuit.drivers p.target.0 s.kind s.pins s.driver;
      early = cycle-chunk u p.cycle (omega (arith, s.in_time));
      driven = ap is_driven s.driver;
    }

-- a block of a task is one of the blocks
pub block-there : (u : Unrolling) (target : Sig) (chunk : ℕ) → chunk < chunks_in u → (b : Block) → Contains (blocks_from u target chunk) b → b.0 < blocks_in u
block-there u target chunk early b h =
    let found = flat_map-found (blocks_for u target chunk) (signals_of u.circuit.drivers target) b h in
    let s : Sig = found.0 in
    let signal : s.0 < signals_in u = (listed-signal u.circuit.drivers target s found.1).0 in
    let goes_on : Bool = eqb s.0 target.0 && goes_on_from u target chunk in
    let next : List Block = block_at u s (chunk + 1) ∷ [] in
    elim (Contains-cases (block_at u s chunk) (cond goes_on next []) b found.2) [
      | inl here ↦ subst (λ (x : Block). x.0 < blocks_in u) here (block-within u s chunk early signal)
      | inr later ↦ elim (cases_Bool goes_on) [
        | inr fails ↦ absurd (not_in_nil b (subst (λ bs. Contains bs b) (cond-false goes_on next [] fails) later))
        | inl holds ↦
            let parts = and_parts (is_flip_flop (driver_at u.circuit.drivers target.0)) (ltb (chunk + 1) (chunks_in u)) (and_parts (eqb s.0 target.0) (goes_on_from u target chunk) holds).1 in
            let one : Contains next b = subst (λ bs. Contains bs b) (cond-true goes_on next [] holds) later in
            elim (Contains-cases (block_at u s (chunk + 1)) [] b one) [
              | inl here ↦ subst (λ (x : Block). x.0 < blocks_in u) here (block-within u s (chunk + 1) (ltb-true (chunk + 1) (chunks_in u) parts.1) signal)
              | inr none ↦ absurd (not_in_nil b none)
            ]
      ]
    ]

-- a task's place in a cycle is the only one with the bit of the cycle
same-place : (u : Unrolling) (t : Task) (p q : Place) → IsPlaceOf u t p → IsPlaceOf u t q → q.cycle % 64 ≡ p.cycle % 64 → q ≡ p
same-place u t p q of_p of_q bit =
    ap (λ n. record { cycle = n; target = q.target }) (whole q.cycle p.cycle (sym of_q.1 ∙ of_p.1) bit) ∙ ap (λ s. record { cycle = p.cycle; target = s }) (sym of_q.0 ∙ of_p.0)
  where
    whole : (m n : ℕ) → m / 64 ≡ n / 64 → m % 64 ≡ n % 64 → m ≡ n
    whole m n over rest = omega (arith, over, rest)

module _ (u : Unrolling) (is : IsProblem u) (planes : PlaneSet) (of : IsOf u planes) (p : Place) (there : IsSome (instance_at (unrolled u) p)) where
  abbrev task : Task
  task = task_of u p

  found : (i : Instance) × (instance_at (unrolled u) p ≡ Some i)
  found = some-is (instance_at (unrolled u) p) there

  is-task : IsTask u task
  is-task = (each_in_one_task u p found.0 found.1).0

  belongs : IsPlaceOf u task p
  belongs = (each_in_one_task u p found.0 found.1).1

  early : p.cycle / 64 < chunks_in u
  early = (task-there u p there).early

  blocks-are : blocks_of u task ≡ blocks_from u p.target (p.cycle / 64)
  blocks-are = blocks-at u p.target (p.cycle / 64) early

  at-place : (mask : ℕ) (l : Lit) → mask ≡ 2 ^ (p.cycle % 64) → ForcedInCycles u task mask (has u planes) l ↔ ForcesAt (unrolled u) (lits u planes) p l
  at-place mask l e = (
    λ f. subst (λ (q : Place). ForcesAt (unrolled u) (lits u planes) q l)
        (same-place u task p f.place belongs f.belongs (alone-only (p.cycle % 64) (f.place.cycle % 64) (ap (λ m. is_set m (f.place.cycle % 64)) (sym e) ∙ f.in_mask))) f.forces,
    λ f. record { place = p; belongs = belongs; in_mask = ap (λ m. is_set m (p.cycle % 64)) e ∙ alone-set (p.cycle % 64); forces = f },
  )

  module _ (view out : List PinWord) (view_is : view ≡ map (words_at planes) (blocks_of u task)) where
    viewed : IsViewOf u (blocks_of u task) (has u planes) view
    viewed j i bit within few in_time =
        let b : Block = get_or (blocks_of u task) j (record { 0 = 0 }) in
        let words : words_at_place view j ≡ words_at planes b =
        ap (λ ws. words_at_place ws j) view_is ∙ get_or-map (words_at planes) (blocks_of u task) j (record { 0 = 0 }) no_words within in
        let below : b.0 < blocks_in u = block-there u p.target (p.cycle / 64) early b (subst (λ bs. Contains bs b) blocks-are (Contains-get_or (blocks_of u task) j (record { 0 = 0 }) within)) in
        ap (λ w. is_set (word_for bit w) i) words ∙ bits_are_literals u planes b bit i is of below few

    exactly : (mask : ℕ) → IsForcedExactlyIn u task mask (blocks_of u task) view out → AreForcedInCyclesBy u task mask (blocks_of u task) (has u planes) out
    exactly mask exact = (forced_by_view u task (has u planes) view out is is-task (ap length view_is ∙ length-map (blocks_of u task) (words_at planes)) viewed).1 mask exact

    -- the answer for a literal is whether it is forced at the place
    answered : (mask : ℕ) (l : Lit) (answer : Bool) → mask ≡ 2 ^ (p.cycle % 64) → IsForcedExactlyIn u task mask (blocks_of u task) view out → l.cell.cycle < u.cycles → IsAnswer u (blocks_of u task) out l answer
        → IsTrue answer ↔ ForcesAt (unrolled u) (lits u planes) p l
    answered mask l _ e exact in_time (absent none) = (
      λ h. absurd (false≢true h),
      λ f. absurd (none (have_its_cells u task l.cell is (record { place = p; belongs = belongs; instance = f.instance; stands = f.stands; has_cell = f.forces.on_cells }))),
    )
    answered mask l _ e exact in_time (listed j within at) =
        let itself : lit_at_place u (blocks_of u task) j l.bit (bit_of l.cell) ≡ l = ap (λ b. lit (cell_of u b (bit_of l.cell)) l.bit) at ∙ ap (λ c. lit c l.bit) (cell-itself u l.cell in_time) in
        let forced = exactly mask exact j (bit_of l.cell) l.bit within (bit-small l.cell) in (
          λ h. (at-place mask l e).0 (subst (ForcedInCycles u task mask (has u planes)) itself (forced.0 h)),
          λ f. forced.1 (subst (ForcedInCycles u task mask (has u planes)) (sym itself) ((at-place mask l e).1 f)),
        )

  -- the same by what was seen of the task
  pub forced-there : (seen : PlaneSet) (blocks : List Block) (view out : List PinWord) (mask : ℕ) (l : Lit) (answer : Bool) → seen ≡ planes → blocks ≡ blocks_from u p.target (p.cycle / 64)
      → view ≡ map (words_at seen) blocks → mask ≡ 2 ^ (p.cycle % 64) → IsForcedExactlyIn u task mask blocks view out → l.cell.cycle < u.cycles → IsAnswer u blocks out l answer
      → IsTrue answer ↔ ForcesAt (unrolled u) (lits u planes) p l
  forced-there seen blocks view out mask l answer seen_is blocks_is view_is e exact in_time is_answer =
      let same : blocks ≡ blocks_of u task = blocks_is ∙ sym blocks-are in
      answered view out (view_is ∙ ap (λ (s : PlaneSet). map (words_at s) blocks) seen_is ∙ ap (map (words_at planes)) same) mask l answer e
      (subst (λ bs. IsForcedExactlyIn u task mask bs view out) same exact) in_time (subst (λ bs. IsAnswer u bs out l answer) same is_answer)

-- the answer by the place that was found
module _ (u : Unrolling) (blocks seen : List Block) (words : List PinWord) (l : Lit) (block : Block) (seen_is : seen ≡ blocks) (is : block ≡ block_of u l.cell) where
  pub answer-listed : (place : ℕ) (answer : Bool) → place < length seen → get_or seen place block ≡ block → answer ≡ bit_at_place words place l.bit (bit_of l.cell) → IsAnswer u blocks words l answer
  answer-listed place answer within at e =
      let there : place < length blocks = subst (λ bs. place < length bs) seen_is within in
      let found : get_or blocks place (record { 0 = 0 }) ≡ block_of u l.cell =
      get_or_default blocks place (record { 0 = 0 }) block there ∙ ap (λ bs. get_or bs place block) (sym seen_is) ∙ at ∙ is in
      subst (IsAnswer u blocks words l) (sym e) (listed place there found)

  pub answer-absent : (Contains seen block → ⊥) → IsAnswer u blocks words l false
  answer-absent none = absent (λ h. none (subst (λ bs. Contains bs block) (sym seen_is) (subst (Contains blocks) (sym is) h)))

-- a block that was listed has words in the planes
pub listed-within : (u : Unrolling) (old new : PlaneSet) (task : InChunk) (blocks seen : List Block) (i : ℕ) → IsOf u old → new ≡ old → task.chunk < chunks_in u
    → blocks ≡ blocks_from u task.sig task.chunk → seen ≡ blocks → i < length blocks → (get_or seen i (record { 0 = 0 })).0 < length new.words
listed-within u old new task blocks seen i of same early blocks_is seen_is within =
    let b : Block = get_or blocks i (record { 0 = 0 }) in
    let below : b.0 < blocks_in u = block-there u task.sig task.chunk early b (subst (λ bs. Contains bs b) blocks_is (Contains-get_or blocks i (record { 0 = 0 }) within)) in
    subst (λ (bs : List Block). (get_or bs i (record { 0 = 0 })).0 < length new.words) (sym seen_is)
    (subst (λ (s : PlaneSet). b.0 < length s.words) (sym same) (subst (λ n. b.0 < n) (sym of.blocks) below))
