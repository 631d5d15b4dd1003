-- The blocks of a task.
use Rattle.std.proofs.Common.{ℕ, ◌≡◌, ◌+◌, ◌*◌, ◌<◌, ◌≤◌, ◌⊎◌, ◌↔◌, ◌&&◌, ◌||◌, Bool, true, false, cond, eqb, ltb, List, [], ◌∷◌, length, arith, inl, inr, refl, sym, ap, ◌∙◌, subst}
use Rattle.std.specs.List.{AllPairs, Contains}
use Rattle.std.proofs.lemmas.Bool.{cases_Bool, cond-true, cond-false, and_parts, and_from, or_left, ltb-true, lt-ltb, eqb-true, eq-eqb}
use Rattle.std.proofs.lemmas.List.Kept.{AllPairs-cons, AllPairs-filter}
use Rattle.std.proofs.lemmas.List.Elements.{All-nil}
use Rattle.sr_model.specs.declared.cells.Sig.{Sig}
use Rattle.sr_model.specs.Netlist.{Driver, Input, Driven}
use Rattle.sr_model.proofs.lemmas.Members.{not_in_nil, Contains-here, Contains-there, Contains-cases, All-one, filter-member, filter-passes, filter-has}
use Rattle.netlist.specs.Wiring.{driver_at, has_signal, is_driven, is_flip_flop, reads, signals_below, signals_of}
use Rattle.netlist.proofs.lemmas.Signals.{signals_member, signal_within}
use Rattle.unroll.specs.declared.problem.Block.{Block}
use Rattle.unroll.specs.declared.problem.Task.{Task}
use Rattle.unroll.specs.Problem.{Unrolling, IsProblem, signals_in, chunks_in, blocks_in, block_at, sig_at, chunk_at}
use Rattle.unroll.specs.Tasks.{IsTask, target_of, target_block, chunk_of, goes_on_from, blocks_for, blocks_from, blocks_of}
use Rattle.unroll.specs.Laws.{IsBlockOf}
use Rattle.unroll.proofs.BlockNumbers.{some_chunk, block-sig, block-chunk, block-within, block-itself, chunk-within, sig-within}
use Rattle.unroll.proofs.lemmas.FlatMaps.{flat_map-has, flat_map-found, ascending-flat, signals-ascend}

-- the signals of a gate or flip-flop
pub signal-listed : (drivers : List Driver) (t s : Sig) → s.0 < length drivers → has_signal (driver_at drivers t.0) t s ≡ true → Contains (signals_of drivers t) s
signal-listed drivers t s h has = filter-has (has_signal (driver_at drivers t.0) t) (signals_below (length drivers)) s (signals_member (length drivers) s.0 h) has

pub listed-signal : (drivers : List Driver) (t s : Sig) → Contains (signals_of drivers t) s → (s.0 < length drivers) × (has_signal (driver_at drivers t.0) t s ≡ true)
listed-signal drivers t s h = (
  signal_within (length drivers) s (filter-member (has_signal (driver_at drivers t.0) t) (signals_below (length drivers)) s h),
  filter-passes (has_signal (driver_at drivers t.0) t) (signals_below (length drivers)) s h,
)

-- the target is one
pub has-itself : (driver : Driver) (t : Sig) → is_driven driver ≡ true → has_signal driver t t ≡ true
has-itself driver t driven = and_from (is_driven driver) (eqb t.0 t.0 || reads driver t) driven (or_left (eqb t.0 t.0) (reads driver t) (eq-eqb t.0 t.0 refl))

pub flip_flop-driven : (driver : Driver) → is_flip_flop driver ≡ true → is_driven driver ≡ true
flip_flop-driven Input is = is
flip_flop-driven (Driven kind pins) is = refl

-- whether a signal has a block in the next chunk too
abbrev pub goes_on : Unrolling → Sig → ℕ → Sig → Bool
goes_on u target chunk s = eqb s.0 target.0 && goes_on_from u target chunk

module _ (u : Unrolling) (target : Sig) (chunk : ℕ) (early : chunk < chunks_in u) where
  -- the blocks of one signal
  one-block : (s : Sig) → goes_on u target chunk s ≡ false → blocks_for u target chunk s ≡ block_at u s chunk ∷ []
  one-block s fails = ap (λ bs. block_at u s chunk ∷ bs) (cond-false (goes_on u target chunk s) (block_at u s (chunk + 1) ∷ []) [] fails)

  two-blocks : (s : Sig) → goes_on u target chunk s ≡ true → blocks_for u target chunk s ≡ block_at u s chunk ∷ block_at u s (chunk + 1) ∷ []
  two-blocks s holds = ap (λ bs. block_at u s chunk ∷ bs) (cond-true (goes_on u target chunk s) (block_at u s (chunk + 1) ∷ []) [] holds)

  pub first-block : (s : Sig) → Contains (blocks_for u target chunk s) (block_at u s chunk)
  first-block s = Contains-here (block_at u s chunk) (cond (goes_on u target chunk s) (block_at u s (chunk + 1) ∷ []) [])

  pub next-block : (s : Sig) → goes_on u target chunk s ≡ true → Contains (blocks_for u target chunk s) (block_at u s (chunk + 1))
  next-block s holds =
      subst (λ bs. Contains bs (block_at u s (chunk + 1))) (sym (two-blocks s holds))
      (Contains-there (block_at u s chunk) (block_at u s (chunk + 1) ∷ []) (block_at u s (chunk + 1)) (Contains-here (block_at u s (chunk + 1)) []))

  -- one of them is the block in the chunk or in the next one
  block-cases : (s : Sig) (b : Block) → Contains (blocks_for u target chunk s) b
      → (b ≡ block_at u s chunk) ⊎ ((goes_on u target chunk s ≡ true) × (b ≡ block_at u s (chunk + 1)))
  block-cases s b h =
      elim (Contains-cases (block_at u s chunk) (cond (goes_on u target chunk s) (block_at u s (chunk + 1) ∷ []) []) b h) [
        | inl e ↦ inl (sym e)
        | inr later ↦ elim (cases_Bool (goes_on u target chunk s)) [
          | inl holds ↦
              let one : Contains (block_at u s (chunk + 1) ∷ []) b =
              subst (λ bs. Contains bs b) (cond-true (goes_on u target chunk s) (block_at u s (chunk + 1) ∷ []) [] holds) later in
              elim (Contains-cases (block_at u s (chunk + 1)) [] b one) [ inl e ↦ inr (holds, sym e) | inr none ↦ absurd (not_in_nil b none) ]
          | inr fails ↦
              absurd (not_in_nil b (subst (λ bs. Contains bs b) (cond-false (goes_on u target chunk s) (block_at u s (chunk + 1) ∷ []) [] fails) later))
        ]
      ]

  -- then there is a next chunk, and the signal is that of a flip-flop
  goes_on-parts : (s : Sig) → goes_on u target chunk s ≡ true → (is_flip_flop (driver_at u.circuit.drivers target.0) ≡ true) × (s ≡ target) × (chunk + 1 < chunks_in u)
  goes_on-parts s holds =
      let first : (eqb s.0 target.0 ≡ true) × (goes_on_from u target chunk ≡ true) = and_parts (eqb s.0 target.0) (goes_on_from u target chunk) holds in
      let second : (is_flip_flop (driver_at u.circuit.drivers target.0) ≡ true) × (ltb (chunk + 1) (chunks_in u) ≡ true) =
      and_parts (is_flip_flop (driver_at u.circuit.drivers target.0)) (ltb (chunk + 1) (chunks_in u)) first.1 in
      (second.0, ap (λ n. record { 0 = n }) (eqb-true s.0 target.0 first.0), ltb-true (chunk + 1) (chunks_in u) second.1)

  -- they lie among the blocks of the signal, ascending
  lie-within : (s : Sig) (b : Block) → Contains (blocks_for u target chunk s) b → (s.0 * chunks_in u ≤ b.0) × (b.0 < (s.0 + 1) * chunks_in u)
  lie-within s b h =
      elim (block-cases s b h) [
        | inl e ↦ row s.0 chunk early b.0 (ap (λ (c : Block). c.0) e)
        | inr (holds, e) ↦ row s.0 (chunk + 1) (goes_on-parts s holds).2 b.0 (ap (λ (c : Block). c.0) e)
      ]
    where
      row : (a c : ℕ) → c < chunks_in u → (n : ℕ) → n ≡ a * chunks_in u + c → (a * chunks_in u ≤ n) × (n < (a + 1) * chunks_in u)
      row a c below n e =
          let more : (a + 1) * chunks_in u ≡ a * chunks_in u + chunks_in u = distribute a (chunks_in u) in
          (omega (arith, e), omega (arith, e, more, below))
        where
          distribute : (x y : ℕ) → (x + 1) * y ≡ x * y + y
          distribute x y = grind arith

  ascend : (s : Sig) → AllPairs (λ a b. a.0 < b.0) (blocks_for u target chunk s)
  ascend s =
      elim (cases_Bool (goes_on u target chunk s)) [
        | inl holds ↦
            subst (AllPairs (λ (a b : Block). a.0 < b.0)) (sym (two-blocks s holds))
            (AllPairs-cons (λ (a b : Block). a.0 < b.0) (block_at u s chunk) (block_at u s (chunk + 1) ∷ [])
            (All-one (λ (b : Block). (block_at u s chunk).0 < b.0) (block_at u s (chunk + 1)) (omega arith)) (alone (block_at u s (chunk + 1))))
        | inr fails ↦ subst (AllPairs (λ (a b : Block). a.0 < b.0)) (sym (one-block s fails)) (alone (block_at u s chunk))
      ]
    where
      alone : (b : Block) → AllPairs (λ a b. a.0 < b.0) (b ∷ [])
      alone b = AllPairs-cons (λ (a b : Block). a.0 < b.0) b [] (All-nil (λ (c : Block). b.0 < c.0)) (λ i j d lt within. absurd (omega arith))

  pub blocks-ascend : AllPairs (λ a b. a.0 < b.0) (blocks_from u target chunk)
  blocks-ascend =
      ascending-flat (λ (b : Block). b.0) (chunks_in u) (blocks_for u target chunk) (signals_of u.circuit.drivers target)
      (AllPairs-filter (λ a b. a.0 < b.0) (has_signal (driver_at u.circuit.drivers target.0) target) (signals_below (signals_in u)) (signals-ascend (signals_in u)))
      (λ s h. (ascend s, lie-within s))

  -- a block of them is that of a signal in the chunk, or that of the flip-flop in the next one
  pub block-found : (b : Block) → Contains (blocks_from u target chunk) b
      → (b.0 < blocks_in u) × (((has_signal (driver_at u.circuit.drivers target.0) target (sig_at u b) ≡ true) × (chunk_at u b ≡ chunk))
      ⊎ ((is_flip_flop (driver_at u.circuit.drivers target.0) ≡ true) × (sig_at u b ≡ target) × (chunk_at u b ≡ chunk + 1)))
  block-found b h =
      let found : (s : Sig) × Contains (signals_of u.circuit.drivers target) s × Contains (blocks_for u target chunk s) b =
      flat_map-found (blocks_for u target chunk) (signals_of u.circuit.drivers target) b h in
      let s : Sig = found.0 in
      let is : (s.0 < signals_in u) × (has_signal (driver_at u.circuit.drivers target.0) target s ≡ true) = listed-signal u.circuit.drivers target s found.1 in
      elim (block-cases s b found.2) [
        | inl e ↦ (
          subst (λ (c : Block). c.0 < blocks_in u) (sym e) (block-within u s chunk early is.0),
          inl (
            ap (has_signal (driver_at u.circuit.drivers target.0) target) (ap (sig_at u) e ∙ block-sig u s chunk early) ∙ is.1,
            ap (chunk_at u) e ∙ block-chunk u s chunk early,
          ),
        )
        | inr (holds, e) ↦
            let parts : (is_flip_flop (driver_at u.circuit.drivers target.0) ≡ true) × (s ≡ target) × (chunk + 1 < chunks_in u) = goes_on-parts s holds in (
              subst (λ (c : Block). c.0 < blocks_in u) (sym e) (block-within u s (chunk + 1) parts.2 is.0),
              inr (parts.0, ap (sig_at u) e ∙ block-sig u s (chunk + 1) parts.2 ∙ parts.1, ap (chunk_at u) e ∙ block-chunk u s (chunk + 1) parts.2),
            )
      ]

  pub signal-block : (s : Sig) → s.0 < signals_in u → has_signal (driver_at u.circuit.drivers target.0) target s ≡ true → Contains (blocks_from u target chunk) (block_at u s chunk)
  signal-block s h has =
      flat_map-has (blocks_for u target chunk) (signals_of u.circuit.drivers target) s (block_at u s chunk) (signal-listed u.circuit.drivers target s h has) (first-block s)

  pub flip_flop-block : target.0 < signals_in u → is_flip_flop (driver_at u.circuit.drivers target.0) ≡ true → chunk + 1 < chunks_in u
      → Contains (blocks_from u target chunk) (block_at u target (chunk + 1))
  flip_flop-block h is next =
      flat_map-has (blocks_for u target chunk) (signals_of u.circuit.drivers target) target (block_at u target (chunk + 1))
      (signal-listed u.circuit.drivers target target h
      (has-itself (driver_at u.circuit.drivers target.0) target (flip_flop-driven (driver_at u.circuit.drivers target.0) is)))
      (next-block target (and_from (eqb target.0 target.0) (goes_on_from u target chunk) (eq-eqb target.0 target.0 refl)
      (and_from (is_flip_flop (driver_at u.circuit.drivers target.0)) (ltb (chunk + 1) (chunks_in u)) is (lt-ltb (chunk + 1) (chunks_in u) next))))

-- the blocks of a task are the blocks of its signals
pub are_its_blocks : (u : Unrolling) (t : Task) → IsProblem u → IsTask u t → AllPairs (λ a b. a.0 < b.0) (blocks_of u t) × ((b : Block) → Contains (blocks_of u t) b ↔ IsBlockOf u t b)
are_its_blocks u t is task = (blocks-ascend u (target_of u t) (chunk_of u t) early, λ b. (block-found u (target_of u t) (chunk_of u t) early b, back b)) where
  some : 0 < chunks_in u
  some = some_chunk u is

  early : chunk_of u t < chunks_in u
  early = chunk-within u (target_block t) some

  back : (b : Block) → IsBlockOf u t b → Contains (blocks_of u t) b
  back b (within, which) =
      elim which [
        | inl (has, in_chunk) ↦
            subst (Contains (blocks_of u t)) (ap (block_at u (sig_at u b)) (sym in_chunk) ∙ block-itself u b)
            (signal-block u (target_of u t) (chunk_of u t) early (sig_at u b) (sig-within u b some within) has)
        | inr (flip_flop, at_target, next) ↦
            let there : chunk_of u t + 1 < chunks_in u = subst (λ n. n < chunks_in u) next (chunk-within u b some) in
            subst (Contains (blocks_of u t)) (ap (λ s. block_at u s (chunk_of u t + 1)) (sym at_target) ∙ ap (block_at u (sig_at u b)) (sym next) ∙ block-itself u b)
            (flip_flop-block u (target_of u t) (chunk_of u t) early (sig-within u (target_block t) some task.0) flip_flop there)
      ]
