-- Blocks and tasks by signal and chunk, and cells by the bits of their blocks.
use Rattle.std.proofs.Common.{ℕ, ◌≡◌, ◌+◌, ◌*◌, ◌/◌, ◌%◌, ◌<◌, ◌≤◌, arith, sym, ap, ◌∙◌, subst}
use Rattle.std.proofs.lemmas.Nat.{div-mul-add, mod-mul-add, mul-add-lt}
use Rattle.std.proofs.Math.Nat.{mod-add-div', mod-lt, div-lt_iff_lt-mul}
use Rattle.sr_model.specs.declared.cells.Sig.{Sig}
use Rattle.sr_model.specs.declared.cells.Cell.{Cell}
use Rattle.sr_model.specs.declared.cells.Place.{Place}
use Rattle.unroll.specs.declared.problem.Block.{Block}
use Rattle.unroll.specs.declared.problem.Task.{Task}
use Rattle.unroll.specs.Problem.{Unrolling, IsProblem, signals_in, chunks_in, blocks_in, block_at, sig_at, chunk_at, block_of, bit_of, cell_of}
use Rattle.unroll.specs.Tasks.{IsPlaceOf, task_at, task_of, target_of, target_block, chunk_of, blocks_of, blocks_from}

-- there is a chunk
pub some_chunk : (u : Unrolling) → IsProblem u → 0 < chunks_in u
some_chunk u is =
    let some : 1 ≤ u.cycles = is.some_cycles in
    omega (arith, some)

module _ (u : Unrolling) (s : Sig) (chunk : ℕ) (early : chunk < chunks_in u) where
  pub block-sig : sig_at u (block_at u s chunk) ≡ s
  block-sig = ap (λ n. record { 0 = n }) (div-mul-add s.0 (chunks_in u) chunk early)

  pub block-chunk : chunk_at u (block_at u s chunk) ≡ chunk
  block-chunk = mod-mul-add s.0 (chunks_in u) chunk early

  pub block-within : s.0 < signals_in u → (block_at u s chunk).0 < blocks_in u
  block-within h =
      let below : s.0 * chunks_in u + chunk < chunks_in u * signals_in u = mul-add-lt s.0 (chunks_in u) chunk (signals_in u) h early in
      subst (λ n. s.0 * chunks_in u + chunk < n) (swap (chunks_in u) (signals_in u)) below
    where
      swap : (a b : ℕ) → a * b ≡ b * a
      swap a b = grind arith

-- a block is that of its signal and chunk
pub block-itself : (u : Unrolling) (b : Block) → block_at u (sig_at u b) (chunk_at u b) ≡ b
block-itself u b = ap (λ n. record { 0 = n }) (plus-swap (b.0 / chunks_in u * chunks_in u) (b.0 % chunks_in u) ∙ mod-add-div' b.0 (chunks_in u))
  where
    plus-swap : (m n : ℕ) → m + n ≡ n + m
    plus-swap m n = omega arith

pub task-itself : (u : Unrolling) (t : Task) → task_at u (target_of u t) (chunk_of u t) ≡ t
task-itself u t = ap (λ (b : Block). record { 0 = b.0 }) (block-itself u (target_block t))

-- its chunk is one of the chunks, and its signal one of the signals
pub chunk-within : (u : Unrolling) (b : Block) → 0 < chunks_in u → chunk_at u b < chunks_in u
chunk-within u b some = mod-lt b.0 some

pub sig-within : (u : Unrolling) (b : Block) → 0 < chunks_in u → b.0 < blocks_in u → (sig_at u b).0 < signals_in u
sig-within u b some h = (div-lt_iff_lt-mul some).1 h

-- the chunk of a cycle
pub cycle-chunk : (u : Unrolling) (cycle : ℕ) → cycle < u.cycles → cycle / 64 < chunks_in u
cycle-chunk u cycle h = omega (arith, h)

-- the task that a place is of is the only one
pub one-task : (u : Unrolling) (t : Task) (p : Place) → IsPlaceOf u t p → t ≡ task_of u p
one-task u t p of = sym (task-itself u t) ∙ ap (λ s. task_at u s (chunk_of u t)) of.0 ∙ ap (task_at u p.target) of.1

-- a cell is that of its bit in its block
pub cell-itself : (u : Unrolling) (c : Cell) → c.cycle < u.cycles → cell_of u (block_of u c) (bit_of c) ≡ c
cell-itself u c early =
    let chunk : chunk_at u (block_of u c) ≡ c.cycle / 64 = block-chunk u c.sig (c.cycle / 64) (cycle-chunk u c.cycle early) in
    let sig : sig_at u (block_of u c) ≡ c.sig = block-sig u c.sig (c.cycle / 64) (cycle-chunk u c.cycle early) in
    ap (λ n. record { cycle = 64 * n + c.cycle % 64; sig = sig_at u (block_of u c) }) chunk ∙ ap (λ n. record { cycle = n; sig = sig_at u (block_of u c) }) (whole c.cycle)
    ∙ ap (λ s. record { cycle = c.cycle; sig = s }) sig
  where
    whole : (n : ℕ) → 64 * (n / 64) + n % 64 ≡ n
    whole n = omega arith

pub bit-small : (c : Cell) → bit_of c < 64
bit-small c = below c.cycle where
  below : (n : ℕ) → n % 64 < 64
  below n = omega arith

-- a cycle by its chunk and bit
pub lane-chunk : (chunk i : ℕ) → i < 64 → (64 * chunk + i) / 64 ≡ chunk
lane-chunk chunk i few = omega arith

pub lane-bit : (chunk i : ℕ) → i < 64 → (64 * chunk + i) % 64 ≡ i
lane-bit chunk i few = omega arith

-- a bit's cell has its block and its bit
pub cell-bit : (u : Unrolling) (b : Block) (i : ℕ) → i < 64 → (block_of u (cell_of u b i) ≡ b) × (bit_of (cell_of u b i) ≡ i)
cell-bit u b i few = (ap (block_at u (sig_at u b)) (lane-chunk (chunk_at u b) i few) ∙ block-itself u b, lane-bit (chunk_at u b) i few)

-- the blocks of a task by its target and chunk
pub blocks-at : (u : Unrolling) (s : Sig) (chunk : ℕ) → chunk < chunks_in u → blocks_of u (task_at u s chunk) ≡ blocks_from u s chunk
blocks-at u s chunk early = ap (λ x. blocks_from u x (chunk_of u (task_at u s chunk))) (block-sig u s chunk early) ∙ ap (blocks_from u s) (block-chunk u s chunk early)
