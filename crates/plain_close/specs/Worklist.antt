-- Tasks that wait, and what of planes they have to do.
use Rattle.std.specs.Prelude.{ℕ, ◌≡◌, ◌<◌, ◌-◌, ◌⊎◌, Bool, true}
use Rattle.sr_model.specs.declared.cells.Sig.{Sig}
use Rattle.sr_model.specs.declared.cells.Cell.{Cell}
use Rattle.unroll.specs.declared.problem.InChunk.{InChunk}
use Rattle.unroll.specs.declared.problem.Task.{Task}
use Rattle.unroll.specs.Problem.{Unrolling, signals_in, chunks_in, block_in, block_of, bit_of}
use Rattle.unroll.specs.Tasks.{IsTask, IsTaskAt, IsCellOf, target_of, chunk_of}
use Rattle.unroll.specs.Waiting.{Waiting, Waits}
use Rattle.gate_rules.specs.Forced.{IsDone}
use Rattle.known_planes.specs.Planes.{PlaneSet, has, has_bit}
use Rattle.plain_close.specs.declared.worklist.Worklist.{Worklist}

-- it is over the problem's signals and chunks, and what waits are tasks
pub record IsWorklistOf (u : Unrolling) (q : Worklist) : Type 0 where
  pub records : q.records.now ≡ u.circuit.drivers
  pub signals : q.waiting.signals ≡ signals_in u
  pub chunks : q.waiting.chunks ≡ chunks_in u
  pub tasks : (s : Sig) (chunk : ℕ) → Waits q.waiting s chunk → IsTaskAt u (record { sig = s; chunk = chunk })

-- no task waits
abbrev pub HasNone : Worklist → Type 0
HasNone q = (s : Sig) (chunk : ℕ) → Waits q.waiting s chunk → ⊥

abbrev pub TaskWaits : Unrolling → Worklist → Task → Type 0
TaskWaits u q t = Waits q.waiting (target_of u t) (chunk_of u t)

-- each task waits or is done
abbrev pub IsSettled : Unrolling → PlaneSet → Worklist → Type 0
IsSettled u planes q = (t : Task) → IsTask u t → TaskWaits u q t ⊎ IsDone u t (has u planes)

-- those tasks wait, too
pub record Pushed (u : Unrolling) (IsPushed : Task → Type 0) (before after : Worklist) : Type 0 where
  pub of : IsWorklistOf u after
  pub kept : (t : Task) → TaskWaits u before t → TaskWaits u after t
  pub pushed : (t : Task) → IsPushed t → TaskWaits u after t

-- the task of the signal in the chunk before waits, too, if it is woken, and no other does more
pub record AddsBefore (at : InChunk) (before : Bool) (old mid : Waiting) : Type 0 where
  pub signals : mid.signals ≡ old.signals
  pub chunks : mid.chunks ≡ old.chunks
  pub kept : (s : Sig) (c : ℕ) → Waits old s c → Waits mid s c
  pub only : (s : Sig) (c : ℕ) → Waits mid s c → Waits old s c ⊎ ((before ≡ true) × (s ≡ at.sig) × (c ≡ at.chunk - 1))
  pub has : before ≡ true → Waits mid at.sig (at.chunk - 1)

-- each task waits that a literal in the block is in
abbrev pub IsStirred : Unrolling → PlaneSet → InChunk → Worklist → Type 0
IsStirred u planes at q =
    (t : Task) (c : Cell) (bit : Bool) → IsTask u t → IsCellOf u t c → block_of u c ≡ block_in u at → has_bit planes (block_in u at) bit (bit_of c) ≡ true → TaskWaits u q t

-- and so for the blocks of the first signals in the chunk
pub record StirsChunk (u : Unrolling) (planes : PlaneSet) (chunk signals : ℕ) (before after : Worklist) : Type 0 where
  pub of : IsWorklistOf u after
  pub kept : (t : Task) → TaskWaits u before t → TaskWaits u after t
  pub stirred : (s : Sig) → s.0 < signals → IsStirred u planes (record { sig = s; chunk = chunk }) after

-- for those of the first chunks
pub record StirsChunks (u : Unrolling) (planes : PlaneSet) (chunks : ℕ) (before after : Worklist) : Type 0 where
  pub of : IsWorklistOf u after
  pub kept : (t : Task) → TaskWaits u before t → TaskWaits u after t
  pub stirred : (at : InChunk) → at.sig.0 < signals_in u → at.chunk < chunks → IsStirred u planes at after

-- for all
abbrev pub Stirs : Unrolling → PlaneSet → Worklist → Worklist → Type 0
Stirs u planes before after = StirsChunks u planes (chunks_in u) before after
