-- The instances of a task, its signals and blocks, and the tasks that a block is in.
pub use Rattle.unroll.proofs.BlockNumbers.{lane-bit, lane-chunk, one-task, some_chunk}
pub use Rattle.unroll.proofs.TaskCells.{cell-chunk, cell-in_time, delay-cases, driven-within, later-chunk, pin-read, pin-signal, pins-within, target-within}
pub use Rattle.unroll.proofs.BlockLists.{signal-within}
pub use Rattle.unroll.proofs.TaskBlocks.{blocks-ascend, has-itself, listed-signal, signal-block, signal-listed}
pub use Rattle.unroll.proofs.AdjacentTasks.{reader-within}
pub use Rattle.unroll.proofs.ConstantTasks.{chunk-listed, pin-count}
