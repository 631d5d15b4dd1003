-- The laws of `block_laws`, `cell_laws`, `task_laws` and `wake_laws`, as proofs above cite them: blocks by signal and chunk, cells by bit, tasks with their cells and blocks, and the tasks that are woken.
pub use Rattle.unroll.proofs.BlockNumbers.{block-chunk, block-itself, block-sig, block-within, chunk-within, sig-within}
pub use Rattle.unroll.proofs.BlockNumbers.{bit-small, blocks-at, cell-bit, cell-itself, cycle-chunk, task-itself}
pub use Rattle.unroll.proofs.TaskCells.{each_in_one_task, have_its_cells, role}
pub use Rattle.unroll.proofs.SharedCells.{share_no_cell}
pub use Rattle.unroll.proofs.ConstantTasks.{force_from_nothing}
pub use Rattle.unroll.proofs.WokenTasks.{fresh_bits_wake, woken_are_targets, woken_are_tasks}
