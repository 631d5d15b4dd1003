use Rattle.unroll.specs.Problem.{sig_at, chunk_at}
use Rattle.unroll.proofs.AdjacentTasks.{adjacent-task}
use Rattle.unroll.proofs.BlockNumbers.{some_chunk, chunk-within, sig-within}
use Rattle.unroll.proofs.ConstantTasks.{force_from_nothing}
use Rattle.unroll.proofs.CellTests.{are_its_cells}
use Rattle.unroll.proofs.TaskBlocks.{are_its_blocks}
use Rattle.unroll.proofs.TaskCells.{adjoin_their_tasks, each_in_one_task, have_its_cells}
use Rattle.unroll.proofs.laws.task_laws.Goals as goal

pub returns : goal.returns
returns c = record {
  instances = λ u p i is at. each_in_one_task u p i at;
  blocks = are_its_blocks;
  cells = are_its_cells;
  words = λ u t cell is task of. have_its_cells u t cell is of;
  adjacent = λ u t cell is task of. adjoin_their_tasks u t cell of;
  tasks = λ u b t is within h. adjacent-task u (sig_at u b) (chunk_at u b) (chunk-within u b (some_chunk u is)) (sig-within u b (some_chunk u is) within) t h;
  constant = force_from_nothing;
}
