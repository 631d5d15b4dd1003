use Rattle.unroll.proofs.BlockNumbers.{some_chunk, block-sig, block-chunk, block-within, block-itself, task-itself, chunk-within, sig-within, cycle-chunk, cell-itself, bit-small, cell-bit, blocks-at}
use Rattle.unroll.proofs.laws.block_laws.Goals as goal

pub returns : goal.returns
returns c = record {
  blocks = λ u s chunk early. (block-sig u s chunk early, block-chunk u s chunk early, block-within u s chunk early);
  signals = λ u b. (block-itself u b, λ is within. (sig-within u b (some_chunk u is) within, chunk-within u b (some_chunk u is)));
  bits = λ u cell early. (cell-itself u cell early, bit-small cell, cycle-chunk u cell.cycle early);
  cells = cell-bit;
  targets = task-itself;
  tasks = λ u s chunk early. (block-sig u s chunk early, block-chunk u s chunk early, blocks-at u s chunk early);
}
