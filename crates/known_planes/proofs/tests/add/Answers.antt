use Rattle.std.proofs.Common.{◌≡◌, ◌∙◌, true}
use Rattle.std.specs.Prelude.{nat_lt}
use Rattle.std.proofs.lemmas.Bool.{and_from, and_parts}
use Rattle.unroll.specs.declared.problem.Block.{Block}
use Rattle.unroll.specs.declared.words.PinWord.{PinWord}
use Rattle.unroll.specs.Problem.{Unrolling, block_of, bit_of}
use Rattle.known_planes.specs.Planes.{PlaneSet, IsMarked, IsOf, Joins, has_bit}
use Rattle.known_planes.proofs.tests.add.Goals as goal

-- with more literals they can still go back
marked-more : (u : Unrolling) (b : Block) (w : PinWord) (old new : PlaneSet) → IsMarked u old → IsOf u new → Joins b w old new → IsMarked u new
marked-more u b w old new marked of joins = record {
  words = marked.words;
  mark = joins.mark ∙ marked.mark;
  of = record { signals = of.signals; chunks = of.chunks; blocks = marked.of.blocks; no_later = marked.of.no_later };
  within = λ l known.
      let parts : (nat_lt l.cell.cycle u.cycles ≡ true) × (has_bit old (block_of u l.cell) l.bit (bit_of l.cell) ≡ true) = and_parts _ _ (marked.within l known) in
      and_from (nat_lt l.cell.cycle u.cycles) (has_bit new (block_of u l.cell) l.bit (bit_of l.cell)) parts.0 (joins.kept (block_of u l.cell) l.bit (bit_of l.cell) parts.1);
}

pub returns-clause-marked : goal.returns-clause-marked
returns-clause-marked c = marked-more c.args.p.now _ _ c.args.planes.now c.add_in_chunk.new.self c.requires.marked c.add_in_chunk.ensures.of c.add_in_chunk.ensures.joins
