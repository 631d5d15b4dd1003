use Rattle.std.proofs.Common.{length-set, ◌+◌, ◌∙◌, ap, arith}
use Rattle.cycle_sim.specs.Words.{generator_at}
use Rattle.cycle_sim.proofs.Drawn.{next-at, word-is, drawn-more}
use Rattle.cycle_sim.proofs.drawing.draw.Goals as goal

pub loop-j-preserved : goal.loop-j-preserved
loop-j-preserved c = (
  length-set c.loop-j.row c.loop-j.j _ ∙ c.loop-j.invariant.0,
  λ seed n at.
      let before = c.loop-j.invariant.1 seed n at in (
        next-at 1 seed (n + c.loop-j.j) c.loop-j.generator c.next_word.new.self c.next_word.result before.0 c.next_word.ensures ∙ ap (generator_at 1 seed) (omega arith),
        drawn-more seed n c.loop-j.j c.next_word.result c.loop-j.row (omega (arith, c.loop-j-test.true, c.loop-j.auto.row)) c.next_word.type_inv
            (word-is 1 seed (n + c.loop-j.j) c.loop-j.generator c.next_word.new.self c.next_word.result before.0 c.next_word.ensures) before.1,
      ),
)
