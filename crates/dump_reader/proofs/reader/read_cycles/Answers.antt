use Rattle.std.proofs.Common.{refl, subst, ◌≤◌}
use Rattle.sr_model.specs.Limits.{max_blocks}
use Rattle.dump_reader.proofs.reader.read_cycles.Goals as goal

pub returns-then-product-gt-MAX_BLOCKS-clause-refusal : goal.returns-then-product-gt-MAX_BLOCKS-clause-refusal
returns-then-product-gt-MAX_BLOCKS-clause-refusal c =
    (c.in-Some-cycles_of.cycles, c.in-Some.text.now, _, c.in-Some.ensures.first, (c.in-Some-cycles_of.ensures c.in-Some-cycles_of.cycles).0 refl, c.block_count-product.ensures, c.if-product-gt-MAX_BLOCKS.true)

pub returns-clause-cycles : goal.returns-clause-cycles
returns-clause-cycles c =
    ((c.in-Some.line, c.in-Some.text.now), c.in-Some.ensures.first, (c.in-Some-cycles_of.ensures c.in-Some-cycles_of.cycles).0 refl, subst (λ n. n ≤ max_blocks) c.block_count-product.ensures c.if-product-gt-MAX_BLOCKS.false)
