use Rattle.std.proofs.Common.{◌+◌, ◌<◌, length, length-set, arith, ◌∙◌}
use Rattle.cycle_sim.proofs.PackedBits.{here-more, elsewhere-more}
use Rattle.cycle_sim.proofs.bit_rows.set_words.Goals as goal

pub loop-k-preserved : goal.loop-k-preserved
loop-k-preserved c =
    let within : c.args.start + c.loop-k.k < length c.loop-k.words = omega (arith, c.loop-k-test.true, c.words_for-k-end.ensures, c.requires.room, c.loop-k.auto.words) in (
      length-set c.loop-k.words (c.args.start + c.loop-k.k) c.packed.result ∙ c.loop-k.invariant.0,
      here-more c.args.bits.now c.loop-k.words c.args.words.now c.args.start c.loop-k.k c.packed.result within c.packed.ensures c.loop-k.invariant.1 c.loop-k.invariant.2,
      elsewhere-more c.args.bits.now c.loop-k.words c.args.words.now c.args.start c.loop-k.k c.packed.result within c.packed.ensures c.loop-k.invariant.1 c.loop-k.invariant.2,
    )
