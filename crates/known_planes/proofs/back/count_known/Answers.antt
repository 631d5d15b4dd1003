use Rattle.std.proofs.Common.{ap, sym, bit_or, ◌∙◌}
use Rattle.unroll.proofs.lemmas.Words.{is_set_or}
use Rattle.known_planes.specs.Counts.{bits_in}
use Rattle.known_planes.proofs.BitCounts.{same-words}
use Rattle.known_planes.proofs.back.count_known.Goals as goal

pub returns-clause-count : goal.returns-clause-count
returns-clause-count c =
    c.from.ensures ∙ c.count_bits.ensures.count
    ∙ ap bits_in (same-words c.known.result (bit_or c.args.words.zero c.args.words.one) (λ i. c.known.ensures i ∙ sym (is_set_or c.args.words.zero c.args.words.one i)))
