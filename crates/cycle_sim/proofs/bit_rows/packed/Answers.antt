use Rattle.std.proofs.Common.{◌*◌, ◌^◌, ◌%◌, ◌≤◌, ◌⊎◌, ◌+◌, ◌-◌, length, get_or, false, bit_or, arith, inl, inr, ap, ◌∙◌}
use Rattle.unroll.specs.Bits.{is_set}
use Rattle.unroll.proofs.lemmas.Words.{is_set_zero}
use Rattle.cycle_sim.proofs.PackedBits.{byte-digit, earlier-more, later-more, bits-end}
use Rattle.cycle_sim.proofs.bit_rows.packed.Goals as goal

pub loop-i-init : goal.loop-i-init
loop-i-init c = (λ k h. absurd (omega (arith, h)), λ k h few. is_set_zero k)

pub loop-i-preserved : goal.loop-i-preserved
loop-i-preserved c =
    let byte = c.from.ensures ∙ byte-digit (get_or c.args.bits.now (c.args.from + c.loop-i.i) false) in (
      λ k h.
          ap (λ d. is_set (bit_or c.loop-i.word (d * 2 ^ c.loop-i.i % 2 ^ 64)) k) byte
          ∙ earlier-more c.args.bits.now c.args.from c.loop-i.i c.loop-i.word (omega (arith, c.loop-i-test.true, c.count_in_word-i-end.ensures.few)) c.loop-i.invariant.0 c.loop-i.invariant.1 k h,
      λ k h few.
          ap (λ d. is_set (bit_or c.loop-i.word (d * 2 ^ c.loop-i.i % 2 ^ 64)) k) byte
          ∙ later-more c.args.bits.now c.args.from c.loop-i.i c.loop-i.word (omega (arith, c.loop-i-test.true, c.count_in_word-i-end.ensures.few)) c.loop-i.invariant.0 c.loop-i.invariant.1 k h few,
    )

pub returns : goal.returns
returns c i few =
    bits-end c.args.bits.now c.args.from c.loop-i.i c.loop-i.word i c.loop-i.invariant.0 c.loop-i.invariant.1 (past c.count_in_word-i-end.ensures.all) few
  where
    past : (64 ≤ c.count_in_word-i-end.result) ⊎ (length c.args.bits.now - c.args.from ≤ c.count_in_word-i-end.result) → (64 ≤ c.loop-i.i) ⊎ (length c.args.bits.now ≤ c.args.from + c.loop-i.i)
    past (inl all) = inl (omega (arith, all, c.loop-i-test.false))
    past (inr end) = inr (omega (arith, end, c.loop-i-test.false))
