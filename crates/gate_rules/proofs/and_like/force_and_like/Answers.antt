use Rattle.std.proofs.Common.{◌≡◌, ◌<◌, false, length, ap, ◌∙◌, arith}
use Rattle.std.proofs.lemmas.List.{length-set}
use Rattle.unroll.specs.Bits.{is_set, word_for}
use Rattle.gate_rules.specs.AndLikeBits.{WordForced}
use Rattle.gate_rules.proofs.AndLikeSet.{set_next, all_invalid}
use Rattle.gate_rules.proofs.and_like.force_and_like.Goals as goal

pub loop-place-preserved : goal.loop-place-preserved
loop-place-preserved c =
    let view = c.args.view.now in
    let words = c.loop-place.out.items in
    let after = c.set.new.self.items in
    let place = c.loop-place.place in
    let word = c.force_place.result in
    let within : place < length words = omega (arith, c.loop-place.invariant.size) in
    record {
      size = ap length c.set.ensures.items ∙ length-set words place word ∙ c.loop-place.invariant.size;
      room = c.set.ensures.room ∙ c.loop-place.invariant.room;
      forced = set_next (WordForced c.args.gate.pins c.args.gate.target c.args.target c.args.valid view) words after place word within c.set.ensures.items
          c.loop-place.invariant.forced c.force_place.ensures.forced;
      invalid = λ j lane bit below lane_within no_cycle.
          set_next (λ k w. is_set (word_for bit w) lane ≡ false) words after place word within c.set.ensures.items
          (λ k earlier. c.loop-place.invariant.invalid k lane bit earlier lane_within no_cycle) (c.force_place.ensures.invalid lane bit lane_within no_cycle) j below;
    }

pub returns-clause-forced : goal.returns-clause-forced
returns-clause-forced c lane i cells known within is_valid and_like two_cells at j d bit in_cells =
    let size : length c.args.view.now ≡ length cells = at.size in
    c.loop-place.invariant.forced j (omega arith) lane i cells known within is_valid and_like two_cells at d bit in_cells

pub returns-clause-invalid : goal.returns-clause-invalid
returns-clause-invalid c lane j bit within no_cycle =
    all_invalid c.loop-place.out.items c.loop-place.place lane bit (omega (arith, c.loop-place.invariant.size))
    (λ k below. c.loop-place.invariant.invalid k lane bit below within no_cycle) j
