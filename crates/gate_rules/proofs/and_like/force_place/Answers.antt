use Rattle.std.proofs.Common.{◌↔◌, get_or, sym, subst}
use Rattle.std.specs.Prelude.{IsTrue}
use Rattle.sr_model.specs.Closure.{Forces, passing, lit}
use Rattle.unroll.specs.Bits.{is_set, word_for}
use Rattle.gate_rules.proofs.AndLikeForced.{target_forced, pin_forced}
use Rattle.gate_rules.proofs.and_like.force_place.Goals as goal

pub returns-then-place-target-clause-forced : goal.returns-then-place-target-clause-forced
returns-then-place-target-clause-forced c lane i cells known within is_valid and_like two_cells at d bit in_cells =
    let found = c.args.found in
    subst (λ place. IsTrue (is_set (word_for bit c.force_target.result) lane) ↔ Forces i (passing known) (lit (get_or cells place d) bit)) (sym c.if-place-target.true)
    (target_forced c.args.gate.pins c.args.gate.target c.args.target c.args.view.now lane i cells known and_like two_cells at
    (is_set found.lacking lane) (is_set found.lacking_two lane) (is_set found.other lane) (is_set c.args.valid lane) (c.requires.found lane within) is_valid
    c.force_target.result (c.force_target.ensures.own lane within) (c.force_target.ensures.other lane within) d bit)

pub returns-else-place-target-clause-forced : goal.returns-else-place-target-clause-forced
returns-else-place-target-clause-forced c lane i cells known within is_valid and_like two_cells at d bit in_cells =
    let found = c.args.found in
    pin_forced c.args.gate.pins c.args.gate.target c.args.target c.args.view.now lane i cells known and_like two_cells at
    (is_set found.lacking lane) (is_set found.lacking_two lane) (is_set found.other lane) (is_set c.args.valid lane) (c.requires.found lane within) is_valid
    c.args.place in_cells c.if-place-target.false d
    c.force_pin.result (c.force_pin.ensures.own lane within) (c.force_pin.ensures.other lane within) bit
