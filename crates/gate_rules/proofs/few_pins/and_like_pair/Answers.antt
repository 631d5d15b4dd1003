use Rattle.std.proofs.Common.{[], ◌∷◌, refl}
use Rattle.sr_model.specs.declared.gates.Family.TheVariants.{AndLike}
use Rattle.gate_rules.proofs.FewPinTasks.{and_like_two}
use Rattle.gate_rules.proofs.few_pins.and_like_pair.Goals as goal

pub returns : goal.returns
returns c u at first second is task shape known viewed no_later =
    and_like_two u at first second is task (AndLike c.args.gate.pins c.args.gate.target) shape known c.args.known (c.pair_target.result ∷ c.pair_pin.result ∷ c.pair_pin-2.result ∷ []) viewed no_later
    c.args.gate.pins c.args.gate.target refl
    c.pair_target.ensures.own c.pair_target.ensures.other c.pair_pin.ensures.own c.pair_pin.ensures.other c.pair_pin-2.ensures.own c.pair_pin-2.ensures.other
