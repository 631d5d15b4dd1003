use Rattle.std.proofs.Common.{arith}
use Rattle.unroll.specs.Tasks.{task_in}
use Rattle.gate_rules.specs.FewPins.{blocks_at, one_pin_places}
use Rattle.gate_rules.proofs.FewPinTasks.{new-by}
use Rattle.gate_rules.proofs.few_pins.apply_one_pin.Goals as goal

pub returns-clause-new : goal.returns-clause-new
returns-clause-new g c u at pin other is task shape known viewed no_later =
    new-by u (task_in u at) (blocks_at u (one_pin_places at pin)) known c.args.known c.forced_one_pin.result c.new_of_two.result viewed
    (c.forced_one_pin.ensures u at pin other is task shape known viewed no_later) (λ j i bit within lane. c.new_of_two.ensures j i bit (omega (arith, within)) lane)
