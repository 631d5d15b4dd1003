use Rattle.std.proofs.Common.{arith}
use Rattle.unroll.specs.Tasks.{task_in}
use Rattle.gate_rules.specs.FewPins.{blocks_at, two_pin_places}
use Rattle.gate_rules.proofs.FewPinTasks.{new-by}
use Rattle.gate_rules.proofs.few_pins.apply_two_pins.Goals as goal

pub returns-clause-new : goal.returns-clause-new
returns-clause-new g c u at first second is task shape known viewed no_later =
    new-by u (task_in u at) (blocks_at u (two_pin_places at first second)) known c.args.known c.forced_two_pins.result c.new_of_three.result viewed
    (c.forced_two_pins.ensures u at first second is task shape known viewed no_later) (λ j i bit within lane. c.new_of_three.ensures j i bit (omega (arith, within)) lane)
