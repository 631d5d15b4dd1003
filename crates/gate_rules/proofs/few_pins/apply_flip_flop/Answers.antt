use Rattle.std.proofs.Common.{arith}
use Rattle.unroll.specs.Tasks.{task_in}
use Rattle.gate_rules.specs.FewPins.{blocks_at, flip_flop_places}
use Rattle.gate_rules.proofs.FewPinTasks.{new-by}
use Rattle.gate_rules.proofs.few_pins.apply_flip_flop.Goals as goal

pub returns-clause-new : goal.returns-clause-new
returns-clause-new g c u at pin other is task shape goes_on nexts known viewed no_later =
    new-by u (task_in u at) (blocks_at u (flip_flop_places at pin)) known c.args.known c.forced_flip_flop.result c.new_of_three.result viewed
    (c.forced_flip_flop.ensures u at pin other is task shape goes_on nexts known viewed no_later) (λ j i bit within lane. c.new_of_three.ensures j i bit (omega (arith, within)) lane)
