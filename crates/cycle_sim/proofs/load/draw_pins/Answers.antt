use Rattle.std.proofs.Common.{ℕ, ◌+◌, ◌∙◌, ap, map, arith}
use Rattle.sr_model.specs.Room.{WithRoom}
use Rattle.cycle_sim.specs.Words.{generator_at}
use Rattle.cycle_sim.proofs.Drawn.{next-at, word-is}
use Rattle.cycle_sim.proofs.LoadSteps.{pins-more}
use Rattle.cycle_sim.proofs.load.draw_pins.Goals as goal

pub loop-init : goal.loop-init
loop-init c = λ number n at. (at ∙ ap (generator_at 2 number) (omega arith), ap (map (λ (name : WithRoom ℕ). name.items)) c.in_ok-pins.ensures.items)

pub loop-preserved : goal.loop-preserved
loop-preserved c = λ number n at.
    let before = c.loop.invariant number n at in (
      next-at 2 number (n + c.loop.counter) c.loop.generator c.next_word.new.self c.next_word.result before.0 c.next_word.ensures ∙ ap (generator_at 2 number) (omega arith),
      pins-more number n c.loop.counter c.args.bound c.next_word.result c.loop.pins c.push.new.self c.in_ok-to_name.field-0 c.in_ok-push.ensures.ok c.in_ok-to_name.ensures
          (word-is 2 number (n + c.loop.counter) c.loop.generator c.next_word.new.self c.next_word.result before.0 c.next_word.ensures) before.1,
    )
