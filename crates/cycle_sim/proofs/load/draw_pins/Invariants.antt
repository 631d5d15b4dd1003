use Rattle.std.proofs.Common.{ℕ, ◌≡◌, ◌+◌}
use Rattle.sr_model.specs.Room.{texts}
use Rattle.cycle_sim.specs.Load.{pins_drawn}
use Rattle.cycle_sim.specs.Words.{generator_at}
use Rattle.cycle_sim.proofs.load.draw_pins.Given as goal

-- so many pins are drawn
abbrev pub invariant-loop : goal.invariant-loop
invariant-loop l =
    (number n : ℕ) → l.fn.generator ≡ generator_at 2 number n → (l.generator ≡ generator_at 2 number (n + l.counter)) × (texts l.pins ≡ pins_drawn number n l.counter l.bound)
