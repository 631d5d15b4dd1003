use Rattle.std.proofs.Common.{◌≡◌, ◌+◌, ◌∙◌, OnOk, IfOk, ap, subst, arith}
use Rattle.sr_model.specs.Declaration.{declaration_of}
use Rattle.sr_model.specs.declared.gates.Kind.{Kind}
use Rattle.cycle_sim.specs.Load.{load_word, kind_drawn, drawn_driver, drawn_pin_count, gate_words}
use Rattle.cycle_sim.specs.Words.{generator_at}
use Rattle.cycle_sim.proofs.Drawn.{next-at, word-is}
use Rattle.cycle_sim.proofs.load.draw_gate.Goals as goal

pub returns-clause-gate : goal.returns-clause-gate
returns-clause-gate c = λ number n at.
    let kind : c.kind_drawn-kind.result ≡ kind_drawn (load_word number n) = c.kind_drawn-kind.ensures ∙ ap kind_drawn (word-is 2 number n c.args.generator.now c.next_word.new.self c.next_word.result at c.next_word.ensures) in
    subst (λ (k : Kind). IfOk c.draw_driver.result (λ s. declaration_of s ≡ drawn_driver number (n + 1) c.args.index k c.args.index)) kind
    (c.draw_driver.ensures.driver number (n + 1) (next-at 2 number n c.args.generator.now c.next_word.new.self c.next_word.result at c.next_word.ensures))

pub returns-clause-words : goal.returns-clause-words
returns-clause-words c = λ number n at.
    let kind : c.kind_drawn-kind.result ≡ kind_drawn (load_word number n) = c.kind_drawn-kind.ensures ∙ ap kind_drawn (word-is 2 number n c.args.generator.now c.next_word.new.self c.next_word.result at c.next_word.ensures) in
    let place : n + 1 + drawn_pin_count c.kind_drawn-kind.result ≡ n + gate_words number n = omega (arith, ap drawn_pin_count kind) in
    subst (λ m. OnOk c.draw_driver.result (c.draw_driver.new.generator ≡ generator_at 2 number m)) place
    (c.draw_driver.ensures.words number (n + 1) (next-at 2 number n c.args.generator.now c.next_word.new.self c.next_word.result at c.next_word.ensures))
