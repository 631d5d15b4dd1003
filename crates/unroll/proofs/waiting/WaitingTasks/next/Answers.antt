use Rattle.std.proofs.Common.{ap, sym, ◌∙◌}
use Rattle.std.proofs.lemmas.Bool.{and_parts}
use Rattle.unroll.specs.Bits.{is_set}
use Rattle.unroll.proofs.WordBits.{is_set_and}
use Rattle.unroll.proofs.waiting.WaitingTasks.next.Goals as goal

pub stop-requires-clause-bits : goal.stop-requires-clause-bits
stop-requires-clause-bits c i h =
    ap (λ w. is_set w i) (sym c.word.ensures.word)
    ∙ (and_parts (is_set c.word.result i) (is_set c.self.inside.sweep.ahead i) (sym (is_set_and c.word.result c.self.inside.sweep.ahead i) ∙ h)).0
