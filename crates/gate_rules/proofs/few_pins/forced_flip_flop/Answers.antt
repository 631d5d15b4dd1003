use Rattle.std.proofs.Common.{[], ◌∷◌, refl}
use Rattle.gate_rules.proofs.FewPinFlipFlops.{over_chunks}
use Rattle.gate_rules.proofs.few_pins.forced_flip_flop.Goals as goal

pub returns : goal.returns
returns c u at pin other is task shape goes_on nexts known viewed no_later =
    over_chunks u at pin other task shape c.args.valid nexts goes_on known c.args.known (c.later.result ∷ c.shared_words-shared.result ∷ c.carried.result ∷ []) c.shared_words-shared.result viewed no_later
    c.shared_words-shared.ensures c.later.ensures (λ i bit lane. refl) c.carried.ensures
