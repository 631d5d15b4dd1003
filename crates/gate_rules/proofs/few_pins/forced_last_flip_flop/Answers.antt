use Rattle.std.proofs.Common.{◌≡◌, [], ◌∷◌, refl, subst}
use Rattle.unroll.specs.declared.words.PinWord.{PinWord}
use Rattle.unroll.specs.Bits.{word_for}
use Rattle.gate_rules.specs.Lanes.{words_at_place}
use Rattle.gate_rules.specs.FewPinBits.{literal}
use Rattle.gate_rules.specs.FlipFlopBits.{is_shared}
use Rattle.gate_rules.proofs.FewPinFlipFlops.{in_last}
use Rattle.gate_rules.proofs.few_pins.forced_last_flip_flop.Goals as goal

pub returns : goal.returns
returns c u at pin other is task shape is_last nexts known viewed no_later =
    in_last u at pin other task shape c.args.valid nexts is_last known c.args.known (c.later.result ∷ c.shared_words-shared.result ∷ []) c.shared_words-shared.result viewed no_later
    (λ i bit lane. subst (λ (next : PinWord).
    literal c.shared_words-shared.result i bit ≡ is_shared (word_for bit (words_at_place c.args.known 1)) (word_for bit (words_at_place c.args.known 0)) (word_for bit next) c.args.valid i) c.none.ensures.words
    (c.shared_words-shared.ensures i bit lane)) c.later.ensures (λ i bit lane. refl)
