use Rattle.std.proofs.Common.{◌||◌, [], ◌∷◌, refl, ap, ◌∙◌}
use Rattle.sr_model.specs.declared.gates.Family.TheVariants.{Parity}
use Rattle.sr_model.specs.XorLike.{plus}
use Rattle.unroll.specs.Bits.{is_set}
use Rattle.gate_rules.specs.Lanes.{words_at_place}
use Rattle.gate_rules.specs.FewPinBits.{literal, sum_has}
use Rattle.gate_rules.proofs.FewPinTasks.{parity_two}
use Rattle.gate_rules.proofs.FewPinWords.{turned_literal, sum_with_turned}
use Rattle.gate_rules.proofs.few_pins.parity_pair.Goals as goal

pub returns : goal.returns
returns c u at first second is task shape known viewed no_later =
    let inverted = c.args.inverted in
    let view = c.args.known in
    let target = c.turned-target.result in
    parity_two u at first second is task (Parity c.args.inverted) shape known c.args.known (c.turned.result ∷ c.with_sum-2.result ∷ c.with_sum-3.result ∷ []) viewed no_later c.args.inverted refl
    (λ i bit. ap (λ w. is_set w i) (c.turned.ensures bit) ∙ c.with_sum.ensures i (plus c.args.inverted bit)
    ∙ ap (λ b. b || sum_has (literal (words_at_place c.args.known 1) i) (literal (words_at_place c.args.known 2) i) (plus c.args.inverted bit)) (turned_literal c.args.inverted (words_at_place c.args.known 0) c.turned-target.result c.turned-target.ensures i (plus c.args.inverted bit)))
    (λ i bit. c.with_sum-2.ensures i bit ∙ ap (λ b. literal (words_at_place c.args.known 1) i bit || b)
    (sum_with_turned c.args.inverted (words_at_place c.args.known 0) c.turned-target.result c.turned-target.ensures (words_at_place c.args.known 2) i bit))
    (λ i bit. c.with_sum-3.ensures i bit ∙ ap (λ b. literal (words_at_place c.args.known 2) i bit || b)
    (sum_with_turned c.args.inverted (words_at_place c.args.known 0) c.turned-target.result c.turned-target.ensures (words_at_place c.args.known 1) i bit))
