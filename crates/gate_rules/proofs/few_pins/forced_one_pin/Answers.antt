use Rattle.std.proofs.Common.{◌≡◌, ◌||◌, ℕ, Bool, [], ◌∷◌, subst, ap, ◌∙◌}
use Rattle.sr_model.specs.XorLike.{plus}
use Rattle.gate_rules.specs.Lanes.{words_at_place}
use Rattle.gate_rules.specs.FewPinBits.{literal}
use Rattle.gate_rules.proofs.FewPinTasks.{pass_on}
use Rattle.gate_rules.proofs.FewPinWords.{turned_literal}
use Rattle.gate_rules.proofs.few_pins.forced_one_pin.Goals as goal

pub returns : goal.returns
returns c u at pin other is task shape known viewed no_later =
    let either : (i : ℕ) (bit : Bool) → literal c.union-either.result i bit ≡ (literal (words_at_place c.args.known 1) i bit || literal (words_at_place c.args.known 0) i (plus c.inverts-inverting.result bit)) = λ i bit.
    c.union-either.ensures.bits bit i
    ∙ ap (λ b. literal (words_at_place c.args.known 1) i bit || b) (turned_literal c.inverts-inverting.result (words_at_place c.args.known 0) c.turned.result c.turned.ensures i bit) in
    pass_on u at pin other is task c.args.family shape known c.args.known (c.turned-2.result ∷ c.union-either.result ∷ []) viewed no_later
    (λ i bit. subst (λ turn. literal c.turned-2.result i bit ≡ (literal (words_at_place c.args.known 1) i (plus turn bit) || literal (words_at_place c.args.known 0) i (plus turn (plus turn bit)))) c.inverts-inverting.ensures
    (turned_literal c.inverts-inverting.result c.union-either.result c.turned-2.result c.turned-2.ensures i bit ∙ either i (plus c.inverts-inverting.result bit)))
    (λ i bit. subst (λ turn. literal c.union-either.result i bit ≡ (literal (words_at_place c.args.known 1) i bit || literal (words_at_place c.args.known 0) i (plus turn bit))) c.inverts-inverting.ensures (either i bit))
