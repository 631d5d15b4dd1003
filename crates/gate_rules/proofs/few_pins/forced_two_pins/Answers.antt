use Rattle.std.proofs.Common.{sym, subst}
use Rattle.gate_rules.specs.FewPins.{ForceAs, OfTwoPins}
use Rattle.gate_rules.proofs.few_pins.forced_two_pins.Goals as goal

pub returns-in-AndLike : goal.returns-in-AndLike
returns-in-AndLike c = subst (λ f. OfTwoPins f (ForceAs c.args.known c.and_like_pair.result)) (sym c.in-AndLike.is) c.and_like_pair.ensures

pub returns-in-Parity : goal.returns-in-Parity
returns-in-Parity c = subst (λ f. OfTwoPins f (ForceAs c.args.known c.parity_pair.result)) (sym c.in-Parity.is) c.parity_pair.ensures
