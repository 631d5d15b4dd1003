use Rattle.sr_model.proofs.AndExact.{target_t-exact, target_other-exact, pin_p-exact, pin_other-exact}
use Rattle.sr_model.proofs.XorChoice.{no_others, xor_lone-exact}
use Rattle.sr_model.proofs.XorExact.{xor_even-exact, xor_odd-exact}
use Rattle.sr_model.proofs.laws.rule_laws.Goals as goal

pub returns : goal.returns
returns c = record {
  and_like = λ p t i and_like apart known. record {
    target = target_t-exact p t i and_like known apart;
    target_other = target_other-exact p t i and_like known apart;
    pin = pin_p-exact p t i and_like known apart;
    pin_other = pin_other-exact p t i and_like known apart;
  };
  parity = λ inverted i xor_like apart known. record {
    even = xor_even-exact inverted i xor_like known apart;
    odd = xor_odd-exact inverted i xor_like known;
    alone = λ l odd lone. xor_lone-exact inverted i xor_like known l odd (no_others i l.cell lone);
  };
}
