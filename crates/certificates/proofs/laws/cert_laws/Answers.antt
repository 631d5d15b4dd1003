use Rattle.certificates.proofs.Following.{clash_known, excludes, facts_known, facts_sound}
use Rattle.certificates.proofs.Verdicts.{not_both, one_refusal, one_validity}
use Rattle.certificates.proofs.ValidOrRefused.{valid_or_refused}
use Rattle.certificates.proofs.laws.cert_laws.Goals as goal

pub returns : goal.returns
returns c = record {
  one_validity = one_validity;
  one_refusal = one_refusal;
  not_both = not_both;
  valid_or_refused = valid_or_refused;
  known = facts_known;
  clash = clash_known;
  sound = facts_sound;
  excludes = excludes;
}
