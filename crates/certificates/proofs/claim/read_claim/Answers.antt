use Rattle.std.proofs.Common.{refl}
use Rattle.certificates.specs.Forms.{form_seen}
use Rattle.certificates.proofs.claim.read_claim.Goals as goal

pub returns-in_default-claim_of-clause-refusal : goal.returns-in_default-claim_of-clause-refusal
returns-in_default-claim_of-clause-refusal c =
    (refl, record { form = form_seen c.in-Some.form; has_form = (c.in-Some.ensures (form_seen c.in-Some.form)).0 refl; means_none = c.in_default-claim_of.ensures.none refl })
