use Rattle.std.proofs.Common.{◌∙◌, sym}
use Rattle.certificates.proofs.Tokens.{first-token, no-token}
use Rattle.certificates.proofs.form.next_token.Goals as goal

pub returns-in_err-start-clause-none : goal.returns-in_err-start-clause-none
returns-in_err-start-clause-none c = λ none. no-token c.args.text.now (sym c.token.ensures.value ∙ c.in_err-start.was)

pub returns-clause-some : goal.returns-clause-some
returns-clause-some c =
    first-token c.args.text.now c.in_ok-start.start c.in_ok-start.end (sym c.token.ensures.value ∙ c.in_ok-start.was) c.in_ok-start.ensures.within.1 c.in_ok-start.ensures.within.2
