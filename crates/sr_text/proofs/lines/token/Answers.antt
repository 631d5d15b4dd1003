use Rattle.std.proofs.Common.{arith}
use Rattle.sr_text.specs.Text.{is_blank}
use Rattle.sr_text.proofs.Tokens.{token_some}
use Rattle.sr_text.proofs.lines.token.Goals as goal

pub returns-then-start-line-clause-within : goal.returns-then-start-line-clause-within
returns-then-start-line-clause-within c = (
  omega arith,
  omega (arith, token_some is_blank c.args.line.now c.args.from c.blank_len.result c.token_len.result c.blank_len.ensures.value c.if-start-line.true c.token_len.ensures.value),
  omega arith,
)
