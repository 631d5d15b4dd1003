use Rattle.std.proofs.Common.{sym, ◌∙◌}
use Rattle.sr_text.proofs.ReadsDecimal.{no_other_form, decimal_is_utf8, read_by_parse, is_text, is_no_text}
use Rattle.sr_text.proofs.numbers.read_u64.Goals as goal

pub returns-then-has_sign_or_leading_zero : goal.returns-then-has_sign_or_leading_zero
returns-then-has_sign_or_leading_zero c = λ v. (λ e. cc, λ h. absurd (no_other_form c.args.text.now v (sym c.has_sign_or_leading_zero.ensures ∙ c.if-has_sign_or_leading_zero.true) h.0 h.1))

pub returns-in_err-ok : goal.returns-in_err-ok
returns-in_err-ok c = λ v. (
  λ e. cc,
  λ h. absurd (is_no_text c.args.text.now c.from_utf8.result _ _ c.in_err-ok.ensures.value c.from_utf8.ensures.cases (decimal_is_utf8 c.args.text.now v h.0 h.1)),
)

pub returns : goal.returns
returns c = read_by_parse c.args.text.now c.in_ok-ok.field-0.now c.parse.result c.ok-2.result (is_text c.args.text.now c.from_utf8.result c.in_ok-ok.field-0 _ c.in_ok-ok.ensures.value c.from_utf8.ensures.cases)
    c.ok-2.ensures.value c.parse.ensures.value.0 (sym c.has_sign_or_leading_zero.ensures ∙ c.if-has_sign_or_leading_zero.false)
