use Rattle.std.proofs.Common.{◌∙◌, sym, refl, inl, inr, ⊎_elim, take, drop, length, ◌-◌}
use Rattle.dump_reader.proofs.Tokens.{none_is, no_first, no_second, not_whole, whole_is, some_is}
use Rattle.dump_reader.proofs.lines.two_tokens.Goals as goal

pub returns-in_err-start : goal.returns-in_err-start
returns-in_err-start c = none_is c.args.text.now c.from_residual.result c.from_residual.ensures (no_first c.args.text.now (sym c.token.ensures.value ∙ c.in_err-start.was))

pub returns-in_err-second_start : goal.returns-in_err-second_start
returns-in_err-second_start c =
    none_is c.args.text.now c.from_residual-in_err-second_start.result c.from_residual-in_err-second_start.ensures
    (no_second c.args.text.now c.in_ok-start.start c.in_ok-start.first_end (sym c.token.ensures.value ∙ c.in_ok-start.was) (sym c.token-2.ensures.value ∙ c.in_err-second_start.was))

pub returns-then-start-gt0 : goal.returns-then-start-gt0
returns-then-start-gt0 c =
    none_is c.args.text.now _ refl
    (not_whole c.args.text.now c.in_ok-start.start c.in_ok-start.first_end c.in_ok-second_start.second_start c.in_ok-second_start.end
    (sym c.token.ensures.value ∙ c.in_ok-start.was) (sym c.token-2.ensures.value ∙ c.in_ok-second_start.was) (⊎_elim (λ h. inl h) (λ h. inr h.1) c.then-start-gt0.either))

pub returns : goal.returns
returns c =
    let text = c.args.text.now in
    some_is text (take c.in_ok-start.first_end text) (take (length text - c.in_ok-second_start.second_start) (drop c.in_ok-second_start.second_start text)) _ refl
    (whole_is text c.in_ok-start.start c.in_ok-start.first_end c.in_ok-second_start.second_start c.in_ok-second_start.end
    (sym c.token.ensures.value ∙ c.in_ok-start.was) (sym c.token-2.ensures.value ∙ c.in_ok-second_start.was) c.if-start-gt0.false c.if-end-text.false
    c.in_ok-start.ensures.within.1 c.in_ok-start.ensures.within.2 c.in_ok-second_start.ensures.within.2)
