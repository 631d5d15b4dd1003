use Rattle.std.proofs.Common.{◌≡◌, ◌∷◌, ◌∙◌, sym, ap, subst, true, option_map, rules}
use Rattle.bench_reader.specs.Grammar.{mark_of, is_mark, tokens}
use Rattle.bench_reader.proofs.Tokens.{tokens-skip, tokens-mark, mark_first}
use Rattle.bench_reader.proofs.form.read_mark.Goals as goal

pub returns-in_err-first-clause-none : goal.returns-in_err-first-clause-none
returns-in_err-first-clause-none c none ts e =
    let there = mark_first c.args.text.now c.args.mark ts c.requires e in
    let empty = c.in_err-first.ensures.cases in
    search rules

pub returns-then-first-mark-clause-some : goal.returns-then-first-mark-clause-some
returns-then-first-mark-clause-some c =
    let is : is_mark c.in_ok-first.first.now ≡ true = subst (λ b. is_mark b ≡ true) (sym c.if-first-mark.true) c.requires in
    sym (tokens-skip c.args.text.now) ∙ ap tokens (sym c.skip_blanks.ensures ∙ c.in_ok-first.ensures.cases.0) ∙ tokens-mark c.in_ok-first.first.now c.in_ok-first.rest.now is
    ∙ ap (λ b. option_map (λ ts. mark_of b ∷ ts) (tokens c.in_ok-first.rest.now)) c.if-first-mark.true

pub returns-else-first-mark-clause-none : goal.returns-else-first-mark-clause-none
returns-else-first-mark-clause-none c none ts e =
    let there = mark_first c.args.text.now c.args.mark ts c.requires e in
    let both = sym (c.in_ok-first.ensures.cases.0) ∙ c.skip_blanks.ensures ∙ there.1 in
    c.if-first-mark.false cc
