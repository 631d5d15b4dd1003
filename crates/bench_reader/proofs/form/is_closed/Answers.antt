use Rattle.std.proofs.Common.{◌∙◌, sym, ap, ℕ, List, length, eqb}
use Rattle.std.proofs.lemmas.Bool.{eqb-true}
use Rattle.std.proofs.lemmas.List.{nil_from_length}
use Rattle.bench_reader.proofs.Tokens.{closed_read}
use Rattle.bench_reader.proofs.form.is_closed.Goals as goal

pub returns-in-Some : goal.returns-in-Some
returns-in-Some c =
    let both = closed_read c.args.text.now c.in-Some.rest.now c.in-Some.ensures.some in (
      λ closed. both.0 (sym c.skip_blanks.ensures ∙ nil_from_length c.skip_blanks.result.now (eqb-true (length c.skip_blanks.result.now) 0 (sym c.is_empty.ensures ∙ closed))),
      λ whole. c.is_empty.ensures ∙ ap (λ (t : List ℕ). eqb (length t) 0) (c.skip_blanks.ensures ∙ both.1 whole),
    )
