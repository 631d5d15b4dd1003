use Rattle.std.proofs.Common.{◌∙◌, sym, ap, arith}
use Rattle.std.proofs.lemmas.List.Sums.{prefix_len-le-length}
use Rattle.std.specs.List.{prefix_len}
use Rattle.sr_text.specs.Name.{is_name_byte}
use Rattle.bench_reader.proofs.Tokens.{no_name, name_read}
use Rattle.bench_reader.proofs.form.read_name.Goals as goal

pub split_at-requires : goal.split_at-requires
split_at-requires c = omega (arith, prefix_len-le-length is_name_byte c.skip_blanks-text.result.now, c.name_len-len.ensures)

pub returns-then-len-eq0-clause-none : goal.returns-then-len-eq0-clause-none
returns-then-len-eq0-clause-none c none name ts e =
    no_name c.args.text.now (ap (prefix_len is_name_byte) (sym c.skip_blanks-text.ensures) ∙ sym c.name_len-len.ensures ∙ c.if-len-eq0.true) name ts e

pub returns-else-len-eq0-clause-some : goal.returns-else-len-eq0-clause-some
returns-else-len-eq0-clause-some c =
    name_read c.args.text.now c.skip_blanks-text.result.now c.split_at.result.0.now c.split_at.result.1.now c.name_len-len.result
    c.skip_blanks-text.ensures c.name_len-len.ensures c.if-len-eq0.false c.split_at.ensures.front c.split_at.ensures.back
