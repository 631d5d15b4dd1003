use Rattle.std.proofs.Common.{◌+◌, ◌++◌, ◌∙◌, ◌≡◌, take, length, sym, ap}
use Rattle.report.specs.Rows.{word_text}
use Rattle.report.proofs.Cells.{first_characters, long_as}
use Rattle.report.proofs.table.fill_chunk.Goals as goal

pub returns-clause-text : goal.returns-clause-text
returns-clause-text c =
    let front : take c.args.count c.characters.result ≡ word_text c.args.words c.args.count = first_characters c.args.words c.args.count c.characters.result c.requires.count c.characters.ensures in
    ap (λ n. take n c.put_text.new.bytes) (sym (c.put_text.ensures.end ∙ ap (λ k. c.args.start + k) (ap length front ∙ long_as c.args.words c.args.count))) ∙ c.put_text.ensures.text
    ∙ ap (λ xs. take c.args.start c.args.bytes.now ++ xs) front
