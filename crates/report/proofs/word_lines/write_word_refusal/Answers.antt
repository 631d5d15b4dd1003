use Rattle.std.proofs.Common.{◌≡◌, ◌∙◌, ◌++◌, map, ap, sym, subst}
use Rattle.std.specs.Prelude.{codes}
use Rattle.std.specs.String.{string_bytes}
use Rattle.report.specs.Refusals.{HasKey, WordIsThere, key_of, word_at, word_line}
use Rattle.report.specs.Writes.{Writes}
use Rattle.report.proofs.KeyedWords.{word_read}
use Rattle.report.proofs.word_lines.write_word_refusal.Goals as goal

pub returns-in-Number : goal.returns-in-Number
returns-in-Number g c =
    let there : HasKey (map string_bytes c.args.words.now) c.in-Number.place = subst (WordIsThere (map string_bytes c.args.words.now)) c.in-Number.is c.requires in
    let word : c.as_str.result.now ≡ word_at (map string_bytes c.args.words.now) c.in-Number.place = word_read string_bytes c.args.words.now c.in-Number.place c.index-words-place.result c.as_str.result.now there c.index-words-place.is c.as_str.ensures.value in
    let key : c.as_bytes.result.now ≡ key_of (word_at (map string_bytes c.args.words.now) c.in-Number.place) = c.as_bytes.ensures.value ∙ c.key_of-key.ensures ∙ ap key_of word in
    subst (Writes g.K.Sink.written g.K.Sink.room g.K.Sink.faults c.args.out.now c.write_pieces.new.out c.write_pieces.result)
    (ap (λ k. codes "srestore: words: 23 number " ++ k ++ codes "\n") key ∙ ap (word_line (map string_bytes c.args.words.now)) (sym c.in-Number.is)) c.write_pieces.ensures
