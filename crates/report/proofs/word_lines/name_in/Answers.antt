use Rattle.std.proofs.Common.{◌∙◌, [], lit<}
use Rattle.std.specs.Prelude.{◌==◌}
use Rattle.std.specs.List.{after_first}
use Rattle.std.proofs.lemmas.Iterator.Consumers.{nth_from_yields_List}
use Rattle.std.proofs.lemmas.Iterator.Splits.{YieldsList-from_str_split}
use Rattle.report.specs.Refusals.{listed_names}
use Rattle.report.proofs.KeyedWords.{found_item, keyed_is_split, same_item, second_part}
use Rattle.report.proofs.word_lines.name_in.Goals as goal

pub unwrap-requires : goal.unwrap-requires
unwrap-requires c = keyed_is_split c.args.word.now c.split_once.result c.split_once.ensures.cases c.requires.keyed

pub unwrap-requires-2 : goal.unwrap-requires-2
unwrap-requires-2 c =
    let list = c.split.ensures.text ∙ second_part c.args.word.now c.split_once.result c.unwrap.result c.split_once.ensures.cases c.unwrap.ensures in
    found_item (listed_names c.args.word.now) c.args.item c.nth.result
    (nth_from_yields_List _ _ c.args.item c.nth.ensures.ran (YieldsList-from_str_split 44 (after_first (λ b. b == 61) c.args.word.now) (lit< tt) list c.split.ensures.has_more c.split.ensures.pattern))
    c.requires.there

pub returns : goal.returns
returns c =
    let list = c.split.ensures.text ∙ second_part c.args.word.now c.split_once.result c.unwrap.result c.split_once.ensures.cases c.unwrap.ensures in
    same_item (listed_names c.args.word.now) c.args.item c.nth.result c.unwrap-2.result []
    (nth_from_yields_List _ _ c.args.item c.nth.ensures.ran (YieldsList-from_str_split 44 (after_first (λ b. b == 61) c.args.word.now) (lit< tt) list c.split.ensures.has_more c.split.ensures.pattern))
    c.unwrap-2.ensures
