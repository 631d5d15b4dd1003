use Rattle.std.proofs.Common.{ap, ◌==◌, lit<, rules, tests}
use Rattle.std.specs.Prelude.{not, length}
use Rattle.std.proofs.lemmas.Iterator.Search.{all_from_yields_List}
use Rattle.std.proofs.lemmas.Iterator.Splits.{YieldsList-from_str_split}
use Rattle.restore_program.specs.WordRules.{taken_by}
use Rattle.restore_program.proofs.GivenValues.{names_are_given}
use Rattle.restore_program.proofs.word_keys.has_shape.Goals as goal

pub returns-in-Names : goal.returns-in-Names
returns-in-Names c =
    names_are_given (taken_by c.args.takes) c.args.value.now c.all.result (ap taken_by c.in-Names.is)
    (all_from_yields_List (λ item. not (length item == 0)) _ _ _ c.all.ensures.ran (YieldsList-from_str_split 44 c.args.value.now (lit< tt) c.split.ensures.text c.split.ensures.has_more c.split.ensures.pattern)
    (λ x b q k. search (rules, tests)))
