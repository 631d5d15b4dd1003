use Rattle.std.proofs.Common.{◌∙◌, ◌&&◌, not, ap, rules, tests}
use Rattle.std.specs.List.{list_all}
use Rattle.std.proofs.lemmas.Iterator.{YieldsList-from_slice}
use Rattle.std.proofs.lemmas.Iterator.Search.{all_from_yields_List}
use Rattle.sr_text.specs.Name.{is_name_byte}
use Rattle.sr_text.proofs.names.name_ok.Goals as goal

pub returns-then-not-is_empty : goal.returns-then-not-is_empty
returns-then-not-is_empty c =
    all_from_yields_List is_name_byte _ _ c.all.result c.all.ensures.ran (YieldsList-from_slice c.args.name.now (cc)) (λ x b q k. search (rules, tests))
    ∙ ap (λ empty. not empty && list_all is_name_byte c.args.name.now) c.if-not-is_empty.ensures
