use Rattle.std.proofs.Common.{sym, ◌∙◌, Global}
use Rattle.std.specs.String.{string_bytes}
use Rattle.restore_program.specs.Words.{IsFor}
use Rattle.restore_program.specs.WordRules.{key_rule_of}
use Rattle.restore_program.proofs.GivenValues.{given_none, given_some}
use Rattle.restore_program.proofs.WordPlaces.{all_more, all_passed, first_here}
use Rattle.restore_program.proofs.word_keys.place_of.Goals as goal

pub returns-then-is_some : goal.returns-then-is_some
returns-then-is_some c =
    first_here (string_bytes {Z = Global}) (IsFor (key_rule_of c.args.key.now)) c.args.words.now c.loop-i.i c.index-words-i.result c.as_str.result.now c.loop-i-test.true c.index-words-i.is c.as_str.ensures.value c.loop-i.invariant
    (given_some c.as_str.result.now c.args.key.now.name.now c.value_of.result c.value_of.ensures (sym c.is_some.ensures ∙ c.if-is_some.true))

pub loop-i-preserved : goal.loop-i-preserved
loop-i-preserved c =
    all_more (string_bytes {Z = Global}) (λ word. ¬ IsFor (key_rule_of c.args.key.now) word) c.args.words.now c.loop-i.i c.index-words-i.result c.as_str.result.now c.loop-i-test.true c.index-words-i.is c.as_str.ensures.value
    c.loop-i.invariant (given_none c.as_str.result.now c.args.key.now.name.now c.value_of.result c.value_of.ensures (sym c.is_some.ensures ∙ c.if-is_some.false))

pub returns : goal.returns
returns c = all_passed (string_bytes {Z = Global}) (λ word. ¬ IsFor (key_rule_of c.args.key.now) word) c.args.words.now c.loop-i.i (c.loop-i-test.false) c.loop-i.invariant
