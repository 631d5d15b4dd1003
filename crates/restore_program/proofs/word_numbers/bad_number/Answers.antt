use Rattle.std.proofs.Common.{sym, ◌∙◌, Any, Global, map}
use Rattle.std.specs.String.{string_bytes}
use Rattle.std.proofs.lemmas.Bool.{false≢true}
use Rattle.restore_program.specs.WordRules.{IsBadFor, key_rule_of}
use Rattle.restore_program.proofs.WordPlaces.{all_more, all_passed, first_here}
use Rattle.restore_program.proofs.word_numbers.bad_number.Goals as goal

pub returns-then-has_bad_number : goal.returns-then-has_bad_number
returns-then-has_bad_number c =
    first_here (string_bytes {Z = Global}) (λ word. Any (IsBadFor word) (map key_rule_of c.args.keys.now)) c.args.words.now c.loop-i.i c.index-words-i.result c.as_str.result.now c.loop-i-test.true c.index-words-i.is
    c.as_str.ensures.value c.loop-i.invariant (c.has_bad_number.ensures.0 c.if-has_bad_number.true)

pub loop-i-preserved : goal.loop-i-preserved
loop-i-preserved c =
    all_more (string_bytes {Z = Global}) (λ word. ¬ Any (IsBadFor word) (map key_rule_of c.args.keys.now)) c.args.words.now c.loop-i.i c.index-words-i.result c.as_str.result.now c.loop-i-test.true c.index-words-i.is
    c.as_str.ensures.value c.loop-i.invariant (λ bad. false≢true (sym c.if-has_bad_number.false ∙ c.has_bad_number.ensures.1 bad))

pub returns : goal.returns
returns c = all_passed (string_bytes {Z = Global}) (λ word. ¬ Any (IsBadFor word) (map key_rule_of c.args.keys.now)) c.args.words.now c.loop-i.i c.loop-i-test.false c.loop-i.invariant
