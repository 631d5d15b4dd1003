use Rattle.std.proofs.Common.{refl, sym, ◌∙◌, Any, Global, map}
use Rattle.std.specs.String.{string_bytes}
use Rattle.std.proofs.lemmas.Bool.{false≢true}
use Rattle.restore_program.specs.Words.{Suits}
use Rattle.restore_program.specs.WordRules.{key_rule_of}
use Rattle.restore_program.proofs.WordPlaces.{all_more, all_passed, not_all}
use Rattle.restore_program.proofs.word_keys.are_known.Goals as goal

pub returns-then-not-is_known : goal.returns-then-not-is_known
returns-then-not-is_known c = (
  λ e. absurd (false≢true e),
  λ all.
      absurd
      (not_all (string_bytes {Z = Global}) (λ word. Any (Suits word) (map key_rule_of c.args.keys.now)) c.args.words.now c.loop-word.word-index c.word-item.result c.as_str.result.now c.loop-word-test.true c.word-item.is
      c.as_str.ensures.value (λ known. false≢true (sym c.if-not-is_known.true ∙ c.is_known.ensures.1 known)) all),
)

pub loop-word-preserved : goal.loop-word-preserved
loop-word-preserved c =
    all_more (string_bytes {Z = Global}) (λ word. Any (Suits word) (map key_rule_of c.args.keys.now)) c.args.words.now c.loop-word.word-index c.word-item.result c.as_str.result.now c.loop-word-test.true c.word-item.is
    c.as_str.ensures.value c.loop-word.invariant (c.is_known.ensures.0 c.if-not-is_known.false)

pub returns : goal.returns
returns c = (
  λ _. all_passed (string_bytes {Z = Global}) (λ word. Any (Suits word) (map key_rule_of c.args.keys.now)) c.args.words.now c.loop-word.word-index c.loop-word-test.false c.loop-word.invariant,
  λ _. refl,
)
