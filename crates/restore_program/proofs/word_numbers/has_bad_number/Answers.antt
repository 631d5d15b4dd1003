use Rattle.std.proofs.Common.{refl, sym, ◌∙◌}
use Rattle.std.proofs.lemmas.Bool.{false≢true}
use Rattle.restore_program.specs.WordRules.{IsBadFor, key_rule_of}
use Rattle.restore_program.proofs.WordPlaces.{all_more, all_passed, any_here, not_any, read_here}
use Rattle.restore_program.proofs.word_numbers.has_bad_number.Goals as goal

pub returns-then-is_bad_for : goal.returns-then-is_bad_for
returns-then-is_bad_for c = (
  λ _.
      any_here key_rule_of (IsBadFor c.args.word.now) c.args.keys.now c.loop-key.key-index _ _ c.loop-key-test.true (read_here c.args.keys.now c.loop-key.key-index _ c.loop-key-test.true) refl
      (c.is_bad_for.ensures.0 c.if-is_bad_for.true),
  λ _. refl,
)

pub loop-key-preserved : goal.loop-key-preserved
loop-key-preserved c =
    all_more key_rule_of (λ key. ¬ IsBadFor c.args.word.now key) c.args.keys.now c.loop-key.key-index _ _ c.loop-key-test.true (read_here c.args.keys.now c.loop-key.key-index _ c.loop-key-test.true) refl c.loop-key.invariant
    (λ bad. false≢true (sym c.if-is_bad_for.false ∙ c.is_bad_for.ensures.1 bad))

pub returns : goal.returns
returns c = (
  λ e. absurd (false≢true e),
  λ any.
      absurd (not_any (IsBadFor c.args.word.now) _ (all_passed key_rule_of (λ key. ¬ IsBadFor c.args.word.now key) c.args.keys.now c.loop-key.key-index c.loop-key-test.false c.loop-key.invariant) any),
)
