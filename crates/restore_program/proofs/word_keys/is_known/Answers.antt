use Rattle.std.proofs.Common.{refl, sym, ◌∙◌}
use Rattle.std.proofs.lemmas.Bool.{false≢true}
use Rattle.restore_program.specs.Words.{Suits}
use Rattle.restore_program.specs.WordRules.{key_rule_of}
use Rattle.restore_program.proofs.WordPlaces.{all_more, all_passed, any_here, not_any, read_here}
use Rattle.restore_program.proofs.word_keys.is_known.Goals as goal

pub returns-then-suits : goal.returns-then-suits
returns-then-suits c = (
  λ _. any_here key_rule_of (Suits c.args.word.now) c.args.keys.now c.loop-key.key-index _ _ c.loop-key-test.true (read_here c.args.keys.now c.loop-key.key-index _ c.loop-key-test.true) refl (c.suits.ensures.0 c.if-suits.true),
  λ _. refl,
)

pub loop-key-preserved : goal.loop-key-preserved
loop-key-preserved c =
    all_more key_rule_of (λ key. ¬ Suits c.args.word.now key) c.args.keys.now c.loop-key.key-index _ _ c.loop-key-test.true (read_here c.args.keys.now c.loop-key.key-index _ c.loop-key-test.true) refl c.loop-key.invariant
    (λ s. false≢true (sym c.if-suits.false ∙ c.suits.ensures.1 s))

pub returns : goal.returns
returns c = (
  λ e. absurd (false≢true e),
  λ any. absurd (not_any (Suits c.args.word.now) _ (all_passed key_rule_of (λ key. ¬ Suits c.args.word.now key) c.args.keys.now c.loop-key.key-index c.loop-key-test.false c.loop-key.invariant) any),
)
