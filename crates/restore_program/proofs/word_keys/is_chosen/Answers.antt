use Rattle.std.proofs.Common.{refl, sym, ◌∙◌, codes, Global}
use Rattle.std.specs.String.{string_bytes}
use Rattle.std.proofs.lemmas.Bool.{false≢true}
use Rattle.restore_program.specs.Words.{Gives}
use Rattle.restore_program.proofs.WordPlaces.{all_more, all_passed, any_here, not_any}
use Rattle.restore_program.proofs.word_keys.is_chosen.Goals as goal

pub returns-then-gives_yes : goal.returns-then-gives_yes
returns-then-gives_yes c = (
  λ _.
      any_here (string_bytes {Z = Global}) (λ word. Gives word c.args.key.now.name.now (codes "yes")) c.args.words.now c.loop-word.word-index c.word-item.result c.as_str.result.now c.loop-word-test.true c.word-item.is
      c.as_str.ensures.value (c.gives_yes.ensures.0 c.if-gives_yes.true),
  λ _. refl,
)

pub loop-word-preserved : goal.loop-word-preserved
loop-word-preserved c =
    all_more (string_bytes {Z = Global}) (λ word. ¬ Gives word c.args.key.now.name.now (codes "yes")) c.args.words.now c.loop-word.word-index c.word-item.result c.as_str.result.now c.loop-word-test.true c.word-item.is
    c.as_str.ensures.value c.loop-word.invariant (λ gives. false≢true (sym c.if-gives_yes.false ∙ c.gives_yes.ensures.1 gives))

pub returns : goal.returns
returns c = (
  λ e. absurd (false≢true e),
  λ any.
      absurd
      (not_any (λ word. Gives word c.args.key.now.name.now (codes "yes")) _
      (all_passed (string_bytes {Z = Global}) (λ word. ¬ Gives word c.args.key.now.name.now (codes "yes")) c.args.words.now c.loop-word.word-index c.loop-word-test.false c.loop-word.invariant) any),
)
