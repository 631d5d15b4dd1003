use Rattle.std.proofs.Common.{List, ℕ, refl, sym, ◌∙◌, map, Global}
use Rattle.std.specs.String.{string_bytes}
use Rattle.std.proofs.lemmas.Bool.{false≢true}
use Rattle.restore_program.specs.Words.{IsGivenRight}
use Rattle.restore_program.specs.WordRules.{key_rule_of}
use Rattle.restore_program.proofs.WordPlaces.{all_more, all_passed, not_all, read_here}
use Rattle.restore_program.proofs.word_keys.are_given.Goals as goal

pub returns-then-not-is_given_right : goal.returns-then-not-is_given_right
returns-then-not-is_given_right c =
    let words : List (List ℕ) = map (string_bytes {Z = Global}) c.args.words.now in
    let keys = c.args.keys.now in (
      λ e. absurd (false≢true e),
      λ all.
          absurd
          (not_all key_rule_of (IsGivenRight words) keys c.loop-key.key-index _ _ c.loop-key-test.true (read_here keys c.loop-key.key-index _ c.loop-key-test.true) refl
          (λ right. false≢true (sym c.if-not-is_given_right.true ∙ c.is_given_right.ensures.1 right)) all),
    )

pub loop-key-preserved : goal.loop-key-preserved
loop-key-preserved c =
    let words : List (List ℕ) = map (string_bytes {Z = Global}) c.args.words.now in
    let keys = c.args.keys.now in
    all_more key_rule_of (IsGivenRight words) keys c.loop-key.key-index _ _ c.loop-key-test.true (read_here keys c.loop-key.key-index _ c.loop-key-test.true) refl c.loop-key.invariant
    (c.is_given_right.ensures.0 c.if-not-is_given_right.false)

pub returns : goal.returns
returns c = (
  λ _. all_passed key_rule_of (IsGivenRight (map (string_bytes {Z = Global}) c.args.words.now)) c.args.keys.now c.loop-key.key-index c.loop-key-test.false c.loop-key.invariant,
  λ _. refl,
)
