use Rattle.std.proofs.Common.{ℕ, ◌≡◌, ◌+◌, ◌*◌, ◌/◌, ◌<◌, true, [], ◌∷◌, sym, ap, subst, bit_or, ◌∙◌}
use Rattle.unroll.specs.Bits.{is_set}
use Rattle.unroll.specs.Waiting.{Adds, with_word}
use Rattle.unroll.proofs.WaitingWords.{added-bits, adds}
use Rattle.unroll.proofs.waiting.WaitingTasks.add.Goals as goal

pub put-requires-clause-signals : goal.put-requires-clause-signals
put-requires-clause-signals c =
    subst (λ b. (i : ℕ) → i < 64 → is_set (bit_or c.word.result b) i ≡ true → c.args.at.sig.0 / 64 * 64 + i < c.args.self.now.signals) (sym c.alone.ensures)
    (added-bits c.args.self.now c.args.at.chunk c.args.at.sig c.word.result c.word.ensures.word c.requires.chunk c.requires.signal c.word.ensures.within c.word.ensures.signals)

pub returns : goal.returns
returns c =
    subst (Adds (c.args.at.sig ∷ []) c.args.at.chunk c.args.self.now) (sym (c.put.ensures ∙ ap (λ b. with_word c.args.self.now c.args.at.chunk (c.args.at.sig.0 / 64) (bit_or c.word.result b)) c.alone.ensures))
    (adds c.args.self.now c.args.at.chunk c.args.at.sig c.word.result c.word.ensures.word c.requires.chunk c.requires.signal c.word.ensures.within)
