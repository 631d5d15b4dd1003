use Rattle.std.proofs.Common.{ℕ, ◌≡◌, ◌+◌, ◌*◌, ◌/◌, ◌<◌, ◌⊎◌, true, sym, ap, subst, bit_and, ◌∙◌}
use Rattle.std.specs.Int.{bit_not, w64}
use Rattle.sr_model.specs.declared.cells.Sig.{Sig}
use Rattle.unroll.specs.Bits.{is_set}
use Rattle.unroll.specs.Waiting.{Waiting, Waits, with_word, waiting_measure}
use Rattle.unroll.proofs.WaitingWords.{left-old, remove-kept, remove-only, remove-gone, remove-fewer}
use Rattle.unroll.proofs.waiting.WaitingTasks.remove.Goals as goal

pub put-requires-clause-signals : goal.put-requires-clause-signals
put-requires-clause-signals c =
    subst (λ b. (i : ℕ) → i < 64 → is_set (bit_and c.word.result (bit_not w64 b)) i ≡ true → c.args.at.sig.0 / 64 * 64 + i < c.args.self.now.signals) (sym c.alone.ensures)
    (λ i small h. c.word.ensures.signals i small (left-old c.args.self.now c.args.at.chunk c.args.at.sig c.word.result c.word.ensures.word c.requires c.word.ensures.within i h))

pub returns-clause-kept : goal.returns-clause-kept
returns-clause-kept c =
    subst (λ (w : Waiting). (s : Sig) (c' : ℕ) → Waits c.args.self.now s c' → Waits w s c' ⊎ ((s ≡ c.args.at.sig) × (c' ≡ c.args.at.chunk)))
    (sym (c.put.ensures ∙ ap (λ b. with_word c.args.self.now c.args.at.chunk (c.args.at.sig.0 / 64) (bit_and c.word.result (bit_not w64 b))) c.alone.ensures))
    (remove-kept c.args.self.now c.args.at.chunk c.args.at.sig c.word.result c.word.ensures.word c.requires c.word.ensures.within)

pub returns-clause-only : goal.returns-clause-only
returns-clause-only c =
    subst (λ (w : Waiting). (s : Sig) (c' : ℕ) → Waits w s c' → Waits c.args.self.now s c') (sym (c.put.ensures ∙ ap (λ b. with_word c.args.self.now c.args.at.chunk (c.args.at.sig.0 / 64) (bit_and c.word.result (bit_not w64 b))) c.alone.ensures))
    (remove-only c.args.self.now c.args.at.chunk c.args.at.sig c.word.result c.word.ensures.word c.requires c.word.ensures.within)

pub returns-clause-fewer : goal.returns-clause-fewer
returns-clause-fewer c =
    subst (λ (w : Waiting). waiting_measure w < waiting_measure c.args.self.now) (sym (c.put.ensures ∙ ap (λ b. with_word c.args.self.now c.args.at.chunk (c.args.at.sig.0 / 64) (bit_and c.word.result (bit_not w64 b))) c.alone.ensures))
    (remove-fewer c.args.self.now c.args.at.chunk c.args.at.sig c.word.result c.word.ensures.word c.requires c.word.ensures.within)

pub returns-clause-gone : goal.returns-clause-gone
returns-clause-gone c =
    subst (λ (w : Waiting). Waits w c.args.at.sig c.args.at.chunk → ⊥) (sym (c.put.ensures ∙ ap (λ b. with_word c.args.self.now c.args.at.chunk (c.args.at.sig.0 / 64) (bit_and c.word.result (bit_not w64 b))) c.alone.ensures))
    (remove-gone c.args.self.now c.args.at.chunk c.args.at.sig c.word.result c.word.ensures.word c.requires c.word.ensures.within)
