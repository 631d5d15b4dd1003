use Rattle.std.proofs.Common.{◌≡◌, ◌*◌, ◌/◌, ◌%◌, replicate, arith, sym, ap, subst, ◌∙◌}
use Rattle.std.proofs.lemmas.Bool.{true≢false}
use Rattle.unroll.specs.Bits.{is_set}
use Rattle.unroll.specs.Waiting.{IsKept, mark_length, row_length, row_word}
use Rattle.unroll.proofs.WordBits.{is_set_zero}
use Rattle.unroll.proofs.WaitingWords.{none-kept, zero-word}
use Rattle.unroll.proofs.waiting.WaitingTasks.new.Goals as goal

pub invariant_of-result : goal.invariant_of-result
invariant_of-result c =
    let words : c.in_ok-words.words.items ≡ replicate (c.args.chunks * row_length c.args.signals) 0 = c.in_ok-words.ensures ∙ ap (λ n. replicate (c.args.chunks * n) 0) c.row_len.ensures in
    let marks : c.in_ok-marks.marks.items ≡ replicate (c.args.chunks * mark_length c.args.signals) 0 = c.in_ok-marks.ensures ∙ ap (λ n. replicate (c.args.chunks * n) 0) c.mark_len.ensures in (
      subst (λ ws. IsKept c.args.signals c.args.chunks ws c.in_ok-marks.marks.items) (sym words)
          (subst (IsKept c.args.signals c.args.chunks (replicate (c.args.chunks * row_length c.args.signals) 0)) (sym marks)
          (none-kept c.args.signals c.args.chunks c.requires.signals c.requires.few_chunks)),
      c.requires.some_chunks,
      omega arith,
    )

pub returns-clause-none : goal.returns-clause-none
returns-clause-none c =
    let words : c.in_ok-words.words.items ≡ replicate (c.args.chunks * row_length c.args.signals) 0 = c.in_ok-words.ensures ∙ ap (λ n. replicate (c.args.chunks * n) 0) c.row_len.ensures in
    λ s chunk h. true≢false (sym h.set ∙ ap (λ ws. is_set (row_word c.args.signals ws chunk (s.0 / 64)) (s.0 % 64)) words ∙ ap (λ n. is_set n (s.0 % 64)) (zero-word c.args.signals c.args.chunks chunk (s.0 / 64)) ∙ is_set_zero (s.0 % 64))
