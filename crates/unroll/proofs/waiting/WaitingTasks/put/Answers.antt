use Rattle.std.proofs.Common.{◌+◌, ◌*◌, ◌/◌, ◌<◌, List, ℕ, length, get_or, set, bit_xor, arith, sym, ap, subst, ◌∙◌}
use Rattle.unroll.specs.Waiting.{Waiting, IsKept, mark_length}
use Rattle.unroll.proofs.WaitingWords.{flip-kept, mark-within, same-kept}
use Rattle.unroll.proofs.waiting.WaitingTasks.put.Goals as goal

pub index_mut-requires-then-old-word : goal.index_mut-requires-then-old-word
index_mut-requires-then-old-word c =
    let marks : List ℕ = c.self.inside.marks.items in
    let kept : IsKept c.args.self.now.signals c.args.self.now.chunks c.args.self.now.words marks =
    subst (λ (w : Waiting). IsKept w.signals w.chunks w.words marks) c.self.view_is c.self.invariant.0 in
    let within : c.args.chunk * c.mark_len.result + c.args.row / 64 < length marks =
    subst (λ n. c.args.chunk * n + c.args.row / 64 < length marks) (sym (c.mark_len.ensures ∙ ap (λ (w : Waiting). mark_length w.signals) c.self.view_is))
    (mark-within c.args.self.now marks kept c.args.chunk c.args.row c.args.word c.requires.chunk c.requires.row) in
    omega (arith, within, c.self.inside.marks.ok.0)

pub invariant_of-self : goal.invariant_of-self
invariant_of-self c =
    let marks : List ℕ = c.self.inside.marks.items in
    let kept : IsKept c.args.self.now.signals c.args.self.now.chunks c.args.self.now.words marks =
    subst (λ (w : Waiting). IsKept w.signals w.chunks w.words marks) c.self.view_is c.self.invariant.0 in (
      subst (λ (w : Waiting). IsKept w.signals w.chunks (set w.words c.place-place.result c.args.word)
          (set marks (c.args.chunk * c.mark_len.result + c.args.row / 64) (bit_xor c.index_mut-then-old-word.result.now c.alone.result))) (sym c.self.view_is)
          (flip-kept c.args.self.now marks kept c.args.chunk c.args.row c.args.word c.requires.chunk c.requires.row c.requires.signals c.place-place.result c.index-old.result.now c.place-place.ensures.place
          (c.index-old.ensures ∙ ap (λ (w : Waiting). get_or w.words c.place-place.result c.index-old.result.now) c.self.view_is)
          c.mark_len.result c.index_mut-then-old-word.result.now (c.mark_len.ensures ∙ ap (λ (w : Waiting). mark_length w.signals) c.self.view_is) c.index_mut-then-old-word.ensures.value c.if-old-word.true
          c.alone.result c.alone.ensures),
      c.self.invariant.1,
      c.self.invariant.2,
    )

pub invariant_of-self-else-old-word : goal.invariant_of-self-else-old-word
invariant_of-self-else-old-word c =
    let marks : List ℕ = c.self.inside.marks.items in
    let kept : IsKept c.args.self.now.signals c.args.self.now.chunks c.args.self.now.words marks =
    subst (λ (w : Waiting). IsKept w.signals w.chunks w.words marks) c.self.view_is c.self.invariant.0 in (
      subst (λ (w : Waiting). IsKept w.signals w.chunks (set w.words c.place-place.result c.args.word) marks) (sym c.self.view_is)
          (same-kept c.args.self.now marks kept c.args.chunk c.args.row c.args.word c.requires.chunk c.requires.row c.requires.signals c.place-place.result c.index-old.result.now c.place-place.ensures.place
          (c.index-old.ensures ∙ ap (λ (w : Waiting). get_or w.words c.place-place.result c.index-old.result.now) c.self.view_is) c.if-old-word.false),
      c.self.invariant.1,
      c.self.invariant.2,
    )
