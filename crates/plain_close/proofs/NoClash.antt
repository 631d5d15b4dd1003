-- Blocks in which no cell has both literals, one block after another.
use Rattle.std.proofs.Common.{ℕ, ◌≡◌, ◌<◌, ◌+◌, ◌*◌, ◌^◌, ◌&&◌, true, false, List, [], ◌∷◌, ◌++◌, length, map, get_or, take, arith, inl, inr, sym, ap, subst, ◌∙◌}
use Rattle.std.specs.List.{Contains}
use Rattle.std.specs.Int.{w64, trailing_zeros}
use Rattle.std.proofs.lemmas.Bool.{and_from, true≢false}
use Rattle.std.proofs.lemmas.List.{take_more, take_all, map-append}
use Rattle.std.proofs.lemmas.List.Elements.{Contains-push_cases}
use Rattle.sr_model.specs.declared.cells.Cell.{Cell}
use Rattle.sr_model.specs.Closure.{HasBoth}
use Rattle.unroll.specs.declared.words.PinWord.{PinWord}
use Rattle.unroll.specs.Bits.{is_set}
use Rattle.unroll.specs.Problem.{Unrolling, IsInside, block_in}
use Rattle.unroll.proofs.lemmas.Words.{is_set_zero}
use Rattle.known_planes.specs.Planes.{PlaneSet, IsOf, has_bit, lits, words_at}
use Rattle.known_planes.proofs.lemmas.Planes.{lowest-bit, both-here, in-block}
use Rattle.plain_close.specs.Turns.{HaveNoClash}
use Rattle.unroll.specs.declared.problem.InChunk.{InChunk}

module _ (u : Unrolling) (planes : PlaneSet) (in_chunks : List InChunk) where
  pub no_clash-more : (i : ℕ) (d : InChunk) (w : PinWord) (both : ℕ) → i < length in_chunks → w ≡ words_at planes (block_in u (get_or in_chunks i d))
      → ((k : ℕ) → is_set both k ≡ (is_set w.zero k && is_set w.one k)) → both ≡ 0
      → HaveNoClash planes (map (block_in u) (take i in_chunks)) → HaveNoClash planes (map (block_in u) (take (i + 1) in_chunks))
  no_clash-more i d w both within is both_is none before b k h zero_set one_set =
      let more : map (block_in u) (take (i + 1) in_chunks) ≡ map (block_in u) (take i in_chunks) ++ block_in u (get_or in_chunks i d) ∷ [] =
      ap (map (block_in u)) (take_more in_chunks i d within) ∙ map-append (block_in u) (take i in_chunks) (get_or in_chunks i d ∷ []) in
      elim (Contains-push_cases (map (block_in u) (take i in_chunks)) (block_in u (get_or in_chunks i d)) b (subst (λ bs. Contains bs b) more h)) [
        | inl earlier ↦ before b k earlier zero_set one_set
        | inr e ↦
            let words : w ≡ words_at planes b = is ∙ ap (words_at planes) e in
            true≢false (sym (and_from (has_bit planes b false k) (has_bit planes b true k) zero_set one_set)
            ∙ ap (λ (x : PinWord). is_set x.zero k && is_set x.one k) (sym words) ∙ sym (both_is k) ∙ ap (λ n. is_set n k) none ∙ is_set_zero k)
      ]

  pub no_clash-all : (i : ℕ) → length in_chunks ≡ i → HaveNoClash planes (map (block_in u) (take i in_chunks)) → HaveNoClash planes (map (block_in u) in_chunks)
  no_clash-all i all before = subst (λ xs. HaveNoClash planes (map (block_in u) xs)) (take_all i in_chunks (omega (arith, all))) before

-- words with a bit in common are those of a cell with both literals
pub some-both : (u : Unrolling) (planes : PlaneSet) (at : InChunk) (w : PinWord) (both : ℕ) → IsOf u planes → IsInside u at → w ≡ words_at planes (block_in u at)
    → ((k : ℕ) → is_set both k ≡ (is_set w.zero k && is_set w.one k)) → (both ≡ 0 → ⊥) → both < 2 ^ 64 → (c : Cell) × HasBoth (lits u planes) c
some-both u planes at w both of inside is both_is some small =
    let i : ℕ = trailing_zeros w64 both in
    let lowest = lowest-bit both some small in (
      record { cycle = 64 * at.chunk + i; sig = at.sig },
      both-here u planes of at.sig at.chunk i inside.0 inside.1 lowest.0
          (ap (λ (x : PinWord). is_set x.zero i && is_set x.one i) (in-block u planes of at.sig.0 at.chunk ∙ sym is) ∙ sym (both_is i) ∙ lowest.1),
    )
