-- The words of planes in one list.
use Rattle.std.specs.Prelude.{Option}
use Rattle.std.proofs.Common.{ℕ, ◌≡◌, ◌+◌, ◌*◌, ◌<◌, List, get_or, sym, ap, subst, ◌∙◌}
use Rattle.std.proofs.lemmas.List.{ext_get_or}
use Rattle.unroll.specs.declared.problem.Block.{Block}
use Rattle.unroll.specs.declared.problem.InChunk.{InChunk}
use Rattle.unroll.specs.declared.words.PinWord.{PinWord}
use Rattle.unroll.specs.Bits.{no_words}
use Rattle.unroll.specs.Problem.{Unrolling, HasNoLaterBit, IsInside, IsProblem, signals_in, chunks_in, blocks_in, block_in, sig_at, chunk_at}
use Rattle.unroll.proofs.lemmas.Laws.{block-chunk, block-itself, block-within, chunk-within, sig-within}
use Rattle.unroll.proofs.lemmas.Tasks.{some_chunk}
use Rattle.known_planes.specs.Laws.{ListsTellPlanes}
use Rattle.known_planes.specs.Layout.{IsLaidOut, pair_at, place_of, words_from}
use Rattle.known_planes.specs.Planes.{PlaneSet, IsOf, words_at}
use Rattle.known_planes.specs.WordLists.{IsWordList, ListsWords}
use Rattle.known_planes.proofs.Layouts.{over, words-by-place, words-size}

-- the block's signal and chunk
abbrev in_chunk : Unrolling → Block → InChunk
in_chunk u b = record { sig = sig_at u b; chunk = chunk_at u b }

module _ (u : Unrolling) (signals chunks : ℕ) (list : List ℕ) (mark : Option (List PinWord)) (signals_is : signals ≡ signals_in u) (chunks_is : chunks ≡ chunks_in u) where
  blocks-are : signals * chunks ≡ blocks_in u
  blocks-are = ap (λ n. n * chunks) signals_is ∙ ap (λ n. signals_in u * n) chunks_is

  pub made-listed : ListsWords u (over signals chunks (words_from signals chunks list) mark) list
  made-listed at inside =
      ap (λ n. pair_at list (place_of n at.sig.0 at.chunk)) (sym signals_is)
      ∙ sym (words-by-place signals chunks list at.sig.0 at.chunk (subst (λ n. at.sig.0 < n) (sym signals_is) inside.0) (subst (λ n. at.chunk < n) (sym chunks_is) inside.1))
      ∙ ap (λ n. get_or (words_from signals chunks list) (at.sig.0 * n + at.chunk) no_words) chunks_is

  -- what the list is, where it is that of planes
  pub laid-list : (planes : PlaneSet) → ListsWords u planes list → IsOf u planes → IsLaidOut signals chunks list → IsWordList u list
  laid-list planes listed of laid = record {
    size = laid.size ∙ ap (λ n. 2 * n + 1) blocks-are;
    last = ap (λ n. get_or list (2 * n) 1) (sym blocks-are) ∙ laid.last;
    no_later = λ at inside.
        subst (HasNoLaterBit u.cycles at.chunk) (sym (listed at inside))
        (subst (λ n. HasNoLaterBit u.cycles n (words_at planes (block_in u at))) (block-chunk u at.sig at.chunk inside.1)
        (of.no_later (block_in u at) (block-within u at.sig at.chunk inside.1 inside.0)));
  }

  module _ (problem : IsProblem u) (is : IsWordList u list) where
    pub made-of : IsOf u (over signals chunks (words_from signals chunks list) mark)
    made-of = record {
      signals = signals_is;
      chunks = chunks_is;
      blocks = words-size signals chunks list ∙ blocks-are;
      no_later = λ b h.
          let inside : IsInside u (in_chunk u b) = (sig-within u b (some_chunk u problem) h, chunk-within u b (some_chunk u problem)) in
          subst (λ (x : Block). HasNoLaterBit u.cycles (chunk_at u b) (words_at (over signals chunks (words_from signals chunks list) mark) x)) (block-itself u b)
          (subst (HasNoLaterBit u.cycles (chunk_at u b)) (made-listed (in_chunk u b) inside) (is.no_later (in_chunk u b) inside));
    }

-- the list of planes
module _ (u : Unrolling) (signals chunks : ℕ) (list : List ℕ) (mark : Option (List PinWord)) (planes : PlaneSet) (of : IsOf u planes) (view : over signals chunks (words_from signals chunks list) mark ≡ planes) where
  signals-are : signals ≡ signals_in u
  signals-are = ap (λ (p : PlaneSet). p.signals) view ∙ of.signals

  chunks-are : chunks ≡ chunks_in u
  chunks-are = ap (λ (p : PlaneSet). p.chunks) view ∙ of.chunks

  pub planes-listed : ListsWords u planes list
  planes-listed = subst (λ p. ListsWords u p list) view (made-listed u signals chunks list mark signals-are chunks-are)

  pub planes-list : IsLaidOut signals chunks list → IsWordList u list
  planes-list laid = laid-list u signals chunks list mark signals-are chunks-are planes planes-listed of laid

-- the same words and mark are the same planes
same-planes : (a b : PlaneSet) → a.signals ≡ b.signals → a.chunks ≡ b.chunks → a.words ≡ b.words → a.mark ≡ b.mark → a ≡ b
same-planes a b signals chunks words mark =
    ap (λ n. over n a.chunks a.words a.mark) signals ∙ ap (λ n. over b.signals n a.words a.mark) chunks ∙ ap (λ ws. over b.signals b.chunks ws a.mark) words ∙ ap (over b.signals b.chunks b.words) mark

pub lists_tell_planes : ListsTellPlanes
lists_tell_planes u a b list problem of_a of_b mark listed_a listed_b =
    same-planes a b (of_a.signals ∙ sym of_b.signals) (of_a.chunks ∙ sym of_b.chunks)
    (ext_get_or no_words a.words b.words (of_a.blocks ∙ sym of_b.blocks) (λ n below. each (record { 0 = n }) (subst (λ m. n < m) of_a.blocks below))) mark
  where
    each : (x : Block) → x.0 < blocks_in u → words_at a x ≡ words_at b x
    each x h =
        let inside : IsInside u (in_chunk u x) = (sig-within u x (some_chunk u problem) h, chunk-within u x (some_chunk u problem)) in
        subst (λ (y : Block). words_at a y ≡ words_at b y) (block-itself u x) (sym (listed_a (in_chunk u x) inside) ∙ listed_b (in_chunk u x) inside)
