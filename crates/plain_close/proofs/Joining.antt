-- Words that are joined into several blocks.
use Rattle.std.proofs.Common.{ℕ, ◌≡◌, ◌<◌, ◌+◌, true, List, length, map, get_or, arith, inl, inr, refl, sym, ap, subst, ◌∙◌}
use Rattle.std.specs.List.{All}
use Rattle.std.proofs.lemmas.Bool.{cases_lt}
use Rattle.std.proofs.lemmas.List.{get_or-map, length-map}
use Rattle.std.proofs.lemmas.List.Elements.{All-get_or}
use Rattle.unroll.specs.declared.problem.Block.{Block}
use Rattle.unroll.specs.declared.words.PinWord.{PinWord}
use Rattle.unroll.specs.Problem.{Unrolling, HasNoLaterBit, HaveNoLaterBit, chunk_at, IsInside, block_in}
use Rattle.unroll.proofs.lemmas.Laws.{block-chunk}
use Rattle.gate_rules.specs.Forced.{bit_at_place}
use Rattle.known_planes.specs.Planes.{PlaneSet, Joins, has_bit}
use Rattle.plain_close.specs.Turns.{JoinsFirst}
use Rattle.gate_rules.specs.Lanes.{words_at_place}
use Rattle.unroll.specs.declared.problem.InChunk.{InChunk}

abbrev pub block_of_index : List Block → ℕ → Block
block_of_index blocks index = get_or blocks index (record { 0 = 0 })

pub joins-none : (blocks : List Block) (words : List PinWord) (a : PlaneSet) → JoinsFirst blocks words 0 a a
joins-none blocks words a = record { joined = λ b bit i h. absurd (omega (arith, h.first)); only = λ b bit i h. inl h }

-- one block more
pub joins-more : (blocks : List Block) (words : List PinWord) (n : ℕ) (x y z : PlaneSet) → JoinsFirst blocks words n x y
    → Joins (block_of_index blocks n) (words_at_place words n) y z → JoinsFirst blocks words (n + 1) x z
joins-more blocks words n x y z before step = record {
  joined = λ b bit i h. elim (cases_lt h.index n) [
    | inl below ↦ step.kept b bit i (before.joined b bit i (record { index = h.index; first = below; block = h.block; set = h.set }))
    | inr past ↦
        let same : h.index ≡ n = omega (arith, past, h.first) in
        subst (λ c. has_bit z c bit i ≡ true) (ap (block_of_index blocks) (sym same) ∙ h.block) (step.joined bit i (ap (λ k. bit_at_place words k bit i) (sym same) ∙ h.set))
  ];
  only = λ b bit i h. elim (step.only b bit i h) [
    | inl old ↦ elim (before.only b bit i old) [
      | inl first ↦ inl first
      | inr among ↦ inr (record { index = among.index; first = omega (arith, among.first); block = among.block; set = among.set })
    ]
    | inr new ↦ inr (record { index = n; first = omega arith; block = sym new.0; set = new.1 })
  ];
}

-- the block of an index
module _ (u : Unrolling) (in_chunks : List InChunk) (index : ℕ) (d at : InChunk) (within : index < length in_chunks) (at_is : at ≡ get_or in_chunks index d) where
  pub block-is : block_of_index (map (block_in u) in_chunks) index ≡ block_in u at
  block-is = get_or-map (block_in u) in_chunks index d (record { 0 = 0 }) within ∙ ap (block_in u) (sym at_is)

  pub is-inside : All (IsInside u) in_chunks → IsInside u at
  is-inside all = subst (IsInside u) (sym at_is) (All-get_or (IsInside u) in_chunks index d within all)

  pub no_later-at : (out : List PinWord) → All (IsInside u) in_chunks → HaveNoLaterBit u (map (block_in u) in_chunks) out → HasNoLaterBit u.cycles at.chunk (words_at_place out index)
  no_later-at out all later =
      subst (λ c. HasNoLaterBit u.cycles c (words_at_place out index)) (ap (chunk_at u) block-is ∙ block-chunk u at.sig at.chunk (is-inside all).1)
      (later index (subst (λ n. index < n) (sym (length-map in_chunks (block_in u))) within))

-- the block of an index more
pub joins-at : (u : Unrolling) (in_chunks : List InChunk) (words : List PinWord) (n : ℕ) (d : InChunk) (x y z : PlaneSet) → n < length in_chunks → JoinsFirst (map (block_in u) in_chunks) words n x y
    → Joins (block_in u (get_or in_chunks n d)) (words_at_place words n) y z → JoinsFirst (map (block_in u) in_chunks) words (n + 1) x z
joins-at u in_chunks words n d x y z within before step =
    joins-more (map (block_in u) in_chunks) words n x y z before (subst (λ b. Joins b (words_at_place words n) y z) (sym (block-is u in_chunks n d (get_or in_chunks n d) within refl)) step)
