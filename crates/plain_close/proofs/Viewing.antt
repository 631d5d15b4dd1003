-- The words of blocks, as a task sees them.
use Rattle.std.proofs.Common.{ℕ, ◌≡◌, ◌<◌, List, [], ◌∷◌, length, map, get_or, sym, ap, subst, ◌∙◌}
use Rattle.std.specs.List.{All, Contains}
use Rattle.std.proofs.lemmas.Bool.{lt-ltb}
use Rattle.std.proofs.lemmas.List.{get_or-map, length-map}
use Rattle.std.proofs.lemmas.List.Elements.{All-get_or}
use Rattle.sr_model.specs.declared.cells.Cell.{Cell}
use Rattle.unroll.specs.declared.problem.Block.{Block}
use Rattle.unroll.specs.declared.problem.InChunk.{InChunk}
use Rattle.unroll.specs.declared.words.PinWord.{PinWord}
use Rattle.unroll.specs.Bits.{is_set, no_words, word_for}
use Rattle.unroll.specs.Problem.{Unrolling, HasNoLaterBit, HaveNoLaterBit, IsInside, IsProblem, blocks_in, block_in, block_of, chunk_at}
use Rattle.unroll.specs.Tasks.{IsCellOf, task_in}
use Rattle.unroll.proofs.lemmas.Laws.{block-within}
use Rattle.gate_rules.specs.Forced.{AreForcedBy, IsViewOf, lit_at_place}
use Rattle.gate_rules.specs.Lanes.{words_at_place}
use Rattle.gate_rules.proofs.lemmas.Laws.{forced-in_time}
use Rattle.known_planes.specs.Planes.{PlaneSet, IsOf, has, words_at}
use Rattle.known_planes.proofs.lemmas.Laws.{bits_are_literals}
use Rattle.gate_rules.specs.FewPins.{ForceAs}
use Rattle.plain_close.specs.Turns.{AreForced}

abbrev nowhere : InChunk
nowhere = record { sig = record { 0 = 0 }; chunk = 0 }

module _ (u : Unrolling) (is : IsProblem u) (planes : PlaneSet) (of : IsOf u planes) (places : List InChunk) (all : All (IsInside u) places) (view : List PinWord)
    (view_is : view ≡ map (λ at. words_at planes (block_in u at)) places) where
  module _ (index : ℕ) (within : index < length (map (block_in u) places)) where
    abbrev block : Block
    block = get_or (map (block_in u) places) index (record { 0 = 0 })

    listed : index < length places
    listed = subst (λ n. index < n) (length-map places (block_in u)) within

    block-is : block ≡ block_in u (get_or places index nowhere)
    block-is = get_or-map (block_in u) places index nowhere (record { 0 = 0 }) listed

    words-are : words_at_place view index ≡ words_at planes block
    words-are =
        ap (λ ws. words_at_place ws index) view_is ∙ get_or-map (λ at. words_at planes (block_in u at)) places index nowhere no_words listed ∙ ap (words_at planes) (sym block-is)

    in-blocks : block.0 < blocks_in u
    in-blocks =
        let inside : IsInside u (get_or places index nowhere) = All-get_or (IsInside u) places index nowhere listed all in
        subst (λ (b : Block). b.0 < blocks_in u) (sym block-is) (block-within u (get_or places index nowhere).sig (get_or places index nowhere).chunk inside.1 inside.0)

  pub viewed : IsViewOf u (map (block_in u) places) (has u planes) view
  viewed index i bit within few early =
      ap (λ w. is_set (word_for bit w) i) (words-are index within) ∙ bits_are_literals u planes (block index within) bit i is of (in-blocks index within) few

  pub view-early : HaveNoLaterBit u (map (block_in u) places) view
  view-early index within = subst (HasNoLaterBit u.cycles (chunk_at u (block index within))) (sym (words-are index within)) (of.no_later (block index within) (in-blocks index within))

  -- what a task forces by the rule on few pins
  pub few-forced : (task : InChunk) (out : List PinWord) → length out ≡ length places → ((c : Cell) → IsCellOf u (task_in u task) c → Contains (map (block_in u) places) (block_of u c))
      → ForceAs view out u task places → AreForced u planes task places out
  few-forced task out size has_cells forces =
      let exact : AreForcedBy u (task_in u task) (map (block_in u) places) (has u planes) out = forces (has u planes) viewed view-early in
      record {
        problem = is;
        inside = all;
        has_cells = has_cells;
        out_size = size;
        exact = exact;
        later = λ index within bit i few set.
            let lit = lit_at_place u (map (block_in u) places) index bit i in
            lt-ltb lit.cell.cycle u.cycles (forced-in_time u (task_in u task) (has u planes) lit ((exact index i bit within few).0 set));
      }

-- the words of two blocks, and of three
pub view-two : (u : Unrolling) (planes : PlaneSet) (a b : InChunk) (v w : PinWord) → v ≡ words_at planes (block_in u a) → w ≡ words_at planes (block_in u b)
    → v ∷ w ∷ [] ≡ map (λ at. words_at planes (block_in u at)) (a ∷ b ∷ [])
view-two u planes a b v w first second = ap (λ x. x ∷ w ∷ []) first ∙ ap (λ x. words_at planes (block_in u a) ∷ x ∷ []) second

pub view-three : (u : Unrolling) (planes : PlaneSet) (a b c : InChunk) (v w x : PinWord) → v ≡ words_at planes (block_in u a) → w ≡ words_at planes (block_in u b) → x ≡ words_at planes (block_in u c)
    → v ∷ w ∷ x ∷ [] ≡ map (λ at. words_at planes (block_in u at)) (a ∷ b ∷ c ∷ [])
view-three u planes a b c v w x first second third = ap (λ y. v ∷ y) (view-two u planes b c w x second third) ∙ ap (λ y. y ∷ words_at planes (block_in u b) ∷ words_at planes (block_in u c) ∷ []) first
