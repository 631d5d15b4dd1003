-- The words of planes in one list, as they lie.
use Rattle.std.specs.Prelude.{ℕ, ◌≡◌, ◌+◌, ◌*◌, List, length, slice_index_or}
use Rattle.unroll.specs.declared.problem.InChunk.{InChunk}
use Rattle.unroll.specs.declared.words.PinWord.{PinWord}
use Rattle.unroll.specs.Problem.{Unrolling, HasNoLaterBit, IsInside, signals_in, blocks_in, block_in}
use Rattle.known_planes.specs.Planes.{PlaneSet, words_at}
use Rattle.known_planes.specs.Layout.{pair_at, place_of}

-- the pair of words at the place of a signal in a chunk
abbrev pub listed_at : Unrolling → List ℕ → InChunk → PinWord
listed_at u list at = pair_at list (place_of (signals_in u) at.sig.0 at.chunk)

-- a pair of words for each block, with no bit of a later cycle, and a further word that is 0
pub record IsWordList (u : Unrolling) (list : List ℕ) : Type 0 where
  pub size : length list ≡ 2 * blocks_in u + 1
  pub last : slice_index_or list (2 * blocks_in u) 1 ≡ 0
  pub no_later : (at : InChunk) → IsInside u at → HasNoLaterBit u.cycles at.chunk (listed_at u list at)

-- the list has the words of each block at its place
abbrev pub ListsWords : Unrolling → PlaneSet → List ℕ → Type 0
ListsWords u planes list = (at : InChunk) → IsInside u at → listed_at u list at ≡ words_at planes (block_in u at)
