-- How many literals planes have, and in how many cells of flip-flops.
use Rattle.std.specs.Prelude.{ℕ, ◌+◌, ◌*◌, ◌||◌, Bool, true, false, List, bit_or, slice_index_or}
use Rattle.std.specs.List.{count_by, sum_by, range_with_len}
use Rattle.sr_model.specs.declared.cells.Sig.{Sig}
use Rattle.sr_model.specs.declared.cells.Cell.{Cell}
use Rattle.sr_model.specs.declared.cells.Lit.{Lit}
use Rattle.sr_model.specs.Netlist.{Driver, cell_at}
use Rattle.sr_model.specs.Closure.{lit}
use Rattle.netlist.specs.Circuit.{Circuit}
use Rattle.netlist.specs.Wiring.{flip_flops, signals_below}
use Rattle.unroll.specs.declared.words.PinWord.{PinWord}
use Rattle.unroll.specs.Bits.{is_set, no_words}
use Rattle.unroll.specs.Problem.{Unrolling, chunks_in, signals_in}
use Rattle.known_planes.specs.Planes.{PlaneSet, has, pair_in}

-- a literal of the cell is known, or both are
abbrev pub is_known : (Lit → Bool) → Cell → Bool
is_known known c = known (lit c false) || known (lit c true)

-- how many cells of a signal, over so many cycles, pass the test
abbrev pub cells_where : ℕ → (Cell → Bool) → Sig → ℕ
cells_where cycles test s = count_by (λ cycle. test (cell_at cycle s)) (range_with_len 0 cycles)

-- how many cells of flip-flops are known
abbrev pub known_count : Circuit → ℕ → (Lit → Bool) → ℕ
known_count c cycles known = sum_by (cells_where cycles (is_known known)) (flip_flops c.drivers)

-- how many literals of a signal the planes have
abbrev pub literals_of : Unrolling → PlaneSet → Sig → ℕ
literals_of u planes s = cells_where u.cycles (λ c. has u planes (lit c false)) s + cells_where u.cycles (λ c. has u planes (lit c true)) s

-- how many literals the planes have
abbrev pub literal_count : Unrolling → PlaneSet → ℕ
literal_count u planes = sum_by (literals_of u planes) (signals_below (signals_in u))

-- how many of the 64 bits of a word are set
unfoldable pub bits_in : ℕ → ℕ
bits_in word = count_by (is_set word) (range_with_len 0 64)

-- how many bits of a block's words are set
abbrev pub bits_of_both : PinWord → ℕ
bits_of_both w = bits_in w.zero + bits_in w.one

-- how many bits are set in a block's words, in either of both
abbrev pub known_bits : PinWord → ℕ
known_bits w = bits_in (bit_or w.zero w.one)

-- how many cells of a signal in a chunk have a literal, and how many literals they have
abbrev pub known_bits_at : PlaneSet → ℕ → ℕ → ℕ
known_bits_at planes s chunk = known_bits (pair_in planes s chunk)

abbrev pub literal_bits_at : PlaneSet → ℕ → ℕ → ℕ
literal_bits_at planes s chunk = bits_of_both (pair_in planes s chunk)

-- how many cells of flip-flops are known by the words of all blocks, so many chunks of each signal
abbrev pub known_by_words : List Driver → ℕ → List PinWord → ℕ
known_by_words drivers chunks words = sum_by (λ s. sum_by (λ chunk. known_bits (slice_index_or words (s.0 * chunks + chunk) no_words)) (range_with_len 0 chunks)) (flip_flops drivers)

-- the same for the words of a problem
abbrev pub known_in : Unrolling → List PinWord → ℕ
known_in u words = known_by_words u.circuit.drivers (chunks_in u) words
