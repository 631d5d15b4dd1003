-- What a task with few pins forces, of words that stand in a fixed order wherever they lie.
use Rattle.std.specs.Prelude.{ℕ, ◌≡◌, ◌+◌, ◌<◌, ◌↔◌, [], ◌∷◌, Bool, IsTrue, IsFalse, List, length, map}
use Rattle.sr_model.specs.declared.cells.Sig.{Sig}
use Rattle.sr_model.specs.declared.cells.Lit.{Lit}
use Rattle.sr_model.specs.declared.gates.Family.{Family}
use Rattle.netlist.specs.Wiring.{driver_at}
use Rattle.unroll.specs.declared.problem.Block.{Block}
use Rattle.unroll.specs.declared.problem.InChunk.{InChunk}
use Rattle.unroll.specs.declared.problem.Task.{Task}
use Rattle.unroll.specs.declared.records.Shape.TheVariants as shapes
use Rattle.unroll.specs.declared.words.PinWord.{PinWord}
use Rattle.unroll.specs.Bits.{is_set, is_cycle}
use Rattle.unroll.specs.Problem.{Unrolling, IsProblem, HaveNoLaterBit, chunks_in, block_in}
use Rattle.unroll.specs.Tasks.{IsTaskAt, task_in}
use Rattle.unroll.specs.Records.{HasShape}
use Rattle.gate_rules.specs.Forced.{AreForcedBy, ForcedIn, IsViewOf, bit_at_place, lit_at_place}

-- the places of the words: the target first, and then its pins
abbrev pub one_pin_places : InChunk → Sig → List InChunk
one_pin_places at pin = at ∷ record { sig = pin; chunk = at.chunk } ∷ []

abbrev pub two_pin_places : InChunk → Sig → Sig → List InChunk
two_pin_places at first second = at ∷ record { sig = first; chunk = at.chunk } ∷ record { sig = second; chunk = at.chunk } ∷ []

-- and of a flip-flop, last, its own place in the next chunk
abbrev pub flip_flop_places : InChunk → Sig → List InChunk
flip_flop_places at pin = at ∷ record { sig = pin; chunk = at.chunk } ∷ record { sig = at.sig; chunk = at.chunk + 1 } ∷ []

-- the blocks of places
abbrev pub blocks_at : Unrolling → List InChunk → List Block
blocks_at u places = map (block_in u) places

-- the words hold exactly what of all that the task forces from the known literals is not known
abbrev pub AreNewBy : Unrolling → Task → List Block → (Lit → Bool) → List PinWord → Type 0
AreNewBy u t blocks known words =
    (j i : ℕ) (bit : Bool) → j < length blocks → i < 64
    → IsTrue (bit_at_place words j bit i) ↔ (ForcedIn u t known (lit_at_place u blocks j bit i) × IsFalse (known (lit_at_place u blocks j bit i)))

-- where the view shows what is known at these places, the words have what the task forces from it
abbrev pub ForceAs : List PinWord → List PinWord → Unrolling → InChunk → List InChunk → Type 0
ForceAs view words u at places =
    (known : Lit → Bool) → IsViewOf u (blocks_at u places) known view → HaveNoLaterBit u (blocks_at u places) view
    → AreForcedBy u (task_in u at) (blocks_at u places) known words

-- and so what of it is new
abbrev pub ForceNewAs : List PinWord → List PinWord → Unrolling → InChunk → List InChunk → Type 0
ForceNewAs view words u at places =
    (known : Lit → Bool) → IsViewOf u (blocks_at u places) known view → HaveNoLaterBit u (blocks_at u places) view
    → AreNewBy u (task_in u at) (blocks_at u places) known words

-- what is said of every task of a gate of the family with two pins, of two other signals
abbrev pub OfTwoPins : Family → (Unrolling → InChunk → List InChunk → Type 0) → Type 0
OfTwoPins family Says =
    (u : Unrolling) (at : InChunk) (first second : Sig) → IsProblem u → IsTaskAt u at
    → HasShape (shapes.TwoPins family) (driver_at u.circuit.drivers at.sig.0) at.sig first second → Says u at (two_pin_places at first second)

-- of every task of one with one pin, of another signal
abbrev pub OfOnePin : Family → (Unrolling → InChunk → List InChunk → Type 0) → Type 0
OfOnePin family Says =
    (u : Unrolling) (at : InChunk) (pin other : Sig) → IsProblem u → IsTaskAt u at
    → HasShape (shapes.OnePin family) (driver_at u.circuit.drivers at.sig.0) at.sig pin other → Says u at (one_pin_places at pin)

-- bit i is set exactly where the cycle of the chunk's bit i has a next one
abbrev pub HasNextCycles : Unrolling → ℕ → ℕ → Type 0
HasNextCycles u chunk valid = (i : ℕ) → i < 64 → is_set valid i ≡ is_cycle u.cycles chunk (i + 1)

-- of every task of a flip-flop whose pin is of another signal, in a chunk with these next cycles: where there is a next chunk
abbrev pub OfFlipFlop : ℕ → (Unrolling → InChunk → List InChunk → Type 0) → Type 0
OfFlipFlop valid Says =
    (u : Unrolling) (at : InChunk) (pin other : Sig) → IsProblem u → IsTaskAt u at
    → HasShape shapes.FlipFlop (driver_at u.circuit.drivers at.sig.0) at.sig pin other → at.chunk + 1 < chunks_in u → HasNextCycles u at.chunk valid
    → Says u at (flip_flop_places at pin)

-- and in the last chunk
abbrev pub OfLastFlipFlop : ℕ → (Unrolling → InChunk → List InChunk → Type 0) → Type 0
OfLastFlipFlop valid Says =
    (u : Unrolling) (at : InChunk) (pin other : Sig) → IsProblem u → IsTaskAt u at
    → HasShape shapes.FlipFlop (driver_at u.circuit.drivers at.sig.0) at.sig pin other → at.chunk + 1 ≡ chunks_in u → HasNextCycles u at.chunk valid
    → Says u at (one_pin_places at pin)
