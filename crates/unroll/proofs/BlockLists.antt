-- Putting together the list of a task's blocks.
use Rattle.std.proofs.Common.{ℕ, suc, length-append, ◌≡◌, ◌+◌, ◌*◌, ◌<◌, ◌≤◌, ◌&&◌, Bool, true, false, cond, eqb, ltb, List, [], ◌∷◌, take, length, get_or, arith, inl, inr, refl, sym, ap, ◌∙◌, subst}
use Rattle.std.specs.List.{All, flat_map}
use Rattle.std.proofs.lemmas.Bool.{cases_Bool}
use Rattle.std.proofs.lemmas.List.Elements.{All-filter, All-get_or}
use Rattle.std.proofs.lemmas.List.Folds.{length-flat_map-take}
use Rattle.sr_model.specs.declared.cells.Sig.{Sig}
use Rattle.sr_model.specs.Netlist.{Driver, Input, Driven}
use Rattle.sr_model.specs.Gate.{IsPinCount}
use Rattle.sr_model.proofs.lemmas.Laws.{flip_flop-dff}
use Rattle.netlist.specs.Wiring.{driver_at, is_flip_flop, has_signal, pins_of, signals_below, signals_of, HasPinCount}
use Rattle.netlist.proofs.lemmas.Signals.{few_signals, signals-pins, signals_within}
use Rattle.unroll.specs.declared.problem.Block.{Block}
use Rattle.unroll.specs.Problem.{Unrolling, IsProblem, chunks_in, block_at}
use Rattle.unroll.specs.Tasks.{blocks_for, blocks_from}
use Rattle.unroll.proofs.TaskBlocks.{goes_on}

-- the signals of a gate or flip-flop are signals of the netlist
pub signals_of-within : (drivers : List Driver) (t : Sig) → All (λ s. s.0 < length drivers) (signals_of drivers t)
signals_of-within drivers t = All-filter (has_signal (driver_at drivers t.0) t) (λ s. s.0 < length drivers) (signals_below (length drivers)) (signals_within (length drivers))

-- a flip-flop has one pin
one-pin : (d : Driver) → is_flip_flop d ≡ true → HasPinCount d → length (pins_of d) ≡ 1
one-pin Input e h = cc
one-pin (Driven kind pins) e h = subst (λ k. IsPinCount k (length pins)) (flip_flop-dff kind e) h

module _ (u : Unrolling) (target : Sig) (chunk : ℕ) where
  blocks : Sig → List Block
  blocks = blocks_for u target chunk

  size-of : (s : Sig) (b : Bool) → goes_on u target chunk s ≡ b → length (blocks_for u target chunk s) ≡ cond b 2 1
  size-of s true e = ap (λ b. length (block_at u s chunk ∷ cond b (block_at u s (chunk + 1) ∷ []) [])) e
  size-of s false e = ap (λ b. length (block_at u s chunk ∷ cond b (block_at u s (chunk + 1) ∷ []) [])) e

  -- at most two blocks a signal, and one where the driver is no flip-flop
  at-most : (k : ℕ) → ((s : Sig) → length (blocks_for u target chunk s) ≤ k) → (ss : List Sig) → length (flat_map (blocks_for u target chunk) ss) ≤ k * length ss
  at-most k each [] = omega arith
  at-most k each (s ∷ ss) =
      let rest : length (flat_map (blocks_for u target chunk) ss) ≤ k * length ss = at-most k each ss in
      let first : length (blocks_for u target chunk s) ≤ k = each s in
      let more : k * length (s ∷ ss) ≡ k * length ss + k = distribute k (length ss) in
      omega (arith, rest, first, more, length-append (blocks_for u target chunk s) (flat_map (blocks_for u target chunk) ss))
    where
      distribute : (x y : ℕ) → x * (suc y) ≡ x * y + x
      distribute x y = grind arith

  at-most-two : (s : Sig) → length (blocks_for u target chunk s) ≤ 2
  at-most-two s = elim (cases_Bool (goes_on u target chunk s)) [ inl e ↦ omega (arith, size-of s true e) | inr e ↦ omega (arith, size-of s false e) ]

  and_false : (b : Bool) → (b && false) ≡ false
  and_false true = refl
  and_false false = refl

  at-most-one : is_flip_flop (driver_at u.circuit.drivers target.0) ≡ false → (s : Sig) → length (blocks_for u target chunk s) ≤ 1
  at-most-one gate s = omega (arith, size-of s false (ap (λ b. eqb s.0 target.0 && (b && ltb (chunk + 1) (chunks_in u))) gate ∙ and_false (eqb s.0 target.0)))

  pub few-blocks : IsProblem u → target.0 < length u.circuit.drivers → length (blocks_from u target chunk) ≤ 1025
  few-blocks is h =
      elim (cases_Bool (is_flip_flop (driver_at u.circuit.drivers target.0))) [
        | inl e ↦
            let pin : length (pins_of (driver_at u.circuit.drivers target.0)) ≡ 1 =
            one-pin (driver_at u.circuit.drivers target.0) e (All-get_or HasPinCount u.circuit.drivers target.0 Input h is.is_circuit.pin_counts) in
            omega (arith, signals-pins u.circuit.drivers target, pin, at-most 2 at-most-two (signals_of u.circuit.drivers target))
        | inr e ↦ omega (arith, few_signals u.circuit.drivers target h is.is_circuit.pin_counts, at-most 1 (at-most-one e) (signals_of u.circuit.drivers target))
      ]

  -- before the blocks of the next signal are added, there is room for them
  pub room-left : IsProblem u → target.0 < length u.circuit.drivers → (ss : List Sig) → ss ≡ signals_of u.circuit.drivers target → (i : ℕ) (d : Sig) → i < length ss
      → length (flat_map (blocks_for u target chunk) (take i ss)) + length (blocks_for u target chunk (get_or ss i d)) ≤ 1025
  room-left is h ss same i d within =
      let all : length (flat_map (blocks_for u target chunk) ss) ≤ 1025 = subst (λ xs. length (flat_map (blocks_for u target chunk) xs) ≤ 1025) (sym same) (few-blocks is h) in
      omega (arith, all, length-flat_map-take (blocks_for u target chunk) ss i d within)

  pub room-for : IsProblem u → target.0 < length u.circuit.drivers → (ss : List Sig) → ss ≡ signals_of u.circuit.drivers target → (i : ℕ) (d : Sig) → i < length ss
      → (items : List Block) (room : ℕ) → items ≡ flat_map (blocks_for u target chunk) (take i ss) → 1025 ≤ room → length items + length (blocks_for u target chunk (get_or ss i d)) ≤ room
  room-for is h ss same i d within items room was enough =
      let left : length (flat_map (blocks_for u target chunk) (take i ss)) + length (blocks_for u target chunk (get_or ss i d)) ≤ 1025 = room-left is h ss same i d within in
      let size : length items ≡ length (flat_map (blocks_for u target chunk) (take i ss)) = ap length was in
      omega (arith, left, size, enough)

-- a signal of the list is one of the netlist
pub signal-within : (drivers : List Driver) (t : Sig) (ss : List Sig) → ss ≡ signals_of drivers t → (i : ℕ) (d : Sig) → i < length ss → (get_or ss i d).0 < length drivers
signal-within drivers t ss same i d within = All-get_or (λ s. s.0 < length drivers) ss i d within (subst (All (λ s. s.0 < length drivers)) (sym same) (signals_of-within drivers t))
