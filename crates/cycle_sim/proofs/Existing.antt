-- There is an execution with given bits on the inputs and 0 on each flip-flop in cycle 0.
use Rattle.std.proofs.Common.{ℕ, suc, zero, ◌≡◌, ◌<◌, ◌≤◌, ◌+◌, ◌*◌, Bool, true, false, not, cond, eqb, List, [], ◌∷◌, ◌++◌, length, map, get_or, Some, arith, inl, inr, refl, sym, ap, subst, ◌∙◌}
use Rattle.std.specs.List.{All, AllPairs, Contains}
use Rattle.std.proofs.lemmas.Bool.{cases_Bool, cond-true, cond-false, eq-eqb, ne_eqb, true≢false}
use Rattle.std.proofs.lemmas.List.FromFn.{get_or-map-range_with_len, length-map-range_with_len, map-range_with_len_more}
use Rattle.std.proofs.lemmas.List.Elements.{All-contains, Contains-get_or}
use Rattle.sr_model.specs.declared.gates.Kind.{Kind}
use Rattle.sr_model.specs.declared.gates.Kind.TheVariants.{Dff}
use Rattle.sr_model.specs.declared.cells.Sig.{Sig}
use Rattle.sr_model.specs.declared.cells.Place.{Place}
use Rattle.sr_model.specs.Gate.{value}
use Rattle.sr_model.specs.Netlist.{Driver, Input, Driven, Valuation, Instance, IsRow, cell_at, delay, instance_at}
use Rattle.sr_model.proofs.lemmas.Laws.{flip_flop-dff}
use Rattle.sr_model.proofs.lemmas.Instances.{Stands, stands}
use Rattle.netlist.specs.Circuit.{Circuit, IsCircuit, unrolled_over}
use Rattle.netlist.specs.Wiring.{driver_at, pins_of, is_gate, is_flip_flop, signals_below}
use Rattle.netlist.specs.Ranks.{IsRank}
use Rattle.netlist.proofs.lemmas.Laws.{ranks_exist}
use Rattle.dump_reader.specs.Recording.{IsCount}
use Rattle.unroll.proofs.lemmas.Tasks.{delay-cases, driven-within}
use Rattle.cycle_sim.specs.BitTable.{BitTable, bit_in}
use Rattle.cycle_sim.specs.Simulation.{IsSimulated, AgreeOnCells, bits_of}
use Rattle.cycle_sim.proofs.GateOutputs.{its-pins, map-twice}
use Rattle.cycle_sim.proofs.PinOrder.{rank-below}
use Rattle.cycle_sim.proofs.FrameSteps.{same-pins, input-within}

-- the sum of the ranks, which none is above
abbrev total : List ℕ → ℕ
total [] = 0
total (r ∷ rs) = r + total rs

rank-le : (ranks : List ℕ) (s : ℕ) → get_or ranks s 0 ≤ total ranks
rank-le [] s = omega arith
rank-le (r ∷ rs) zero = omega arith
rank-le (r ∷ rs) (suc s) = let rest : get_or rs s 0 ≤ total rs = rank-le rs s in omega (arith, rest)

module _ (c : Circuit) (is : IsCircuit c) (cycles : ℕ) (given : ℕ → ℕ → Bool) (ranks : List ℕ) (ranked : IsRank c.drivers ranks) where
  -- the bit given for an input, by its first place among the inputs that are left
  abbrev drawn : List Sig → ℕ → ℕ → ℕ → Bool
  drawn [] place cycle s = false
  drawn (x ∷ xs) place cycle s = cond (eqb x.0 s) (given cycle place) (drawn xs (place + 1) cycle s)

  -- a flip-flop's bit, by the bits of the cycle before
  abbrev delayed : (ℕ → ℕ → Bool) → ℕ → List Sig → Bool
  delayed earlier zero pins = false
  delayed earlier (suc cycle) pins = value Dff (map (λ p. earlier cycle p.0) pins)

  -- a signal's bit, by the bits of others
  abbrev step : (ℕ → ℕ → Bool) → ℕ → ℕ → Driver → Bool
  step others cycle s Input = drawn c.inputs 0 cycle s
  step others cycle s (Driven kind pins) = cond (is_flip_flop (Driven kind pins)) (delayed others cycle pins) (value kind (map (λ p. others cycle p.0) pins))

  abbrev bit : ℕ → ℕ → ℕ → Bool
  bit zero cycle s = false
  bit (suc steps) cycle s = step (bit steps) cycle s (driver_at c.drivers s)

  -- so many steps are enough
  abbrev enough : ℕ → ℕ → ℕ
  enough cycle s = cycle * (total ranks + 1) + get_or ranks s 0 + 1

  fewer-before : (cycle s p n : ℕ) → enough (suc cycle) s ≤ suc n → enough cycle p ≤ n
  fewer-before cycle s p n h =
      let rows : suc cycle * (total ranks + 1) ≡ cycle * (total ranks + 1) + (total ranks + 1) = next cycle (total ranks + 1) in
      omega (arith, h, rank-le ranks p, rows)
    where
      next : (a b : ℕ) → suc a * b ≡ a * b + b
      next a b = grind arith

  fewer-pin : (cycle n : ℕ) (s p : Sig) → is_gate (driver_at c.drivers s.0) ≡ true → Contains (pins_of (driver_at c.drivers s.0)) p → enough cycle s.0 ≤ suc n → enough cycle p.0 ≤ n
  fewer-pin cycle n s p gate h few = omega (arith, few, rank-below c.drivers ranks ranked s p gate h)

  not-flip_flop : (kind : Kind) (pins : List Sig) → is_flip_flop (Driven kind pins) ≡ false → is_gate (Driven kind pins) ≡ true
  not-flip_flop kind pins e = ap not e

  -- more steps than enough change nothing
  module _ (a b : ℕ) (same : (n : ℕ) (p : Sig) → enough n p.0 ≤ a → enough n p.0 ≤ b → bit a n p.0 ≡ bit b n p.0) (cycle : ℕ) (s : Sig) (ha : enough cycle s.0 ≤ suc a) (hb : enough cycle s.0 ≤ suc b) where
    same-delayed : (n : ℕ) (pins : List Sig) → enough n s.0 ≤ suc a → enough n s.0 ≤ suc b → delayed (bit a) n pins ≡ delayed (bit b) n pins
    same-delayed zero pins ja jb = refl
    same-delayed (suc n) pins ja jb = ap (value Dff) (same-pins (λ p. bit a n p.0) (λ p. bit b n p.0) pins (λ p h. same n p (fewer-before n s.0 p.0 a ja) (fewer-before n s.0 p.0 b jb)))

    same-step : (d : Driver) → driver_at c.drivers s.0 ≡ d → step (bit a) cycle s.0 d ≡ step (bit b) cycle s.0 d
    same-step Input e = refl
    same-step (Driven kind pins) e =
        elim (cases_Bool (is_flip_flop (Driven kind pins))) [
          | inl flip_flop ↦
              cond-true (is_flip_flop (Driven kind pins)) (delayed (bit a) cycle pins) (value kind (map (λ p. bit a cycle p.0) pins)) flip_flop ∙ same-delayed cycle pins ha hb
              ∙ sym (cond-true (is_flip_flop (Driven kind pins)) (delayed (bit b) cycle pins) (value kind (map (λ p. bit b cycle p.0) pins)) flip_flop)
          | inr other ↦
              cond-false (is_flip_flop (Driven kind pins)) (delayed (bit a) cycle pins) (value kind (map (λ p. bit a cycle p.0) pins)) other
              ∙ ap (value kind) (same-pins (λ p. bit a cycle p.0) (λ p. bit b cycle p.0) pins (λ p h.
              same cycle p (fewer-pin cycle a s p (gate other) (listed p h) ha) (fewer-pin cycle b s p (gate other) (listed p h) hb)))
              ∙ sym (cond-false (is_flip_flop (Driven kind pins)) (delayed (bit b) cycle pins) (value kind (map (λ p. bit b cycle p.0) pins)) other)
        ]
      where
        gate : is_flip_flop (Driven kind pins) ≡ false → is_gate (driver_at c.drivers s.0) ≡ true
        gate other = ap is_gate e ∙ not-flip_flop kind pins other

        listed : (p : Sig) → Contains pins p → Contains (pins_of (driver_at c.drivers s.0)) p
        listed p h = subst (λ d. Contains (pins_of d) p) (sym e) h

  same-bit : (a b cycle : ℕ) (s : Sig) → enough cycle s.0 ≤ a → enough cycle s.0 ≤ b → bit a cycle s.0 ≡ bit b cycle s.0
  same-bit zero b cycle s ha hb = absurd (omega (arith, ha))
  same-bit (suc a) zero cycle s ha hb = absurd (omega (arith, hb))
  same-bit (suc a) (suc b) cycle s ha hb = same-step a b (λ n p pa pb. same-bit a b n p pa pb) cycle s ha hb (driver_at c.drivers s.0) refl

  -- the valuation
  abbrev pub found : Valuation
  found cell = bit (enough cell.cycle cell.sig.0) cell.cycle cell.sig.0

  -- its bit by a last step
  last-step : (cycle : ℕ) (s : Sig) → found (cell_at cycle s) ≡ step (bit (cycle * (total ranks + 1) + get_or ranks s.0 0)) cycle s.0 (driver_at c.drivers s.0)
  last-step cycle s = ap (λ n. bit n cycle s.0) (one (cycle * (total ranks + 1) + get_or ranks s.0 0))
    where
      one : (n : ℕ) → n + 1 ≡ suc n
      one n = omega arith

  input-drawn : (xs : List Sig) (base cycle j : ℕ) (d : Sig) → AllPairs (λ a b. a ≡ b → ⊥) xs → j < length xs → drawn xs base cycle (get_or xs j d).0 ≡ given cycle (base + j)
  input-drawn [] base cycle j d once h = absurd (omega (arith, h))
  input-drawn (x ∷ xs) base cycle zero d once h =
      cond-true (eqb x.0 x.0) (given cycle base) (drawn xs (base + 1) cycle x.0) (eq-eqb x.0 x.0 refl) ∙ ap (given cycle) (none base)
    where
      none : (n : ℕ) → n ≡ n + 0
      none n = omega arith
  input-drawn (x ∷ xs) base cycle (suc j) d once h =
      cond-false (eqb x.0 (get_or xs j d).0) (given cycle base) (drawn xs (base + 1) cycle (get_or xs j d).0)
      (ne_eqb x.0 (get_or xs j d).0 (λ e. once 0 (suc j) d (omega arith) h (ap (λ n. record { 0 = n }) e)))
      ∙ input-drawn xs (base + 1) cycle j d (λ k l e lower within. once (suc k) (suc l) e (omega (arith, lower)) (omega (arith, within))) (omega (arith, h)) ∙ ap (given cycle) (shift base j)
    where
      shift : (m n : ℕ) → m + 1 + n ≡ m + suc n
      shift m n = omega arith

  -- the bits of pins after a last step
  pin-bits : (n cycle : ℕ) (pins : List Sig) → ((p : Sig) → Contains pins p → enough cycle p.0 ≤ n) → map (λ p. bit n cycle p.0) pins ≡ map found (map (cell_at cycle) pins)
  pin-bits n cycle pins few =
      same-pins (λ p. bit n cycle p.0) (λ p. found (cell_at cycle p)) pins (λ p h. same-bit n (enough cycle p.0) cycle p (few p h) (omega arith)) ∙ sym (map-twice found (cell_at cycle) pins)

  row : (cycle : ℕ) (s : Sig) (kind : Kind) (pins : List Sig) → driver_at c.drivers s.0 ≡ Driven kind pins → found (cell_at (cycle + delay kind) s) ≡ value kind (map found (map (cell_at cycle) pins))
  row cycle s kind pins driver =
      elim (delay-cases kind pins) [
        | inl (flip_flop, one) ↦
            let at : cycle + delay kind ≡ suc cycle = omega (arith, one) in
            ap (λ n. found (cell_at n s)) at ∙ last-step (suc cycle) s ∙ ap (step (bit (suc cycle * (total ranks + 1) + get_or ranks s.0 0)) (suc cycle) s.0) driver
            ∙ cond-true (is_flip_flop (Driven kind pins)) (delayed (bit (suc cycle * (total ranks + 1) + get_or ranks s.0 0)) (suc cycle) pins) _ flip_flop
            ∙ ap (value Dff) (pin-bits (suc cycle * (total ranks + 1) + get_or ranks s.0 0) cycle pins (λ p h.
            fewer-before cycle s.0 p.0 (suc cycle * (total ranks + 1) + get_or ranks s.0 0) (omega arith)))
            ∙ ap (λ k. value k (map found (map (cell_at cycle) pins))) (sym (flip_flop-dff kind flip_flop))
        | inr (other, none) ↦
            let at : cycle + delay kind ≡ cycle = omega (arith, none) in
            ap (λ n. found (cell_at n s)) at ∙ last-step cycle s ∙ ap (step (bit (cycle * (total ranks + 1) + get_or ranks s.0 0)) cycle s.0) driver
            ∙ cond-false (is_flip_flop (Driven kind pins)) _ (value kind (map (λ p. bit (cycle * (total ranks + 1) + get_or ranks s.0 0) cycle p.0) pins)) other
            ∙ ap (value kind) (pin-bits (cycle * (total ranks + 1) + get_or ranks s.0 0) cycle pins (λ p h.
            fewer-pin cycle (cycle * (total ranks + 1) + get_or ranks s.0 0) s p (ap is_gate driver ∙ not-flip_flop kind pins other)
            (subst (λ d. Contains (pins_of d) p) (sym driver) h) (omega arith)))
      ]

  pub found-simulated : IsSimulated c cycles given found
  found-simulated = record {
    execution = λ p i at.
        let st : Stands cycles (driver_at c.drivers p.target.0) p i = stands (unrolled_over c cycles) p i at in
        subst (λ (j : Instance). IsRow j found) (sym st.is) (row p.cycle p.target st.kind st.pins st.driver);
    inputs = λ cycle j early within.
        let s : Sig = get_or c.inputs j (record { 0 = 0 }) in
        let input : driver_at c.drivers s.0 ≡ Input = ((is.inputs s).0 (Contains-get_or c.inputs j (record { 0 = 0 }) within)).1 in
        last-step cycle s ∙ ap (step (bit (cycle * (total ranks + 1) + get_or ranks s.0 0)) cycle s.0) input ∙ input-drawn c.inputs 0 cycle j (record { 0 = 0 }) is.inputs_once within
        ∙ ap (given cycle) (none j);
    start = λ s flip_flop. last-step 0 s ∙ starts s (driver_at c.drivers s.0) flip_flop;
  }
    where
      none : (n : ℕ) → 0 + n ≡ n
      none n = omega arith

      starts : (s : Sig) (d : Driver) → is_flip_flop d ≡ true → step (bit (0 * (total ranks + 1) + get_or ranks s.0 0)) 0 s.0 d ≡ false
      starts s Input e = cc
      starts s (Driven kind pins) e = cond-true (is_flip_flop (Driven kind pins)) (delayed (bit (0 * (total ranks + 1) + get_or ranks s.0 0)) 0 pins) _ e

-- a valuation that agrees with a simulated one on the cells of the netlist is one, too
module _ (c : Circuit) (is : IsCircuit c) (cycles : ℕ) (given : ℕ → ℕ → Bool) (some : 0 < cycles) (v w : Valuation) (sim : IsSimulated c cycles given v) (agree : AgreeOnCells c cycles w v) where
  row-agrees : (p : Place) (i : Instance) → instance_at (unrolled_over c cycles) p ≡ Some i → IsRow i w
  row-agrees p i at =
      let st : Stands cycles (driver_at c.drivers p.target.0) p i = stands (unrolled_over c cycles) p i at in
      let within : p.target.0 < length c.drivers = driven-within c.drivers p.target.0 st.kind st.pins st.driver in
      subst (λ (j : Instance). IsRow j w) (sym st.is)
      (agree (cell_at (p.cycle + delay st.kind) p.target) within st.in_time
      ∙ subst (λ (j : Instance). IsRow j v) st.is (sim.execution p i at)
      ∙ ap (value st.kind) (sym (map-twice2 v w p.cycle st.pins (λ q h.
      agree (cell_at p.cycle q) (All-contains (λ (x : Sig). x.0 < length c.drivers) st.pins q (subst (λ d. All (λ (x : Sig). x.0 < length c.drivers) (pins_of d)) st.driver (its-pins c is p.target.0)) h)
      (omega (arith, st.in_time))))))
    where
      map-twice2 : (f g : Valuation) (cycle : ℕ) (pins : List Sig) → ((q : Sig) → Contains pins q → g (cell_at cycle q) ≡ f (cell_at cycle q)) → map g (map (cell_at cycle) pins) ≡ map f (map (cell_at cycle) pins)
      map-twice2 f g cycle pins same =
          map-twice g (cell_at cycle) pins ∙ same-pins (λ q. g (cell_at cycle q)) (λ q. f (cell_at cycle q)) pins same ∙ sym (map-twice f (cell_at cycle) pins)

  pub agrees-simulated : IsSimulated c cycles given w
  agrees-simulated = record {
    execution = row-agrees;
    inputs = λ cycle j early within.
        agree (cell_at cycle (get_or c.inputs j (record { 0 = 0 }))) (input-within c is c.inputs refl j (record { 0 = 0 }) within) early ∙ sim.inputs cycle j early within;
    start = λ s flip_flop. agree (cell_at 0 s) (driven-below (driver_at c.drivers s.0) s refl flip_flop) some ∙ sim.start s flip_flop;
  }
    where
      driven-below : (d : Driver) (s : Sig) → driver_at c.drivers s.0 ≡ d → is_flip_flop d ≡ true → s.0 < length c.drivers
      driven-below Input s e is_ff = cc
      driven-below (Driven kind pins) s e is_ff = driven-within c.drivers s.0 kind pins e

-- the signals by number
pub all-signals : (n j : ℕ) (sigs : List Sig) (d : Sig) → sigs ≡ signals_below n → j < n → get_or sigs j d ≡ record { 0 = j }
all-signals n j sigs d same h = ap (λ xs. get_or xs j d) same ∙ get_or-map-range_with_len (λ s. record { 0 = s }) 0 n j j d h (omega arith)

pub signals-size : (n : ℕ) (sigs : List Sig) → sigs ≡ signals_below n → length sigs ≡ n
signals-size n sigs same = ap length same ∙ length-map-range_with_len {X = Sig} (λ s. record { 0 = s }) 0 n

pub signals-more : (n : ℕ) → signals_below (n + 1) ≡ signals_below n ++ record { 0 = n } ∷ []
signals-more n = map-range_with_len_more (λ s. record { 0 = s }) 0 n n (omega arith)

-- the bits of all signals are those of each simulated execution
module _ (c : Circuit) (is : IsCircuit c) (cycles : ℕ) (given : ℕ → ℕ → Bool) (t : BitTable) (some : 0 < cycles) (count : t.count ≡ cycles) (sigs : List Sig) (same : sigs ≡ signals_below (length c.drivers))
    (bits : (v : Valuation) → IsSimulated c cycles given v → (cycle j : ℕ) → cycle < t.count → j < length sigs → bit_in t cycle j ≡ v (cell_at cycle (get_or sigs j (record { 0 = 0 })))) where
  pub bits-agree : (v : Valuation) → IsSimulated c cycles given v → AgreeOnCells c cycles (bits_of t) v
  bits-agree v sim cell within early =
      bits v sim cell.cycle cell.sig.0 (subst (λ n. cell.cycle < n) (sym count) early) (subst (λ n. cell.sig.0 < n) (sym (signals-size (length c.drivers) sigs same)) within)
      ∙ ap (λ s. v (cell_at cell.cycle s)) (all-signals (length c.drivers) cell.sig.0 sigs (record { 0 = 0 }) same within)

  pub bits-simulated : IsSimulated c cycles given (bits_of t)
  bits-simulated =
      let ranks : (rs : List ℕ) × IsRank c.drivers rs = ranks_exist c.drivers is.no_loop in
      let v : Valuation = found c is cycles given ranks.0 ranks.1 in
      let sim : IsSimulated c cycles given v = found-simulated c is cycles given ranks.0 ranks.1 in
      agrees-simulated c is cycles given some v (bits_of t) sim (bits-agree v sim)

-- a count has a cycle
pub some-cycle : (count cycles : ℕ) → count ≡ cycles → IsCount count → 0 < cycles
some-cycle n cycles same count = omega (arith, count.0, same)
