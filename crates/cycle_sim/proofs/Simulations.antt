-- The laws of simulated executions: there is one, it is the only one, and what follows from its trace is so in it.
use Rattle.std.proofs.Common.{ℕ, zero, suc, ◌≡◌, ◌<◌, ◌+◌, ◌&&◌, Bool, true, false, List, [], ◌∷◌, length, map, get_or, Option, Some, None, inl, inr, ⊎_elim, arith, eqb, refl, sym, ap, subst, ◌∙◌}
use Rattle.std.specs.List.{Contains, range_with_len, slice_get}
use Rattle.std.proofs.lemmas.Bool.{cases_Bool, and_parts, or_cases, eqb-true, false≢true}
use Rattle.std.proofs.lemmas.List.{get_or_default}
use Rattle.std.proofs.lemmas.List.Elements.{All-contains}
use Rattle.std.proofs.lemmas.List.FromFn.{length-range_with_len, get_or-range_with_len, get_or-map-range_with_len, length-map-range_with_len}
use Rattle.std.proofs.lemmas.Option.{slice_get_within, get_or_from_slice_get}
use Rattle.sr_model.specs.declared.cells.Sig.{Sig}
use Rattle.sr_model.specs.Netlist.{Valuation, cell_at}
use Rattle.sr_model.specs.Closure.{passing}
use Rattle.sr_model.specs.Dump.{dump_has, is_bit}
use Rattle.sr_model.proofs.lemmas.Laws.{sound}
use Rattle.sr_model.proofs.lemmas.Members.{map-agree}
use Rattle.netlist.specs.Circuit.{Circuit, IsCircuit, unrolled_over}
use Rattle.netlist.specs.Ranks.{IsRank}
use Rattle.netlist.specs.Wiring.{driver_at, pins_of, is_gate, is_flip_flop}
use Rattle.netlist.proofs.lemmas.Laws.{ranks_exist}
use Rattle.cycle_sim.specs.Laws.{SimulationExists, SimulationsAgree, SimulationHasWhatFollows, TraceMatches, TracesAgree}
use Rattle.cycle_sim.specs.Simulation.{IsSimulated, AgreeOnCells, AgreeOnInputs, traced_row, traced_rows}
use Rattle.cycle_sim.proofs.Existing.{found, found-simulated}
use Rattle.cycle_sim.proofs.FrameSteps.{flip_flop-pin, flip_flop-value, gate-value, not-gate, pin-within, value-same}
use Rattle.cycle_sim.proofs.GateOutputs.{its-pins}
use Rattle.cycle_sim.proofs.PinOrder.{rank-below}

-- ---- there is one

pub simulation_exists : SimulationExists
simulation_exists c is cycles given =
    let ranks : (rs : List ℕ) × IsRank c.drivers rs = ranks_exist c.drivers is.no_loop in
    (found c is cycles given ranks.0 ranks.1, found-simulated c is cycles given ranks.0 ranks.1)

-- ---- it is the only one

module _ (c : Circuit) (is : IsCircuit c) (cycles : ℕ) (given others : ℕ → ℕ → Bool) (same_given : AgreeOnInputs (length c.inputs) cycles given others) (v w : Valuation) (sim : IsSimulated c cycles given v) (other : IsSimulated c cycles others w) where
  -- the two have one bit for this cell
  abbrev Same : ℕ → Sig → Type 0
  Same cycle s = v (cell_at cycle s) ≡ w (cell_at cycle s)

  -- and for each cell of this cycle
  abbrev SameIn : ℕ → Type 0
  SameIn cycle = (s : Sig) → s.0 < length c.drivers → Same cycle s

  -- that of an input is given
  input-same : (cycle : ℕ) (s : Sig) → cycle < cycles → Contains c.inputs s → Same cycle s
  input-same cycle s early (j, within, at) =
      let there : get_or c.inputs j (record { 0 = 0 }) ≡ s = get_or_default c.inputs j (record { 0 = 0 }) s within ∙ at in
      subst (Same cycle) there (sim.inputs cycle j early within ∙ same_given cycle j early within ∙ sym (other.inputs cycle j early within))

  -- that of a flip-flop is its pin's in the cycle before
  flip_flop-next : (cycle : ℕ) (s : Sig) → cycle + 1 < cycles → is_flip_flop (driver_at c.drivers s.0) ≡ true → SameIn cycle → Same (cycle + 1) s
  flip_flop-next cycle s early flip_flop before =
      let pins : List Sig = pins_of (driver_at c.drivers s.0) in
      let some : 0 < length pins = flip_flop-pin c is s flip_flop pins refl in
      flip_flop-value c cycles given v sim cycle s flip_flop early pins refl some
      ∙ before (get_or pins 0 (record { 0 = 0 })) (pin-within c is s pins refl 0 (record { 0 = 0 }) some)
      ∙ sym (flip_flop-value c cycles others w other cycle s flip_flop early pins refl some)

  flip_flop-same : (cycle : ℕ) (s : Sig) → cycle < cycles → is_flip_flop (driver_at c.drivers s.0) ≡ true → ((earlier : ℕ) → earlier + 1 ≡ cycle → SameIn earlier) → Same cycle s
  flip_flop-same zero s early flip_flop before = sim.start s flip_flop ∙ sym (other.start s flip_flop)
  flip_flop-same (suc cycle) s early flip_flop before =
      let next : cycle + 1 ≡ suc cycle = omega arith in
      subst (λ n. Same n s) next (flip_flop-next cycle s (omega arith) flip_flop (before cycle next))

  -- that of a gate is what the pins give
  gate-same : (cycle : ℕ) (s : Sig) → cycle < cycles → is_gate (driver_at c.drivers s.0) ≡ true → ((p : Sig) → Contains (pins_of (driver_at c.drivers s.0)) p → Same cycle p) → Same cycle s
  gate-same cycle s early gate pins =
      gate-value c cycles given v sim cycle s gate early ∙ value-same (driver_at c.drivers s.0) (λ p. v (cell_at cycle p)) (λ p. w (cell_at cycle p)) pins ∙ sym (gate-value c cycles others w other cycle s gate early)

  -- in one cycle, gates by their ranks
  module _ (ranks : List ℕ) (ranked : IsRank c.drivers ranks) (cycle : ℕ) (early : cycle < cycles) (before : (earlier : ℕ) → earlier + 1 ≡ cycle → SameIn earlier) where
    other-same : (s : Sig) → s.0 < length c.drivers → is_gate (driver_at c.drivers s.0) ≡ false → Same cycle s
    other-same s within no_gate =
        ⊎_elim
        (λ (input : Contains c.inputs s). input-same cycle s early input)
        (λ (flip_flop : is_flip_flop (driver_at c.drivers s.0) ≡ true). flip_flop-same cycle s early flip_flop before)
        (not-gate c is s within no_gate)

    below-same : (n : ℕ) (s : Sig) → get_or ranks s.0 0 < n → s.0 < length c.drivers → Same cycle s
    below-same zero s low within = absurd (omega (arith, low))
    below-same (suc n) s low within =
        ⊎_elim
        (λ (gate : is_gate (driver_at c.drivers s.0) ≡ true).
        gate-same cycle s early gate (λ p h.
        below-same n p (omega (arith, low, rank-below c.drivers ranks ranked s p gate h)) (All-contains (λ (x : Sig). x.0 < length c.drivers) (pins_of (driver_at c.drivers s.0)) p (its-pins c is s.0) h)))
        (λ (no_gate : is_gate (driver_at c.drivers s.0) ≡ false). other-same s within no_gate)
        (cases_Bool (is_gate (driver_at c.drivers s.0)))

    cycle-same : SameIn cycle
    cycle-same s within = below-same (suc (get_or ranks s.0 0)) s (omega arith) within

  -- one cycle after another
  cycles-same : (ranks : List ℕ) → IsRank c.drivers ranks → (cycle : ℕ) → cycle < cycles → SameIn cycle
  cycles-same ranks ranked zero early = cycle-same ranks ranked zero early (λ earlier next. absurd (omega (arith, next)))
  cycles-same ranks ranked (suc cycle) early =
      let so_far : SameIn cycle = cycles-same ranks ranked cycle (omega arith) in
      cycle-same ranks ranked (suc cycle) early (λ earlier next. let is : cycle ≡ earlier = omega (arith, next) in subst SameIn is so_far)

  one-run : AgreeOnCells c cycles v w
  one-run cell within early = let ranks : (rs : List ℕ) × IsRank c.drivers rs = ranks_exist c.drivers is.no_loop in cycles-same ranks.0 ranks.1 cell.cycle early cell.sig within

pub simulations_agree : SimulationsAgree
simulations_agree c is cycles given others same v w sim other = one-run c is cycles given others same v w sim other

-- ---- what follows is so in it

pub simulation_has_what_follows : SimulationHasWhatFollows
simulation_has_what_follows c cycles given v sim base within = sound (unrolled_over c cycles) (passing base) v sim.execution within

-- ---- its trace

in-range : (n k : ℕ) → Contains (range_with_len 0 n) k → k < n
in-range n k (i, h, e) =
    let within : i < n = subst (λ m. i < m) (length-range_with_len 0 n) h in
    let at : get_or (range_with_len 0 n) i k ≡ 0 + i = get_or-range_with_len 0 n i k within in
    let is : get_or (range_with_len 0 n) i k ≡ k = e in
    omega (arith, at, is)

pub traces_agree : TracesAgree
traces_agree c cycles v w agree sigs within = map-agree (traced_row v cycles) (traced_row w cycles) sigs row
  where
    row : (s : Sig) → Contains sigs s → traced_row v cycles s ≡ traced_row w cycles s
    row s h =
        ap (λ bits. record { sig = s; bits = bits })
        (map-agree (λ cycle. Some (v (cell_at cycle s))) (λ cycle. Some (w (cell_at cycle s))) (range_with_len 0 cycles) (λ cycle early.
        ap Some (agree (cell_at cycle s) (All-contains (λ (x : Sig). x.0 < length c.drivers) sigs s within h) (in-range cycles cycle early))))

same-bit : (a b : Bool) → is_bit (Some (Some a)) b ≡ true → a ≡ b
same-bit true true e = refl
same-bit true false e = absurd (false≢true e)
same-bit false true e = absurd (false≢true e)
same-bit false false e = refl

-- a bit at a place of a traced row is that of the cell
module _ (v : Valuation) (cycles : ℕ) (sig : Sig) (cycle : ℕ) (bit : Bool) where
  abbrev bits : List (Option Bool)
  bits = map (λ t. Some (v (cell_at t sig))) (range_with_len 0 cycles)

  by-entry : (o : Option (Option Bool)) → slice_get bits cycle ≡ o → is_bit o bit ≡ true → v (cell_at cycle sig) ≡ bit
  by-entry None at is = absurd (false≢true is)
  by-entry (Some entry) at is =
      let within : cycle < cycles = subst (λ n. cycle < n) (length-map-range_with_len (λ t. Some (v (cell_at t sig))) 0 cycles) (slice_get_within bits cycle entry at) in
      let there : Some (v (cell_at cycle sig)) ≡ entry =
      sym (get_or-map-range_with_len (λ t. Some (v (cell_at t sig))) 0 cycles cycle cycle entry within (omega arith)) ∙ get_or_from_slice_get bits cycle entry entry at in
      same-bit (v (cell_at cycle sig)) bit (subst (λ e. is_bit (Some e) bit ≡ true) (sym there) is)

pub trace_matches : TraceMatches
trace_matches v cycles [] l h = absurd (false≢true h)
trace_matches v cycles (sig ∷ rest) l h =
    elim (or_cases (eqb sig.0 l.cell.sig.0 && is_bit (slice_get (traced_row v cycles sig).bits l.cell.cycle) l.bit) (dump_has (traced_rows v cycles rest) l) h) [
      | inl here ↦
          let parts = and_parts (eqb sig.0 l.cell.sig.0) (is_bit (slice_get (traced_row v cycles sig).bits l.cell.cycle) l.bit) here in
          subst (λ i. v (cell_at l.cell.cycle (record { 0 = i })) ≡ l.bit) (eqb-true sig.0 l.cell.sig.0 parts.0)
          (by-entry v cycles sig l.cell.cycle l.bit (slice_get (traced_row v cycles sig).bits l.cell.cycle) refl parts.1)
      | inr later ↦ trace_matches v cycles rest l later
    ]
