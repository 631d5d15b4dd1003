use Rattle.std.proofs.Common.{◌<◌, Some, length, map, get_or, sym, ap, subst, ◌∙◌}
use Rattle.std.specs.List.{range_with_len}
use Rattle.std.proofs.lemmas.List.{take_all}
use Rattle.sr_model.specs.Netlist.{Valuation}
use Rattle.dump_reader.specs.Recording.{tri_bit, row_of}
use Rattle.cycle_sim.specs.BitTable.{bit_in}
use Rattle.cycle_sim.specs.Simulation.{IsSimulated, traced_rows}
use Rattle.cycle_sim.proofs.Simulations.{simulation_exists}
use Rattle.cycle_sim.proofs.Tracing.{cells-size, row-is, rows-more, new-signal}
use Rattle.cycle_sim.proofs.traces.simulate_trace.Goals as goal

pub add_row-requires-clause-new_signal : goal.add_row-requires-clause-new_signal
add_row-requires-clause-new_signal c =
    let e : (v : Valuation) × IsSimulated c.args.n.now c.args.s.now.count (bit_in c.args.s.now) v = simulation_exists c.args.n.now c.in_ok-bits.ensures.circuit.0 c.args.s.now.count (bit_in c.args.s.now) in
    new-signal e.0 c.args.s.now.count c.args.sigs.now c.loop-j.j (record { 0 = 0 }) c.loop-j.dump.rows c.loop-j-test.true c.requires.once (c.loop-j.invariant.1 e.0 e.1)

pub add_row-requires-clause-full : goal.add_row-requires-clause-full
add_row-requires-clause-full c =
    ap length c.as_slice.ensures ∙ cells-size (λ cycle. Some (bit_in c.in_ok-bits.bits cycle c.loop-j.j)) c.fill.new.cells.items c.in_ok-bits.bits.count c.in_ok-fill.ensures
    ∙ c.in_ok-bits.ensures.count ∙ sym c.loop-j.invariant.0

pub loop-j-preserved : goal.loop-j-preserved
loop-j-preserved c = (
  c.add_row.ensures.cycles ∙ c.loop-j.invariant.0,
  λ v sim. rows-more v c.args.s.now.count c.args.sigs.now c.loop-j.j (record { 0 = 0 }) c.loop-j.dump.rows c.add_row.new.self.rows (row_of (get_or c.args.sigs.now c.loop-j.j (record { 0 = 0 })) c.as_slice.result.now)
      c.loop-j-test.true c.in_ok-add_row.ensures.rows (c.loop-j.invariant.1 v sim)
      (row-is (λ cycle. bit_in c.in_ok-bits.bits cycle c.loop-j.j) v c.as_slice.result.now c.args.s.now.count (get_or c.args.sigs.now c.loop-j.j (record { 0 = 0 }))
      (ap (map tri_bit) c.as_slice.ensures ∙ c.in_ok-fill.ensures ∙ ap (λ n. map (λ cycle. Some (bit_in c.in_ok-bits.bits cycle c.loop-j.j)) (range_with_len 0 n)) c.in_ok-bits.ensures.count)
      (λ cycle h. c.in_ok-bits.ensures.bits v sim cycle c.loop-j.j (subst (λ n. cycle < n) (sym c.in_ok-bits.ensures.count) h) c.loop-j-test.true)),
)

pub returns-clause-rows : goal.returns-clause-rows
returns-clause-rows c =
    let e : (v : Valuation) × IsSimulated c.args.n.now c.args.s.now.count (bit_in c.args.s.now) v = simulation_exists c.args.n.now c.in_ok-bits.ensures.circuit.0 c.args.s.now.count (bit_in c.args.s.now) in
    (e.0, e.1, c.loop-j.invariant.1 e.0 e.1 ∙ ap (traced_rows e.0 c.args.s.now.count) (take_all c.loop-j.j c.args.sigs.now c.loop-j-test.false))
