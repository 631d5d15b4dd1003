use Rattle.std.proofs.Common.{Some, length, map, get_or, refl, sym, ap, ◌∙◌}
use Rattle.std.specs.List.{range_with_len}
use Rattle.sr_model.specs.declared.cells.Sig.{Sig}
use Rattle.dump_reader.specs.Recording.{tri_bit, row_of}
use Rattle.cycle_sim.specs.BitTable.{BitTable, bit_in}
use Rattle.cycle_sim.specs.Simulation.{bits_of}
use Rattle.cycle_sim.proofs.Tracing.{cells-size, row-is, rows-more, new-signal}
use Rattle.cycle_sim.proofs.traces.trace_of.Goals as goal

pub add_row-requires-clause-new_signal : goal.add_row-requires-clause-new_signal
add_row-requires-clause-new_signal c =
    new-signal (bits_of c.args.e.now) c.args.e.now.count c.args.sigs.now c.loop-sig.sig-index (record { 0 = 0 }) c.loop-sig.dump.rows c.loop-sig-test.true c.requires.once c.loop-sig.invariant.1

pub add_row-requires-clause-full : goal.add_row-requires-clause-full
add_row-requires-clause-full c =
    ap length c.as_slice.ensures
    ∙ cells-size (λ cycle. Some (bit_in c.bits.result.now cycle (get_or c.args.sigs.now c.loop-sig.sig-index (record { 0 = 0 })).0)) c.fill.new.cells.items c.bits.result.now.count c.in_ok-fill.ensures
    ∙ ap (λ (t : BitTable). t.count) c.bits.ensures ∙ sym c.loop-sig.invariant.0

pub loop-sig-preserved : goal.loop-sig-preserved
loop-sig-preserved c =
    let s : Sig = get_or c.args.sigs.now c.loop-sig.sig-index (record { 0 = 0 }) in (
      c.add_row.ensures.cycles ∙ c.loop-sig.invariant.0,
      rows-more (bits_of c.args.e.now) c.args.e.now.count c.args.sigs.now c.loop-sig.sig-index (record { 0 = 0 }) c.loop-sig.dump.rows c.add_row.new.self.rows (row_of s c.as_slice.result.now)
          c.loop-sig-test.true c.in_ok-add_row.ensures.rows c.loop-sig.invariant.1
          (row-is (λ cycle. bit_in c.args.e.now cycle s.0) (bits_of c.args.e.now) c.as_slice.result.now c.args.e.now.count s
          (ap (map tri_bit) c.as_slice.ensures ∙ c.in_ok-fill.ensures
          ∙ ap (λ (t : BitTable). map (λ cycle. Some (bit_in t cycle s.0)) (range_with_len 0 t.count)) c.bits.ensures)
          (λ cycle h. refl)),
    )
