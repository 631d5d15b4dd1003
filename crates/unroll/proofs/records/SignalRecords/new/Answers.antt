use Rattle.std.proofs.Common.{◌≡◌, ◌+◌, ◌-◌, ◌++◌, ◌∷◌, [], length, arith, refl, sym, ap, subst, ◌∙◌}
use Rattle.std.proofs.lemmas.List.{length-append}
use Rattle.sr_model.specs.declared.cells.Sig.{Sig}
use Rattle.unroll.specs.Records.{AreRecordsOf, adjacent_signals}
use Rattle.unroll.proofs.RecordLists.{few-adjacent, records-more}
use Rattle.unroll.proofs.records.SignalRecords.new.Goals as goal

pub overflow_cast-count : goal.overflow_cast-count
overflow_cast-count c =
    let more = few-adjacent c.args.net.now.drivers (record { 0 = c.loop-number.number }) in
    let size = ap length c.in_ok-push_adjacent.ensures ∙ length-append c.loop-number.adjacent.items (adjacent_signals c.args.net.now.drivers (record { 0 = c.loop-number.number })) in
    omega (arith, more, size, c.len.ensures, c.len-start.ensures, c.signals-signals.ensures.few, c.signals-signals.ensures.count)

pub loop-number-preserved : goal.loop-number-preserved
loop-number-preserved c =
    let s : Sig = record { 0 = c.loop-number.number } in
    let drivers = c.args.net.now.drivers in
    let added = c.in_ok-push_adjacent.ensures in
    let size = ap length added ∙ length-append c.loop-number.adjacent.items (adjacent_signals drivers s) in
    let records = c.in_ok-push.ensures.ok in
    let few = few-adjacent drivers s in (
      subst (λ rs. AreRecordsOf drivers c.push_adjacent.new.adjacent.items rs) (sym records)
          (subst (λ xs. AreRecordsOf drivers xs (c.loop-number.records.items ++ c.record_of.result ∷ [])) (sym added)
          (records-more drivers c.loop-number.adjacent.items c.loop-number.records.items c.record_of.result (adjacent_signals drivers s) s c.loop-number.invariant.0 (sym c.loop-number.invariant.1) refl
          c.record_of.ensures.shape (c.record_of.ensures.start ∙ c.len-start.ensures)
          (c.record_of.ensures.count ∙ let e : c.len.result - c.len-start.result ≡ length (adjacent_signals drivers s) = omega (arith, size, c.len.ensures, c.len-start.ensures) in e))),
      ap length records ∙ length-append c.loop-number.records.items (c.record_of.result ∷ []) ∙ ap (λ n. n + 1) c.loop-number.invariant.1,
      omega (arith, size, few, c.loop-number.invariant.2, c.signals-signals.ensures.few, c.signals-signals.ensures.count),
    )
