use Rattle.std.proofs.Common.{sym, subst, arith}
use Rattle.netlist.specs.Checks.{HasFewSignals, HasFewPins}
use Rattle.netlist.specs.Numbering.{HasPinCount}
use Rattle.netlist.proofs.Statements.{stands_at, breaks_here, stated_by, stated_holds, pins_few, pins_front, without_lines-stated}
use Rattle.netlist.proofs.numbers.check_pins.Goals as goal

pub overflow_add-count : goal.overflow_add-count
overflow_add-count c =
    let at = stands_at c.as_slice-stated-items.result.now c.args.s.now.items c.loop-stated.stated-index c.stated-item.result c.as_slice-stated-items.ensures c.loop-stated-test.true c.stated-item.is in
    let few = pins_few (stated_by c.stated-item.result) (stated_holds HasPinCount c.args.s.now.items c.loop-stated.stated-index c.stated-item.result at c.requires.pin_counts) in
    omega (arith, few, c.pin_count-count.ensures)

pub returns-then-count-gt-MAX_PINS-clause-refused : goal.returns-then-count-gt-MAX_PINS-clause-refused
returns-then-count-gt-MAX_PINS-clause-refused c =
    let items = c.args.s.now.items in
    let i = c.loop-stated.stated-index in
    let at = stands_at c.as_slice-stated-items.result.now items i c.stated-item.result c.as_slice-stated-items.ensures c.loop-stated-test.true c.stated-item.is in
    let more = pins_front items i c.stated-item.result at in (
      subst HasFewSignals (sym (without_lines-stated items)) c.requires.few_signals,
      breaks_here HasFewPins items i c.stated-item.result at (omega arith) (λ few. omega (arith, few, more, c.pin_count-count.ensures, c.if-count-gt-MAX_PINS.true)),
    )

pub loop-stated-preserved : goal.loop-stated-preserved
loop-stated-preserved c =
    let items = c.args.s.now.items in
    let i = c.loop-stated.stated-index in
    let at = stands_at c.as_slice-stated-items.result.now items i c.stated-item.result c.as_slice-stated-items.ensures c.loop-stated-test.true c.stated-item.is in
    let more = pins_front items i c.stated-item.result at in
    (omega (arith, more, c.pin_count-count.ensures), omega arith)
