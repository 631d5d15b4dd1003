use Rattle.std.proofs.Common.{◌≡◌, ◌+◌, ◌≤◌, length, take, ap, subst, arith}
use Rattle.sr_model.specs.Declaration.{declared}
use Rattle.netlist.specs.Checks.{HasFewSignals}
use Rattle.netlist.specs.Numbering.{names_of, HasPinCount}
use Rattle.netlist.proofs.Statements.{stands_at, stated_by, stated_holds, breaks_here, names_more, pins_few}
use Rattle.netlist.proofs.MentionSigs.{firsts_more, pins_more}
use Rattle.netlist.proofs.numbers.number_names.Goals as goal

pub add_mentions-requires-clause-pins : goal.add_mentions-requires-clause-pins
add_mentions-requires-clause-pins c =
    let at = stands_at c.as_slice-stated-items.result.now c.args.s.now.items c.loop-stated.stated-index c.stated-item.result c.as_slice-stated-items.ensures c.loop-stated-test.true c.stated-item.is in
    pins_few (stated_by c.stated-item.result) (stated_holds HasPinCount c.args.s.now.items c.loop-stated.stated-index c.stated-item.result at c.requires)

pub returns-then-len-gt-MAX_SIGNALS-clause-refused : goal.returns-then-len-gt-MAX_SIGNALS-clause-refused
returns-then-len-gt-MAX_SIGNALS-clause-refused c =
    let items = c.args.s.now.items in
    let i = c.loop-stated.stated-index in
    let at = stands_at c.as_slice-stated-items.result.now items i c.stated-item.result c.as_slice-stated-items.ensures c.loop-stated-test.true c.stated-item.is in
    let now : c.add_mentions.new.self ≡ names_of (take (i + 1) (declared c.args.s.now)) =
    names_more items i c.stated-item.result c.loop-stated.names c.add_mentions.new.self at c.loop-stated.invariant.names c.in_ok-add_mentions.ensures.names in
    breaks_here HasFewSignals items i c.stated-item.result at (subst (λ ns. length ns ≤ 65536) c.loop-stated.invariant.names c.loop-stated.invariant.few)
    (λ few. omega (arith, few, ap length now, c.if-len-gt-MAX_SIGNALS.true, c.len.ensures))

pub loop-stated-preserved : goal.loop-stated-preserved
loop-stated-preserved c =
    let items = c.args.s.now.items in
    let i = c.loop-stated.stated-index in
    let x = c.stated-item.result in
    let at = stands_at c.as_slice-stated-items.result.now items i x c.as_slice-stated-items.ensures c.loop-stated-test.true c.stated-item.is in
    let names = c.loop-stated.names in
    let after = c.add_mentions.new.self in
    let is = c.loop-stated.invariant.names in
    let added = c.in_ok-add_mentions.ensures.names in
    record {
      names = names_more items i x names after at is added;
      firsts = firsts_more items i x names after at is added c.loop-stated.firsts.items c.add_mentions.new.firsts.items c.loop-stated.invariant.firsts c.in_ok-add_mentions.ensures.firsts;
      pins = pins_more items i x names after at is added c.loop-stated.pins.items c.add_mentions.new.pins.items c.loop-stated.invariant.pins c.in_ok-add_mentions.ensures.pins;
      few = omega arith;
    }
