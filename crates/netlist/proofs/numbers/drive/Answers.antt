use Rattle.std.proofs.Common.{◌≡◌, ℕ, ◌+◌, ◌<◌, List, [], ◌∷◌, length, get_or, set, take, map, Some, sym, ap, subst, ◌∙◌, rules, arith}
use Rattle.std.specs.List.{Contains, flat_map}
use Rattle.sr_model.specs.declared.cells.Sig.{Sig}
use Rattle.sr_model.specs.Declaration.{declared}
use Rattle.netlist.specs.Checks.{HasFewSignals, HasFewPins, IsDrivenOnce}
use Rattle.netlist.specs.Numbering.{driven_name, mentions, pin_names, place_in, sig_in, HasPinCount}
use Rattle.netlist.specs.Mentions.{first_mention}
use Rattle.netlist.proofs.Driving.{IsDrivenSoFar, so_far_none, so_far_same, so_far_again, so_far_more, so_far_fits, nodes-long}
use Rattle.netlist.proofs.Once.{IsApart, once-apart}
use Rattle.netlist.proofs.Places.{place_in-lt}
use Rattle.netlist.proofs.Statements.{stands_at, stated_by, stated_holds, breaks_here, without_lines-stated}
use Rattle.netlist.proofs.MentionSigs.{first_at, first_driven, none_driven, first_member}
use Rattle.netlist.proofs.numbers.drive.Goals as goal

pub loop-i-init : goal.loop-i-init
loop-i-init c = so_far_none (declared c.args.s.now) c.args.names.now c.len.result c.in-Ok.nodes.items c.len.ensures (search rules)

pub loop-i-preserved-then-not-is_driving : goal.loop-i-preserved-then-not-is_driving
loop-i-preserved-then-not-is_driving c =
    let items = c.args.s.now.items in
    let i = c.loop-i.i in
    let x = c.stated-item.result in
    let at = stands_at c.as_slice-stated-items.result.now items i x c.as_slice-stated-items.ensures c.loop-i-test.true c.stated-item.is in
    so_far_same items c.args.names.now i x c.loop-i.nodes.items c.loop-i.first_pin at c.loop-i.invariant (none_driven (stated_by x) c.is_driving.result c.is_driving.ensures c.if-not-is_driving.true)

pub index-requires : goal.index-requires
index-requires c =
    let items = c.args.s.now.items in
    let i = c.loop-i.i in
    let x = c.stated-item.result in
    let at = stands_at c.as_slice-stated-items.result.now items i x c.as_slice-stated-items.ensures c.loop-i-test.true c.stated-item.is in
    let t : List ℕ = first_mention (stated_by x) in
    let sig : get_or c.args.firsts.now i (record { 0 = 0 }) ≡ sig_in c.args.names.now t = (first_at (sig_in c.args.names.now) items i x c.args.firsts.now (record { 0 = 0 }) at c.requires.firsts).1 in
    let place : (get_or c.args.firsts.now i (record { 0 = 0 })).0 ≡ place_in c.args.names.now t = ap (λ (s : Sig). s.0) sig in
    let member : Contains c.args.names.now t = first_member items i x c.args.names.now at c.requires.names in
    let below : place_in c.args.names.now t < length c.args.names.now = place_in-lt c.args.names.now t member in
    let long : length c.loop-i.nodes.items ≡ length c.args.names.now = nodes-long (map (sig_in c.args.names.now) (flat_map pin_names (declared c.args.s.now))) (sig_in c.args.names.now) c.args.names.now (take i (declared c.args.s.now)) c.loop-i.nodes.items c.loop-i.invariant.drivers in
    omega (arith, below, long, place, c.loop-i.nodes.ok.0)

pub returns-then-is_some-clause-refused : goal.returns-then-is_some-clause-refused
returns-then-is_some-clause-refused c =
    let items = c.args.s.now.items in
    let i = c.loop-i.i in
    let x = c.stated-item.result in
    let at = stands_at c.as_slice-stated-items.result.now items i x c.as_slice-stated-items.ensures c.loop-i-test.true c.stated-item.is in
    let t : List ℕ = first_mention (stated_by x) in
    let sig : get_or c.args.firsts.now i (record { 0 = 0 }) ≡ sig_in c.args.names.now t = (first_at (sig_in c.args.names.now) items i x c.args.firsts.now (record { 0 = 0 }) at c.requires.firsts).1 in
    let place : (get_or c.args.firsts.now i (record { 0 = 0 })).0 ≡ place_in c.args.names.now t = ap (λ (s : Sig). s.0) sig in
    let member : Contains c.args.names.now t = first_member items i x c.args.names.now at c.requires.names in
    let one : driven_name (stated_by x) ≡ t ∷ [] = first_driven (stated_by x) c.is_driving.result c.is_driving.ensures c.if-not-is_driving.false in
    let read : c.index.result.now ≡ get_or c.loop-i.nodes.items (place_in c.args.names.now t) c.index.result.now = c.index.ensures ∙ ap (λ k. get_or c.loop-i.nodes.items k c.index.result.now) place in (
      subst HasFewSignals (sym (without_lines-stated items)) c.requires.few_signals,
      subst HasFewPins (sym (without_lines-stated items)) c.requires.few_pins,
      breaks_here IsDrivenOnce items i x at c.loop-i.invariant.once
          (so_far_again items c.args.names.now i x c.loop-i.nodes.items c.loop-i.first_pin at c.loop-i.invariant t c.index.result.now one member read (sym c.if-is_some.ensures)),
    )

pub node_of-node-requires : goal.node_of-node-requires
node_of-node-requires c =
    let items = c.args.s.now.items in
    let i = c.loop-i.i in
    let x = c.stated-item.result in
    let at = stands_at c.as_slice-stated-items.result.now items i x c.as_slice-stated-items.ensures c.loop-i-test.true c.stated-item.is in
    stated_holds HasPinCount items i x at c.requires.pin_counts

pub index_mut-requires : goal.index_mut-requires
index_mut-requires c =
    let items = c.args.s.now.items in
    let i = c.loop-i.i in
    let x = c.stated-item.result in
    let at = stands_at c.as_slice-stated-items.result.now items i x c.as_slice-stated-items.ensures c.loop-i-test.true c.stated-item.is in
    let t : List ℕ = first_mention (stated_by x) in
    let sig : get_or c.args.firsts.now i (record { 0 = 0 }) ≡ sig_in c.args.names.now t = (first_at (sig_in c.args.names.now) items i x c.args.firsts.now (record { 0 = 0 }) at c.requires.firsts).1 in
    let place : (get_or c.args.firsts.now i (record { 0 = 0 })).0 ≡ place_in c.args.names.now t = ap (λ (s : Sig). s.0) sig in
    let member : Contains c.args.names.now t = first_member items i x c.args.names.now at c.requires.names in
    let below : place_in c.args.names.now t < length c.args.names.now = place_in-lt c.args.names.now t member in
    let long : length c.loop-i.nodes.items ≡ length c.args.names.now = nodes-long (map (sig_in c.args.names.now) (flat_map pin_names (declared c.args.s.now))) (sig_in c.args.names.now) c.args.names.now (take i (declared c.args.s.now)) c.loop-i.nodes.items c.loop-i.invariant.drivers in
    omega (arith, below, long, place, c.loop-i.nodes.ok.0)

pub overflow_add-first_pin : goal.overflow_add-first_pin
overflow_add-first_pin c =
    let items = c.args.s.now.items in
    let i = c.loop-i.i in
    let x = c.stated-item.result in
    let at = stands_at c.as_slice-stated-items.result.now items i x c.as_slice-stated-items.ensures c.loop-i-test.true c.stated-item.is in
    let fits = so_far_fits items c.args.names.now i x c.loop-i.nodes.items c.loop-i.first_pin at c.loop-i.invariant in
    omega (arith, fits, c.requires.few_pins, ap (λ node. node.pin_count) c.node_of-node.ensures)

pub loop-i-preserved : goal.loop-i-preserved
loop-i-preserved c =
    let items = c.args.s.now.items in
    let i = c.loop-i.i in
    let x = c.stated-item.result in
    let at = stands_at c.as_slice-stated-items.result.now items i x c.as_slice-stated-items.ensures c.loop-i-test.true c.stated-item.is in
    let t : List ℕ = first_mention (stated_by x) in
    let sig : get_or c.args.firsts.now i (record { 0 = 0 }) ≡ sig_in c.args.names.now t = (first_at (sig_in c.args.names.now) items i x c.args.firsts.now (record { 0 = 0 }) at c.requires.firsts).1 in
    let place : (get_or c.args.firsts.now i (record { 0 = 0 })).0 ≡ place_in c.args.names.now t = ap (λ (s : Sig). s.0) sig in
    let member : Contains c.args.names.now t = first_member items i x c.args.names.now at c.requires.names in
    let one : driven_name (stated_by x) ≡ t ∷ [] = first_driven (stated_by x) c.is_driving.result c.is_driving.ensures c.if-not-is_driving.false in
    let read : c.index.result.now ≡ get_or c.loop-i.nodes.items (place_in c.args.names.now t) c.index.result.now = c.index.ensures ∙ ap (λ k. get_or c.loop-i.nodes.items k c.index.result.now) place in
    let apart : IsApart c.args.names.now = subst IsApart (sym c.requires.names) (once-apart (flat_map mentions (declared c.args.s.now))) in
    let after = so_far_more items c.args.names.now i x c.loop-i.nodes.items c.loop-i.first_pin at c.loop-i.invariant t c.index.result.now one member read (sym c.if-is_some.ensures) apart c.node_of-node.result
    c.node_of-node.ensures in
    subst (λ k. IsDrivenSoFar (declared c.args.s.now) c.args.names.now (i + 1) (set c.loop-i.nodes.items k (Some c.node_of-node.result)) (c.loop-i.first_pin + c.node_of-node.result.pin_count)) (sym place) after
