use Rattle.std.proofs.Common.{◌≡◌, ◌<◌, ◌≤◌, true, false, length, get_or, take, refl, sym, subst, arith}
use Rattle.std.specs.List.{All}
use Rattle.std.proofs.lemmas.List.{length-map, take_all}
use Rattle.std.proofs.lemmas.List.Elements.{All-push}
use Rattle.sr_model.specs.Room.{texts}
use Rattle.netlist.specs.Numbering.{IsSignalName}
use Rattle.netlist.proofs.Texts.{text_more, text_holds}
use Rattle.netlist.proofs.checks.are_signal_names.Goals as goal

pub returns-then-not-is_signal_name : goal.returns-then-not-is_signal_name
returns-then-not-is_signal_name c =
    let names = c.args.names.now in
    let below : c.loop-name.name-index < length names.items = subst (λ xs. c.loop-name.name-index < length xs) c.as_slice-name-items.ensures c.loop-name-test.true in
    let read : c.name-item.result ≡ get_or names.items c.loop-name.name-index c.name-item.result = subst (λ xs. c.name-item.result ≡ get_or xs c.loop-name.name-index c.name-item.result) c.as_slice-name-items.ensures c.name-item.is in
    let refused = c.if-not-is_signal_name.ensures in
    (λ (e : false ≡ true). absurd cc, λ all. refused.1 (subst IsSignalName (sym c.as_slice.ensures) (text_holds IsSignalName names c.loop-name.name-index c.name-item.result below read all)))

pub loop-name-preserved : goal.loop-name-preserved
loop-name-preserved c =
    let names = c.args.names.now in
    let below : c.loop-name.name-index < length names.items = subst (λ xs. c.loop-name.name-index < length xs) c.as_slice-name-items.ensures c.loop-name-test.true in
    let read : c.name-item.result ≡ get_or names.items c.loop-name.name-index c.name-item.result = subst (λ xs. c.name-item.result ≡ get_or xs c.loop-name.name-index c.name-item.result) c.as_slice-name-items.ensures c.name-item.is in
    let passed = c.if-not-is_signal_name.ensures in
    subst (All IsSignalName) (sym (text_more names c.loop-name.name-index c.name-item.result below read))
    (All-push IsSignalName (take c.loop-name.name-index (texts names)) c.name-item.result.items c.loop-name.invariant (subst IsSignalName c.as_slice.ensures (passed.0 refl)))

pub returns : goal.returns
returns c =
    let names = c.args.names.now in
    let past : length names.items ≤ c.loop-name.name-index = subst (λ xs. length xs ≤ c.loop-name.name-index) c.as_slice-name-items.ensures c.loop-name-test.false in
    let whole : take c.loop-name.name-index (texts names) ≡ texts names = take_all c.loop-name.name-index (texts names) (omega (arith, past, length-map names.items (λ x. x.items))) in
    (λ _. subst (All IsSignalName) whole c.loop-name.invariant, λ _. refl)
