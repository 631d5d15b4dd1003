use Rattle.std.proofs.Common.{◌≡◌, ◌<◌, ◌≤◌, arith, List, length, sym, ap, subst, ◌∙◌}
use Rattle.std.proofs.lemmas.Result.{err_from_is_err_and}
use Rattle.std.specs.List.{All, flat_map}
use Rattle.std.proofs.lemmas.List.{length-map}
use Rattle.sr_model.specs.Limits.{max_pins, max_signals}
use Rattle.sr_model.specs.declared.cells.Sig.{Sig}
use Rattle.sr_model.specs.Declaration.{Declaration, declared, declarations_of}
use Rattle.netlist.specs.Checks.{without_lines, HasFewSignals, HasFewPins, IsDrivenOnce}
use Rattle.netlist.specs.Driving.{HoldsDrivers, IsLack}
use Rattle.netlist.specs.Numbering.{names_of, pin_names, all_pins, sig_in, sig_of}
use Rattle.netlist.specs.Nodes.{drivers_from, IsNodeWithin}
use Rattle.netlist.specs.declared.wiring.Node.{Node}
use Rattle.netlist.proofs.Settling.{all_driven, all_long, all_drivers, all_within, pins_below, lack_refused}
use Rattle.netlist.proofs.Statements.{without_lines-stated}
use Rattle.netlist.proofs.numbers.number.Goals as goal

pub returns-in_err-settle-clause-refused : goal.returns-in_err-settle-clause-refused
returns-in_err-settle-clause-refused c =
    let same : without_lines (declarations_of c.args.s) ≡ declared c.args.s = without_lines-stated c.args.s.items in
    let names = c.in_ok-mentions.mentions.names in
    let nodes = c.in_ok-driven.driven.items in
    let p = err_from_is_err_and c.from_residual-in_err-settle.result c.from_residual-in_err-settle.ensures.1 in
    rw (p.1, p.2) (
    lack_refused (declarations_of c.args.s) names nodes c.in_err-settle.field-0.0 (subst (λ ds. names ≡ names_of ds) (sym same) c.in_ok-mentions.ensures.names)
    (subst (λ (ds : List Declaration). HoldsDrivers (all_pins ds) (sig_in names) names ds nodes) (sym same) c.in_ok-driven.ensures.drivers)
    (subst HasFewSignals (sym same) c.in_ok-mentions.ensures.few) (subst HasFewPins (sym same) c.in_ok-check_pins.ensures.few) (subst IsDrivenOnce (sym same) c.in_ok-driven.ensures.once)
    (subst (λ ns. IsLack ns names c.in_err-settle.field-0.0) c.as_slice.ensures.value c.in_err-settle.ensures.refused)
    )

pub returns-clause-accepted : goal.returns-clause-accepted
returns-clause-accepted c =
    record {
      few_signals = c.in_ok-mentions.ensures.few;
      few_pins = c.in_ok-check_pins.ensures.few;
      driven_once = c.in_ok-driven.ensures.once;
      driven =
          all_driven (declared c.args.s) c.in_ok-mentions.mentions.names c.in_ok-driven.driven.items c.in_ok-mentions.ensures.names c.in_ok-driven.ensures.drivers c.in_ok-settle.field-0.items
          (c.in_ok-settle.ensures.ok ∙ c.as_slice.ensures.value);
    }

pub returns-clause-drivers : goal.returns-clause-drivers
returns-clause-drivers c =
    let drivers = all_drivers (declared c.args.s) c.in_ok-mentions.mentions.names c.in_ok-driven.driven.items c.in_ok-mentions.ensures.names c.in_ok-driven.ensures.drivers c.in_ok-settle.field-0.items
    (c.in_ok-settle.ensures.ok ∙ c.as_slice.ensures.value) in
    ap (λ (pins : List Sig). drivers_from pins c.into_vec-nodes.result.items) c.in_ok-mentions.ensures.pins ∙ ap (drivers_from (all_pins (declared c.args.s))) c.into_vec-nodes.ensures ∙ drivers

pub returns-clause-signals : goal.returns-clause-signals
returns-clause-signals c =
    let long = all_long (declared c.args.s) c.in_ok-mentions.mentions.names c.in_ok-driven.driven.items c.in_ok-mentions.ensures.names c.in_ok-driven.ensures.drivers c.in_ok-settle.field-0.items
    (c.in_ok-settle.ensures.ok ∙ c.as_slice.ensures.value) in
    (ap length c.into_vec-nodes.ensures ∙ long, subst (λ ns. length ns ≤ max_signals) (sym c.in_ok-mentions.ensures.names) c.in_ok-mentions.ensures.few)

pub returns-clause-pins : goal.returns-clause-pins
returns-clause-pins c =
    let pins : c.in_ok-mentions.mentions.pins.items ≡ all_pins (declared c.args.s) = c.in_ok-mentions.ensures.pins in
    subst (λ (xs : List Sig). (length xs ≤ max_pins) × All (λ pin. pin.0 < length c.in_ok-mentions.mentions.names) xs) (sym pins) (
      omega (arith, c.in_ok-check_pins.ensures.few, length-map (flat_map pin_names (declared c.args.s)) (sig_of (declared c.args.s))),
      pins_below (declared c.args.s) c.in_ok-mentions.mentions.names c.in_ok-mentions.ensures.names,
    )

pub returns-clause-nodes : goal.returns-clause-nodes
returns-clause-nodes c =
    let pins : c.in_ok-mentions.mentions.pins.items ≡ all_pins (declared c.args.s) = c.in_ok-mentions.ensures.pins in
    let within : All (IsNodeWithin (length (all_pins (declared c.args.s)))) c.in_ok-settle.field-0.items =
    all_within (declared c.args.s) c.in_ok-mentions.mentions.names c.in_ok-driven.driven.items c.in_ok-mentions.ensures.names c.in_ok-driven.ensures.drivers c.in_ok-settle.field-0.items
    (c.in_ok-settle.ensures.ok ∙ c.as_slice.ensures.value) (length (all_pins (declared c.args.s))) c.in_ok-driven.ensures.within in
    subst (λ (nodes : List Node). All (IsNodeWithin (length c.in_ok-mentions.mentions.pins.items)) nodes) (sym c.into_vec-nodes.ensures)
    (subst (λ n. All (IsNodeWithin n) c.in_ok-settle.field-0.items) (sym (ap length pins)) within)
