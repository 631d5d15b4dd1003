use Rattle.std.proofs.Common.{◌≡◌, List, length, sym, ap, subst, arith}
use Rattle.std.specs.List.{All}
use Rattle.sr_model.specs.Declaration.{Declaration, InputNamed}
use Rattle.netlist.specs.Circuit.{IsNetlist}
use Rattle.netlist.specs.Numbering.{IsStatement, drivers_of}
use Rattle.netlist.specs.Wiring.{flip_flops}
use Rattle.cycle_sim.specs.Load.{AreOnLines, load_name, input_count, flip_flop_count, gate_count, load_gate, load_flip_flop, load_statements}
use Rattle.cycle_sim.proofs.Drawn.{at-start}
use Rattle.cycle_sim.proofs.LoadSteps.{added-length, load-made, lines_declare, keeps-all}
use Rattle.cycle_sim.proofs.LoadNets.{loads_are_netlists, signals-are, flip_flops-are}
use Rattle.cycle_sim.proofs.load.load_netlist.Goals as goal

pub push_gates-requires-clause-room : goal.push_gates-requires-clause-room
push_gates-requires-clause-room c =
    omega (arith, added-length (λ i. InputNamed (load_name i)) c.in_ok-lines.lines c.push_inputs.new.lines (input_count c.args.signals) c.in_ok-push_inputs.ensures, ap length c.in_ok-lines.ensures)

pub push_flip_flops-requires-clause-room : goal.push_flip_flops-requires-clause-room
push_flip_flops-requires-clause-room c =
    let start = at-start 2 c.args.number c.new-generator.result c.new-generator.ensures in
    omega (
      arith,
      added-length (λ i. InputNamed (load_name i)) c.in_ok-lines.lines c.push_inputs.new.lines (input_count c.args.signals) c.in_ok-push_inputs.ensures,
      added-length (load_gate c.args.number c.args.signals) c.push_inputs.new.lines c.push_gates.new.lines (gate_count c.args.signals) (c.in_ok-push_gates.ensures.lines c.args.number start),
      ap length c.in_ok-lines.ensures,
    )

pub push-requires : goal.push-requires
push-requires c =
    let start = at-start 2 c.args.number c.new-generator.result c.new-generator.ensures in
    omega (
      arith,
      added-length (λ i. InputNamed (load_name i)) c.in_ok-lines.lines c.push_inputs.new.lines (input_count c.args.signals) c.in_ok-push_inputs.ensures,
      added-length (load_gate c.args.number c.args.signals) c.push_inputs.new.lines c.push_gates.new.lines (gate_count c.args.signals) (c.in_ok-push_gates.ensures.lines c.args.number start),
      added-length (load_flip_flop c.args.number c.args.signals) c.push_gates.new.lines c.push_flip_flops.new.lines (flip_flop_count c.args.signals)
          (c.in_ok-push_flip_flops.ensures c.args.number (c.in_ok-push_gates.ensures.words c.args.number start)),
      ap length c.in_ok-lines.ensures,
    )

pub returns : goal.returns
returns c =
    let start = at-start 2 c.args.number c.new-generator.result c.new-generator.ensures in
    let ds : List Declaration = load_statements c.args.number c.args.signals in
    let made : c.push.new.self ≡ ds =
    load-made c.args.number c.args.signals c.in_ok-lines.lines c.push_inputs.new.lines c.push_gates.new.lines c.push_flip_flops.new.lines c.push.new.self c.in_ok-to_name.field-0.items
    c.in_ok-lines.ensures c.in_ok-push_inputs.ensures (c.in_ok-push_gates.ensures.lines c.args.number start)
    (c.in_ok-push_flip_flops.ensures c.args.number (c.in_ok-push_gates.ensures.words c.args.number start)) c.in_ok-push.ensures c.in_ok-to_name.ensures in
    let on_lines : AreOnLines ds c.into_statements.result = subst (λ (xs : List Declaration). AreOnLines xs c.into_statements.result) made c.into_statements.ensures in
    let same = sym (lines_declare ds c.into_statements.result on_lines) in
    let netlist : All IsStatement ds × IsNetlist ds = loads_are_netlists c.args.number c.args.signals c.requires in record {
      statements = on_lines;
      each = subst (All IsStatement) same netlist.0;
      netlist = subst IsNetlist same netlist.1;
      accepted = keeps-all ds c.into_statements.result on_lines netlist.1;
      signals = subst (λ (xs : List Declaration). length (drivers_of xs) ≡ c.args.signals) same (signals-are c.args.number c.args.signals c.requires);
      flip_flops = subst (λ (xs : List Declaration). length (flip_flops (drivers_of xs)) ≡ flip_flop_count c.args.signals) same (flip_flops-are c.args.number c.args.signals c.requires);
    }
