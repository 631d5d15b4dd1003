use Rattle.std.proofs.Common.{◌∙◌, ap, sym, length, arith}
use Rattle.std.proofs.lemmas.List.{append-nil, length_push}
use Rattle.sr_model.specs.Declaration.{declaration_of}
use Rattle.cycle_sim.specs.Load.{gate_start, load_gate}
use Rattle.cycle_sim.specs.Words.{generator_at}
use Rattle.cycle_sim.proofs.LoadSteps.{added-more, gate_start-none, gate_start-more}
use Rattle.cycle_sim.proofs.load.push_gates.Goals as goal

pub loop-i-init : goal.loop-i-init
loop-i-init c = (omega arith, λ number at. (at ∙ ap (generator_at 2 number) (sym (gate_start-none number)), sym (append-nil c.args.lines.now)))

pub loop-i-preserved : goal.loop-i-preserved
loop-i-preserved c = (
  omega (arith, ap length c.in_ok-push.ensures, length_push c.loop-i.lines (declaration_of c.in_ok-draw_gate.field-0), c.loop-i.invariant.0),
  λ number at.
      let before = c.loop-i.invariant.1 number at in (
        c.in_ok-draw_gate.ensures.words number (gate_start number c.loop-i.i) before.0 ∙ ap (generator_at 2 number) (sym (gate_start-more number c.loop-i.i)),
        added-more (load_gate number c.args.signals) c.args.lines.now c.loop-i.lines c.loop-i.i c.push.new.self (declaration_of c.in_ok-draw_gate.field-0) before.1 c.in_ok-push.ensures
            (c.in_ok-draw_gate.ensures.gate number (gate_start number c.loop-i.i) before.0),
      ),
)
