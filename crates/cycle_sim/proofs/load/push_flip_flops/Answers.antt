use Rattle.std.proofs.Common.{◌+◌, ◌∙◌, ap, length, arith}
use Rattle.std.proofs.lemmas.List.{length_push}
use Rattle.sr_model.specs.Declaration.{declaration_of}
use Rattle.cycle_sim.specs.Load.{gate_count, gate_start, load_flip_flop}
use Rattle.cycle_sim.specs.Words.{generator_at}
use Rattle.cycle_sim.proofs.LoadSteps.{added-more}
use Rattle.cycle_sim.proofs.load.push_flip_flops.Goals as goal

pub loop-i-preserved : goal.loop-i-preserved
loop-i-preserved c = (
  omega (arith, ap length c.in_ok-push.ensures, length_push c.loop-i.lines (declaration_of c.in_ok-draw_driver.field-0), c.loop-i.invariant.0),
  λ number at.
      let before = c.loop-i.invariant.1 number at in (
        c.in_ok-draw_driver.ensures.words number (gate_start number (gate_count c.args.signals) + c.loop-i.i) before.0 ∙ ap (generator_at 2 number) (omega arith),
        added-more (load_flip_flop number c.args.signals) c.args.lines.now c.loop-i.lines c.loop-i.i c.push.new.self (declaration_of c.in_ok-draw_driver.field-0) before.1 c.in_ok-push.ensures
            (c.in_ok-draw_driver.ensures.driver number (gate_start number (gate_count c.args.signals) + c.loop-i.i) before.0),
      ),
)
