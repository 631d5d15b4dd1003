use Rattle.std.proofs.Common.{length, ap, subst, ◌∙◌}
use Rattle.netlist.specs.Circuit.{Circuit}
use Rattle.netlist.specs.Wiring.{flip_flops}
use Rattle.unroll.specs.Problem.{Unrolling}
use Rattle.report.specs.Load.{load_line}
use Rattle.restore_program.specs.Loading.{AreCountsOf, IsLoadTrace}
use Rattle.restore_program.proofs.load.loaded_from.Goals as goal

pub returns : goal.returns
returns g c = record {
  size = c.requires;
  rows = c.in_ok-trace.trace.rows;
  trace = subst (λ (n : Circuit). IsLoadTrace n c.args.number c.in_ok-trace.trace.rows) c.in_ok-n.ensures.circuit c.in_ok-trace.ensures.rows;
  counts = c.in_ok-ratio.ratio;
  counted = subst (λ (n : Circuit). AreCountsOf n c.in_ok-trace.trace.rows c.in_ok-ratio.ratio) (ap (λ (p : Unrolling). p.circuit) c.new.ensures ∙ c.in_ok-n.ensures.circuit) c.in_ok-ratio.ensures;
  text_is = ap (λ n. load_line c.args.number c.args.signals n c.in_ok-ratio.ratio) (ap length c.flip_flops.ensures ∙ ap (λ (n : Circuit). length (flip_flops n.drivers)) c.in_ok-n.ensures.circuit);
}
