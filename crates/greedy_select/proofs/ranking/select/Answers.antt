use Rattle.std.proofs.Common.{◌≡◌, [], ap, arith, length, subst, ◌∙◌}
use Rattle.netlist.specs.Wiring.{flip_flops}
use Rattle.sr_model.specs.Closure.{SameLits}
use Rattle.sr_model.specs.Dump.{Known}
use Rattle.unroll.specs.Problem.{Unrolling, unrolled}
use Rattle.known_planes.specs.Planes.{lits, IsOf}
use Rattle.greedy_select.proofs.Knowing.{known-none}
use Rattle.greedy_select.proofs.Leaving.{ranking-none, same-problem}
use Rattle.cycle_sim.specs.BitTable.{BitTable}
use Rattle.cycle_sim.specs.Simulation.{bits_of}
use Rattle.greedy_select.specs.Picks.{AreGreedy}
use Rattle.greedy_select.proofs.ranking.select.Goals as goal

pub loop-init : goal.loop-init
loop-init g c =
    let u = c.in_ok-tracing.tracing.p in
    let planes = c.in_ok-ranking.ranking.planes in
    let same : c.new-p.result ≡ u =
    same-problem c.args.n.now c.cycles.result c.args.e.now.count c.new-p.result u c.new-p.ensures c.cycles.ensures.value c.in_ok-tracing.ensures.problem in
    let known = known-none u (bits_of c.in_ok-tracing.tracing.e.now) planes c.set_mark.new.self (subst (λ (x : Unrolling). IsOf x planes) same c.in_ok-ranking.ensures.of)
    (subst (λ (x : Unrolling). SameLits (lits x planes) (Known (unrolled x) [])) same c.in_ok-ranking.ensures.known) c.in_ok-set_mark.ensures.ok in (
      ranking-none u (bits_of c.in_ok-tracing.tracing.e.now) _ known c.in_ok-ranking.ensures.picks (c.in_ok-ranking.ensures.left ∙ ap (λ (x : Unrolling). flip_flops x.circuit.drivers) same),
      ap length c.in_ok-ranking.ensures.picks,
    )

pub pick_next-requires-clause-left : goal.pick_next-requires-clause-left
pick_next-requires-clause-left g c κs lives =
    omega (arith, c.loop.invariant.1, c.loop-test.true, c.requires.width, ap (λ (u : Unrolling). length (flip_flops u.circuit.drivers)) c.in_ok-tracing.ensures.problem)

pub loop-preserved : goal.loop-preserved
loop-preserved g c = (c.in_ok-pick_next.ensures.ranking, omega (arith, c.in_ok-pick_next.ensures.picks, c.loop.invariant.1))

pub returns-clause-picks : goal.returns-clause-picks
returns-clause-picks g c =
    subst (λ (e : BitTable). AreGreedy c.args.n.now c.args.e.now.count (bits_of e) [] c.loop.ranking.picks.items) c.in_ok-tracing.ensures.execution
    (subst (λ (u : Unrolling). AreGreedy u.circuit u.cycles (bits_of c.in_ok-tracing.tracing.e.now) [] c.loop.ranking.picks.items) c.in_ok-tracing.ensures.problem c.loop.invariant.0.greedy)
