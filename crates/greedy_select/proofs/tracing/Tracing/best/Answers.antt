use Rattle.std.proofs.Common.{sym, subst}
use Rattle.cycle_sim.specs.Simulation.{bits_of}
use Rattle.std.proofs.lemmas.Bool.{iff_false}
use Rattle.greedy_select.specs.Ranking.{HasKnown}
use Rattle.greedy_select.proofs.Choosing.{chosen-first, chosen-better, chosen-before, chosen-last}
use Rattle.greedy_select.proofs.tracing.Tracing.best.Goals.{then-is_better, else-is_better}
use Rattle.greedy_select.proofs.tracing.Tracing.best.Goals as goal

pub loop-next-init : goal.loop-next-init
loop-next-init g c =
    chosen-first c.args.self.now.p (bits_of c.args.self.now.e.now) c.args.planes.now c.args.sigs.now c.in_ok-best.best c.candidate.new.planes c.requires.some c.in_ok-best.ensures.signal c.in_ok-best.ensures.planes
    c.in_ok-best.ensures.gained

pub candidate-requires-in-loop-next-clause-known : goal.candidate-requires-in-loop-next-clause-known
candidate-requires-in-loop-next-clause-known g c κs lives =
    (c.requires.known.0, subst (HasKnown c.args.self.now.p (bits_of c.args.self.now.e.now) c.requires.known.0) (sym c.loop-next.invariant.same) c.requires.known.1)

pub loop-next-preserved : goal.loop-next-preserved
loop-next-preserved g c =
    elim c.if-is_better.branch [
      | then-is_better w ↦
          chosen-better c.args.self.now.p (bits_of c.args.self.now.e.now) c.args.planes.now c.args.sigs.now c.loop-next.next c.loop-next.place c.loop-next.best c.loop-next.planes c.candidate-in-loop-next.new.planes
          c.in_ok-other.other c.loop-next-test.true c.in_ok-other.ensures.signal c.in_ok-other.ensures.planes c.in_ok-other.ensures.gained c.loop-next.invariant
          c.if-is_better.place c.if-is_better.best w.place-is w.best-is (c.is_better.ensures.0 w.if-is_better.true)
      | else-is_better w ↦
          chosen-before c.args.self.now.p (bits_of c.args.self.now.e.now) c.args.planes.now c.args.sigs.now c.loop-next.next c.loop-next.place c.loop-next.best c.loop-next.planes c.candidate-in-loop-next.new.planes
          c.in_ok-other.other c.loop-next-test.true c.in_ok-other.ensures.signal c.in_ok-other.ensures.planes c.in_ok-other.ensures.gained c.loop-next.invariant
          c.if-is_better.place c.if-is_better.best w.place-is w.best-is (iff_false c.is_better.ensures w.if-is_better.false)
    ]

pub returns-clause-best : goal.returns-clause-best
returns-clause-best g c =
    chosen-last c.args.self.now.p (bits_of c.args.self.now.e.now) c.args.planes.now c.args.sigs.now c.loop-next.next c.loop-next.place c.loop-next.best c.loop-next.planes c.loop-next-test.false c.loop-next.invariant
