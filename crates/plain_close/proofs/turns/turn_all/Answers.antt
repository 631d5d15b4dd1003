use Rattle.std.proofs.Common.{arith, ◌∙◌}
use Rattle.plain_close.proofs.Turning.{between-none, between-then, closure-is}
use Rattle.plain_close.proofs.turns.turn_all.Goals as goal

pub loop-init : goal.loop-init
loop-init c = (between-none c.args.p.now c.args.planes.now c.args.worklist.now c.requires.of c.requires.worklist c.requires.settled, omega arith)

pub loop-preserved : goal.loop-preserved
loop-preserved c = (
  between-then c.args.p.now c.args.planes.now c.loop.planes c.turn_to_next.new.planes c.loop.worklist c.turn_to_next.new.worklist c.loop.invariant.0 c.in_ok-turn_to_next.ensures.between,
  omega (arith, c.loop.invariant.1, c.in_ok-turn_to_next.ensures.room),
)

pub returns-clause-closure : goal.returns-clause-closure
returns-clause-closure c =
    closure-is c.args.p.now c.args.planes.now c.turn_to_next.new.planes c.turn_to_next.new.worklist
    (between-then c.args.p.now c.args.planes.now c.loop.planes c.turn_to_next.new.planes c.loop.worklist c.turn_to_next.new.worklist c.loop.invariant.0 c.in_ok-turn_to_next.ensures.between)
    (c.in_ok-turn_to_next.ensures.closed (c.has_added.ensures.no c.if-has_added.false))

pub returns-clause-mark : goal.returns-clause-mark
returns-clause-mark c = c.in_ok-turn_to_next.ensures.between.mark ∙ c.loop.invariant.0.mark
