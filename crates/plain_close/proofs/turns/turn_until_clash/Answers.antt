use Rattle.std.proofs.Common.{arith, inl, inr}
use Rattle.plain_close.specs.Turns.{Between}
use Rattle.plain_close.proofs.Turning.{between-none, between-then, closure-is}
use Rattle.plain_close.proofs.turns.turn_until_clash.Goals as goal

pub loop-init : goal.loop-init
loop-init c = (between-none c.args.p.now c.args.planes.now c.args.worklist.now c.requires.of c.requires.worklist c.requires.settled, omega arith)

pub loop-preserved : goal.loop-preserved
loop-preserved c = (
  between-then c.args.p.now c.args.planes.now c.loop.planes c.turn_to_next.new.planes c.loop.worklist c.turn_to_next.new.worklist c.loop.invariant.0 c.in_ok-turn_to_next.ensures.between,
  omega (arith, c.loop.invariant.1, c.in_ok-turn_to_next.ensures.room),
)

pub returns-clause-within : goal.returns-clause-within
returns-clause-within c =
    let all : Between c.args.p.now c.args.planes.now c.turn_to_next.new.planes c.turn_to_next.new.worklist =
    between-then c.args.p.now c.args.planes.now c.loop.planes c.turn_to_next.new.planes c.loop.worklist c.turn_to_next.new.worklist c.loop.invariant.0 c.in_ok-turn_to_next.ensures.between in
    all.in_closure

pub returns-clause-closed : goal.returns-clause-closed
returns-clause-closed c none =
    closure-is c.args.p.now c.args.planes.now c.turn_to_next.new.planes c.turn_to_next.new.worklist
    (between-then c.args.p.now c.args.planes.now c.loop.planes c.turn_to_next.new.planes c.loop.worklist c.turn_to_next.new.worklist c.loop.invariant.0 c.in_ok-turn_to_next.ensures.between)
    (elim (c.goes_on.ensures.no c.if-goes_on.false) [
      | inl nothing ↦ c.in_ok-turn_to_next.ensures.closed nothing
      | inr clash ↦ let found = c.in_ok-turn_to_next.ensures.clash clash in absurd (none found.0 found.1)
    ])
