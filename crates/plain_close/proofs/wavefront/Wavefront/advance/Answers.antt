use Rattle.std.proofs.Common.{arith}
use Rattle.plain_close.proofs.UnderWay.{way-first, way-last}
use Rattle.plain_close.proofs.wavefront.Wavefront.advance.Goals as goal

pub loop-time-init : goal.loop-time-init
loop-time-init c base is first = way-first c.args.p.now base c.args.level c.args.self.now is first

pub advance_at-requires-clause-under_way : goal.advance_at-requires-clause-under_way
advance_at-requires-clause-under_way c = (c.requires.wavefront.0, c.args.self.now, c.loop-time.added, c.loop-time.invariant c.requires.wavefront.0 c.requires.wavefront.1 c.requires.wavefront.2)

pub loop-time-preserved : goal.loop-time-preserved
loop-time-preserved c base is first = c.in_ok-added.ensures base c.args.self.now c.loop-time.added (c.loop-time.invariant base is first)

pub returns : goal.returns
returns c base is first =
    way-last c.args.p.now base c.args.level c.loop-time.time c.loop-time.added c.args.self.now c.loop-time.self (omega (arith, c.loop-time-test.false, c.chunks-chunks.ensures.chunks)) (c.loop-time.invariant base is first)
