use Rattle.std.proofs.Common.{◌≡◌, arith, subst}
use Rattle.known_planes.proofs.Clashes.{HasEach, each-none, each-more}
use Rattle.known_planes.proofs.planes.Planes.both_in_chunk.Goals as goal

pub loop-s-init : goal.loop-s-init
loop-s-init c = each-none c.args.self.now c.args.chunk

pub loop-s-preserved : goal.loop-s-preserved
loop-s-preserved c = each-more c.args.self.now c.args.chunk c.loop-s.s c.loop-s.both c.both-both.result c.pair-words.result c.pair-words.ensures c.both-both.ensures c.loop-s.invariant

pub returns : goal.returns
returns c =
    let all : c.loop-s.s ≡ c.args.self.now.signals = omega (arith, c.loop-s-test.false, c.loop-s.auto.s-end, c.signals-s-end.ensures.signals) in
    subst (λ n. HasEach c.args.self.now c.args.chunk n c.loop-s.both) all c.loop-s.invariant
