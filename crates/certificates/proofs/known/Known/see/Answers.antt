use Rattle.std.proofs.Common.{◌<◌, subst}
use Rattle.certificates.proofs.AtPlace.{listed-within}
use Rattle.certificates.proofs.known.Known.see.Goals as goal

pub word-requires : goal.word-requires
word-requires c =
    listed-within c.args.p.now c.args.self.now.planes c.loop-i.self.planes c.args.task c.loop-i.self.blocks.items c.as_slice.result.now c.loop-i.i c.requires.kept.of c.loop-i.invariant.planes
    c.requires.inside.1 c.loop-i.invariant.blocks c.as_slice.ensures (subst (λ n. c.loop-i.i < n) c.loop-i.invariant.end c.loop-i-test.true)
