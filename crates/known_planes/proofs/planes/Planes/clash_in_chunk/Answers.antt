use Rattle.std.proofs.Common.{refl}
use Rattle.std.specs.Int.{trailing_zeros, w64}
use Rattle.known_planes.proofs.Clashes.{least-clash, lowest-bit, none-here, some-signal}
use Rattle.known_planes.proofs.planes.Planes.clash_in_chunk.Goals as goal

pub returns-then-both-eq0-clause-none : goal.returns-then-both-eq0-clause-none
returns-then-both-eq0-clause-none c _ =
    none-here c.args.p.now c.args.self.now c.requires.of c.args.chunk c.both_in_chunk-both.result c.both_in_chunk-both.ensures c.if-both-eq0.true

pub returns-in_err-sig-clause-none : goal.returns-in_err-sig-clause-none
returns-in_err-sig-clause-none c _ =
    absurd (some-signal c.args.p.now c.args.self.now c.requires.of c.args.chunk c.both_in_chunk-both.result c.both_in_chunk-both.ensures c.if-both-eq0.false c.both_in_chunk-both.type_inv
    (c.in_err-sig.ensures.none refl))

pub returns-clause-some : goal.returns-clause-some
returns-clause-some c =
    let bit = lowest-bit c.both_in_chunk-both.result c.if-both-eq0.false c.both_in_chunk-both.type_inv in
    let some = c.in_ok-sig.ensures.some in
    least-clash c.args.p.now c.args.self.now c.requires.of c.args.chunk (trailing_zeros w64 c.both_in_chunk-both.result) c.in_ok-sig.sig c.both_in_chunk-both.result
    c.requires.chunk some.0 bit.0 some.1 c.both_in_chunk-both.ensures bit.2 some.2
