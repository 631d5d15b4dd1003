use Rattle.std.proofs.Common.{arith}
use Rattle.unroll.specs.Problem.{block_in}
use Rattle.plain_close.proofs.Unknown.{all-there}
use Rattle.plain_close.proofs.Waking.{joins-known}
use Rattle.plain_close.proofs.turns.join_unknown.Goals as goal

pub returns-then-fresh-eq0-clause-joins : goal.returns-then-fresh-eq0-clause-joins
returns-then-fresh-eq0-clause-joins c =
    joins-known (block_in c.args.p.now c.args.at) c.args.words c.known-fresh.result c.args.planes.now
    (all-there c.args.p.now c.args.planes.now c.args.at c.args.known c.args.words c.without.result c.known-fresh.result c.requires.known c.without.ensures c.known-fresh.ensures (omega arith) (omega arith))
    c.if-fresh-eq0.true
