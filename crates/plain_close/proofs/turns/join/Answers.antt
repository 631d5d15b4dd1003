use Rattle.unroll.specs.Problem.{block_in}
use Rattle.plain_close.proofs.Waking.{joins-known, wakes-new, falls-new}
use Rattle.plain_close.proofs.turns.join.Goals as goal

pub returns-then-fresh-eq0-clause-joins : goal.returns-then-fresh-eq0-clause-joins
returns-then-fresh-eq0-clause-joins c =
    joins-known (block_in c.args.p.now c.args.at) c.args.words c.new_in_chunk-fresh.result c.args.planes.now c.new_in_chunk-fresh.ensures.known c.if-fresh-eq0.true

pub wake-requires : goal.wake-requires
wake-requires c = record { of = (c.args.p.now, c.requires.problem, c.requires.worklist, c.requires.inside) }

pub returns-clause-wakes : goal.returns-clause-wakes
returns-clause-wakes c =
    wakes-new c.args.p.now c.requires.problem c.args.at c.requires.inside c.args.words c.new_in_chunk-fresh.result c.args.planes.now c.add_in_chunk.new.self c.add_in_chunk.ensures.of c.add_in_chunk.ensures.joins
    c.new_in_chunk-fresh.ensures.known c.args.worklist.now c.wake.new.self (c.wake.ensures c.args.p.now c.requires.problem c.requires.worklist c.requires.inside)

pub returns-clause-falls : goal.returns-clause-falls
returns-clause-falls c =
    let found = c.new_in_chunk-fresh.ensures.new c.if-fresh-eq0.false in
    falls-new c.args.p.now c.requires.problem c.args.at c.requires.inside c.args.words c.new_in_chunk-fresh.result c.args.planes.now c.add_in_chunk.new.self c.add_in_chunk.ensures.of c.add_in_chunk.ensures.joins
    found.0 found.1 c.args.worklist.now c.wake.new.self
