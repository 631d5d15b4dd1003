use Rattle.plain_close.proofs.Stirring.{settled-stirred}
use Rattle.plain_close.proofs.worklist.Worklist.of_planes.Goals as goal

pub returns-clause-settled : goal.returns-clause-settled
returns-clause-settled c =
    settled-stirred c.args.p.now c.args.planes.now c.in_ok-worklist.ensures.problem c.requires.of c.in_ok-worklist.worklist c.add_constants.new.self c.add_known.new.self c.in_ok-add_constants.ensures c.add_known.ensures
