use Rattle.plain_close.proofs.AddedLevels.{goes-to_next}
use Rattle.plain_close.proofs.log.Level.advance.Goals as goal

pub returns : goal.returns
returns c base level is = goes-to_next c.args.p.now base level c.args.self.now c.list.new.self c.add.new.self c.add.result is c.in_ok-list.ensures c.add.ensures c.args.steps.now.items c.log.new.steps.items c.in_ok-log.ensures
