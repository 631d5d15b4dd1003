use Rattle.plain_close.proofs.Listing.{adds-before, adds-not}
use Rattle.plain_close.proofs.worklist.add_before.Goals as goal

pub returns-then-before : goal.returns-then-before
returns-then-before c = adds-before c.args.at c.args.before c.args.waiting.now c.add.new.self c.if-before.true c.add.ensures

pub returns-else-before : goal.returns-else-before
returns-else-before c = adds-not c.args.at c.args.before c.args.waiting.now c.if-before.false
