use Rattle.plain_close.proofs.Adding.{closed_again}
use Rattle.plain_close.proofs.tests.closing.closes_more.Goals as goal

pub close_more-requires-clause-closed : goal.close_more-requires-clause-closed
close_more-requires-clause-closed g c = closed_again c.new-p.result c.in_ok-closed.closed c.in_ok-base.base c.in_ok-closed.ensures.closure
