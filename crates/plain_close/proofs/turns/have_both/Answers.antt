use Rattle.plain_close.proofs.Unknown.{each-none, each-some}
use Rattle.plain_close.proofs.turns.have_both.Goals as goal

pub returns-clause-none : goal.returns-clause-none
returns-clause-none c none = each-none c.args.known c.args.out c.union.result c.both-both.result c.union.ensures.bits c.both-both.ensures (none)

pub returns-clause-some : goal.returns-clause-some
returns-clause-some c some = each-some c.args.known c.args.out c.union.result c.both-both.result c.union.ensures.bits c.both-both.ensures some c.both-both.type_inv
