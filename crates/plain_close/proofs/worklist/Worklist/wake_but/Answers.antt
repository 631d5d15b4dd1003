use Rattle.std.proofs.Common.{refl}
use Rattle.plain_close.proofs.Listing.{woken-pushed_but, woken-within, before-late}
use Rattle.plain_close.proofs.worklist.Worklist.wake_but.Goals as goal

pub add_before-requires-clause-later : goal.add_before-requires-clause-later
add_before-requires-clause-later c = before-late c.args.self.now.records.now c.args.at.sig c.args.at.chunk c.args.fresh c.woken-woken.result.before c.woken-woken.ensures.before

pub add_all_but-requires-clause-signals : goal.add_all_but-requires-clause-signals
add_all_but-requires-clause-signals c =
    woken-within c.requires.of.0 c.requires.of.1 c.args.at c.requires.of.3 c.args.fresh c.args.self.now c.requires.of.2 c.woken-woken.result.here.now c.woken-woken.ensures.here _
    c.add_before.ensures.signals

pub returns : goal.returns
returns c u is of inside =
    woken-pushed_but u is c.args.at inside c.args.fresh c.args.but c.args.self.now (record { records = c.args.self.now.records; waiting = c.add_all_but.new.self }) c.add_before.new.waiting
    c.woken-woken.result.before c.woken-woken.result.here.now of refl c.woken-woken.ensures.before c.woken-woken.ensures.here c.add_before.ensures c.add_all_but.ensures
