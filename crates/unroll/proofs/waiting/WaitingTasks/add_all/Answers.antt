use Rattle.std.proofs.Common.{take, get_or, sym, subst}
use Rattle.std.proofs.lemmas.List.{take_more}
use Rattle.unroll.specs.Waiting.{Adds}
use Rattle.unroll.proofs.WaitingWords.{adds-more}
use Rattle.unroll.proofs.waiting.WaitingTasks.add_all.Goals as goal

pub loop-sig-preserved : goal.loop-sig-preserved
loop-sig-preserved c =
    subst (λ ts. Adds ts c.args.chunk c.args.self.now c.add.new.self) (sym (take_more c.args.targets.now c.loop-sig.sig-index (record { 0 = 0 }) c.loop-sig-test.true))
    (adds-more (take c.loop-sig.sig-index c.args.targets.now) (get_or c.args.targets.now c.loop-sig.sig-index (record { 0 = 0 })) c.args.chunk
    c.args.self.now c.loop-sig.self c.add.new.self c.loop-sig.invariant c.add.ensures)
