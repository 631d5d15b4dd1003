use Rattle.std.proofs.Common.{arith}
use Rattle.std.proofs.lemmas.Grind.{common_steps}
use Rattle.sr_outside.proofs.Appended.{append_known-take}
use Rattle.sr_outside.proofs.write.write_all.Goals as goal

pub loop-done-preserved : goal.loop-done-preserved
loop-done-preserved g c = record {
  bound = grind (arith, common_steps);
  written = append_known-take _ _ _ _ _ _ c.loop-done.invariant.written c.in-Ok.ensures.appended;
  untouched = grind (arith, common_steps);
  faults = grind (arith, common_steps);
  room = grind (arith, common_steps);
}
