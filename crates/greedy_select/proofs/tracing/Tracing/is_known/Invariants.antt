use Rattle.greedy_select.proofs.Rows.{HaveFirst}
use Rattle.greedy_select.proofs.tracing.Tracing.is_known.Given as goal

abbrev pub invariant-loop-chunk : goal.invariant-loop-chunk
invariant-loop-chunk l = HaveFirst l.self.p l.planes l.sig l.row l.chunk
