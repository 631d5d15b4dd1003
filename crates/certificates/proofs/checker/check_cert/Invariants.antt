use Rattle.std.proofs.Common.{length}
use Rattle.sr_text.specs.Lines.{rest_of, past}
use Rattle.certificates.proofs.ReadSoFar.{HasRead}
use Rattle.certificates.proofs.checker.check_cert.Given as goal

abbrev pub invariant-loop-line : goal.invariant-loop-line
invariant-loop-line l = HasRead l.n l.d l.bytes l.p (rest_of l.lines) (past l.lines) l.known l.lits.items

abbrev pub decreases-loop-line : goal.decreases-loop-line
decreases-loop-line l = length (rest_of l.lines)
