use Rattle.std.proofs.Common.{length}
use Rattle.sr_text.specs.Lines.{rest_of}
use Rattle.dump_reader.proofs.ReadSoFar.{HasRead}
use Rattle.dump_reader.proofs.reader.read_dump.Given as goal

abbrev pub invariant-loop-line : goal.invariant-loop-line
invariant-loop-line l = HasRead l.n.names (length l.n.drivers) l.bytes l.dump (rest_of l.lines)

abbrev pub decreases-loop-line : goal.decreases-loop-line
decreases-loop-line l = length (rest_of l.lines)
