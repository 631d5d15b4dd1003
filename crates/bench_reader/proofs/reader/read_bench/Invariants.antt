use Rattle.std.proofs.Common.{length}
use Rattle.sr_model.specs.Declaration.{declarations_of}
use Rattle.sr_text.specs.Lines.{rest_of}
use Rattle.bench_reader.proofs.Lines.{HasRead}
use Rattle.bench_reader.proofs.reader.read_bench.Given as goal

abbrev pub invariant-loop-line : goal.invariant-loop-line
invariant-loop-line l = HasRead l.fn.bytes (declarations_of l.statements) (rest_of l.lines)

abbrev pub decreases-loop-line : goal.decreases-loop-line
decreases-loop-line l = length (rest_of l.lines)
