use Rattle.std.proofs.Common.{take}
use Rattle.report.specs.Joined.{joined}
use Rattle.report.proofs.InTurn.{Wrote}
use Rattle.report.proofs.pieces.write_pieces.Given as goal

-- the pieces so far were written
abbrev pub invariant-loop-piece : goal.invariant-loop-piece
invariant-loop-piece g l = Wrote g.K.Sink.written g.K.Sink.room g.K.Sink.faults l.initial.out l.out (joined (take l.piece-index l.pieces))
