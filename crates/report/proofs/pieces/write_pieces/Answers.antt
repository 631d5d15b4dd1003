use Rattle.std.proofs.Common.{take, refl}
use Rattle.report.specs.Joined.{joined}
use Rattle.report.proofs.InTurn.{writes_fault, wrote_both, wrote_none, wrote_whole}
use Rattle.report.proofs.Joined.{texts_at, texts_more}
use Rattle.report.proofs.pieces.write_pieces.Goals as goal

pub loop-piece-init : goal.loop-piece-init
loop-piece-init g c = wrote_none g.K.Sink.written g.K.Sink.room g.K.Sink.faults c.args.out.now

pub loop-piece-preserved : goal.loop-piece-preserved
loop-piece-preserved g c =
    wrote_both g.K.Sink.written g.K.Sink.room g.K.Sink.faults c.args.out.now c.loop-piece.out c.write_text.new.out (joined (take c.loop-piece.piece-index c.args.pieces.now)) _ _
    (texts_more (λ piece. piece.now) c.args.pieces.now c.loop-piece.piece-index _ c.loop-piece-test.true) c.loop-piece.invariant
    (wrote_whole g.K.Sink.written g.K.Sink.room g.K.Sink.faults c.loop-piece.out c.write_text.new.out _ _ c.in-Ok.ensures)

pub returns-in-Err : goal.returns-in-Err
returns-in-Err g c =
    writes_fault g.K.Sink.written g.K.Sink.room g.K.Sink.faults c.args.out.now c.loop-piece.out c.write_text.new.out _ _ _ _ (joined (take c.loop-piece.piece-index c.args.pieces.now)) _ _ _
    refl refl (texts_at (λ piece. piece.now) c.args.pieces.now c.loop-piece.piece-index _ c.loop-piece-test.true) c.loop-piece.invariant c.in-Err.ensures
