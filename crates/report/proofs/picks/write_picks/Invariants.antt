use Rattle.std.proofs.Common.{take}
use Rattle.report.specs.Picks.{pick_lines}
use Rattle.report.proofs.InTurn.{Wrote}
use Rattle.report.proofs.picks.write_picks.Given as goal

-- the lines so far were written
abbrev pub invariant-loop-pick : goal.invariant-loop-pick
invariant-loop-pick g l = Wrote g.K.Sink.written g.K.Sink.room g.K.Sink.faults l.initial.out l.out (pick_lines l.n.names (take l.pick-index l.picks.items))
