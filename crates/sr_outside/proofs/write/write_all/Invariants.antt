use Rattle.std.proofs.Common.{◌≡◌, ◌≤◌, ◌-◌, length, take}
use Rattle.std.specs.Io.KnownBytes.{append_known}
use Rattle.sr_outside.proofs.write.write_all.Given as goal

abbrev pub invariant-loop-done : goal.invariant-loop-done
invariant-loop-done g l = record {
  bound : l.done ≤ length l.piece;
  written : g.K.Sink.written l.sink
      ≡ append_known (g.K.Sink.written l.fn.sink) (take l.done l.piece);
  untouched : l.done ≡ 0 → l.sink ≡ l.fn.sink;
  faults : g.K.Sink.faults l.sink ≡ g.K.Sink.faults l.fn.sink;
  room : g.K.Sink.room l.sink ≡ g.K.Sink.room l.fn.sink;
}

abbrev pub decreases-loop-done : goal.decreases-loop-done
decreases-loop-done g l = length l.piece - l.done
