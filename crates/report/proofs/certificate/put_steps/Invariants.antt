use Rattle.std.proofs.Common.{◌≡◌, ◌++◌, length, take, Ok}
use Rattle.std.specs.List.{flat_map}
use Rattle.sr_text.specs.Lines.{with_line_feed}
use Rattle.certificates.specs.Printed.{head_line}
use Rattle.report.specs.Buffers.{Puts}
use Rattle.report.proofs.Buffered.{step_text}
use Rattle.report.proofs.certificate.put_steps.Given as goal

-- the first line and the steps so far were put
abbrev pub invariant-loop-step : goal.invariant-loop-step
invariant-loop-step g l =
    (length l.bytes ≡ 8449) × Puts g.K.Sink.written g.K.Sink.room g.K.Sink.faults l.initial.out l.out (Ok l.end) l.bytes (with_line_feed head_line ++ flat_map (step_text l.n.names) (take l.step-index l.steps))
