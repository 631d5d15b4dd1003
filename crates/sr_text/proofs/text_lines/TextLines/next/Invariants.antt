use Rattle.std.proofs.Common.{◌≡◌, ◌+◌, length}
use Rattle.sr_text.specs.Lines.{numbered_from}
use Rattle.sr_text.proofs.text_lines.TextLines.next.Given as goal

abbrev pub invariant-loop-line : goal.invariant-loop-line
invariant-loop-line l = record {
  same : numbered_from (l.self-inside.passed + 1) l.self-inside.lines ≡ numbered_from (l.fn.self.passed + 1) l.fn.self.lines;
  total : l.self-inside.passed + length l.self-inside.lines ≡ l.fn.self.passed + length l.fn.self.lines;
}

abbrev pub decreases-loop-line : goal.decreases-loop-line
decreases-loop-line l = length l.self-inside.lines
