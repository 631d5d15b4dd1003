use Rattle.std.proofs.Common.{◌≡◌, ◌<◌, ◌≤◌, ◌-◌, true, length}
use Rattle.std.specs.Io.KnownBytes.{Consumes}
use Rattle.sr_outside.proofs.whole.read_rest.Given as goal

abbrev pub invariant-loop-count : goal.invariant-loop-count
invariant-loop-count g l = record {
  live : g.I.Inputs.live l.inputs ≡ true;
  taken : g.I.Inputs.taken l.inputs ≡ length l.bytes.items;
  within : length l.bytes.items ≤ l.limit;
  some : 0 < length l.piece.items;
  size : length l.piece.items ≤ 65536;
  left : Consumes (g.I.Inputs.left l.fn.inputs) (g.I.Inputs.left l.inputs) l.bytes.items;
  starts : g.I.Inputs.starts l.inputs ≡ g.I.Inputs.starts l.fn.inputs;
  last : g.I.Inputs.last l.inputs ≡ g.I.Inputs.last l.fn.inputs;
  held : g.I.Inputs.held l.inputs ≡ g.I.Inputs.held l.fn.inputs;
  shaky : g.I.Inputs.shaky l.inputs ≡ g.I.Inputs.shaky l.fn.inputs;
  faults : g.I.Inputs.faults l.inputs ≡ g.I.Inputs.faults l.fn.inputs;
}

abbrev pub decreases-loop-count : goal.decreases-loop-count
decreases-loop-count g l = l.limit - length l.bytes.items
