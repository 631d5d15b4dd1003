use Rattle.std.proofs.Common.{ℕ, ◌≡◌, ◌<◌, ◌≤◌, [], length}
use Rattle.plain_close.specs.Changes.{changes_in}
use Rattle.plain_close.specs.Levels.{AddsFirst}
use Rattle.plain_close.proofs.log.Level.add.Given as goal

abbrev pub invariant-loop-chunk : goal.invariant-loop-chunk
invariant-loop-chunk l = record {
  adds : AddsFirst l.p l.fn.self.changes.items l.chunk l.all l.fn.self.planes l.self.planes l.self.worklist;
  room : l.self.buffers ≡ l.fn.self.buffers;
  size : length l.self.changes.items ≡ length l.fn.self.changes.items;
  none : (at : ℕ) → at < l.chunk → changes_in l.self.changes.items at ≡ [];
  left : (at : ℕ) → l.chunk ≤ at → changes_in l.self.changes.items at ≡ changes_in l.fn.self.changes.items at;
}
