use Rattle.std.proofs.Common.{◌≡◌, ℕ, ◌+◌, take, drop, map, ◌++◌}
use Rattle.std.specs.List.{sum_by}
use Rattle.steal_queue.specs.Sides.{Side, gathered, one_if}
use Rattle.steal_queue.proofs.gathering.join_all.Given as goal

abbrev pub invariant-loop-thief : goal.invariant-loop-thief
invariant-loop-thief l = record {
  table : l.seat.table_id ≡ l.q.deal.table_id;
  thieves : l.ts ≡ map gathered (take l.thief-index l.initial.ts) ++ drop l.thief-index l.initial.ts;
  sides : l.seat.me.0.sides ≡ l.initial.seat.me.0.sides + l.thief-index;
  done : l.seat.me.0.done ≡ l.initial.seat.me.0.done + sum_by (λ (t : Side). one_if t.is_done) (take l.thief-index l.initial.ts);
  numbers : (g : ℕ → ℕ) → sum_by g l.seat.me.0.numbers ≡ sum_by g l.initial.seat.me.0.numbers + sum_by (λ (t : Side). sum_by g t.took) (take l.thief-index l.initial.ts);
}
