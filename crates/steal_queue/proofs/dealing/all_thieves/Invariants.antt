use Rattle.std.proofs.Common.{◌≡◌, ◌+◌, ◌-◌, ◌≤◌, []}
use Rattle.std.specs.Prelude.{replicate, vec_capacity}
use Rattle.steal_queue.specs.Rule.{nothing_drawn}
use Rattle.steal_queue.specs.Sides.{new_side}
use Rattle.steal_queue.proofs.dealing.all_thieves.Given as goal

abbrev pub invariant-loop : goal.invariant-loop
invariant-loop l = record {
  table : l.seat.table_id ≡ l.q.deal.table_id;
  seat : l.seat.me ≡ (nothing_drawn (l.count + 1 - l.counter), []);
  thieves : l.thieves.items ≡ replicate l.counter (new_side l.q.deal);
  room : l.count ≤ vec_capacity l.thieves;
}
