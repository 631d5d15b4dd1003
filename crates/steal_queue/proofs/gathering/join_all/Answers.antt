use Rattle.std.proofs.Common.{◌≡◌, ℕ, List, get_or, set, ap, ◌∙◌, arith}
use Rattle.std.proofs.lemmas.List.Edits.{map_over_more}
use Rattle.std.proofs.lemmas.List.Sums.{sum_by_more}
use Rattle.std.specs.List.{sum_by}
use Rattle.steal_queue.specs.Sides.{Side, gathered, one_if}
use Rattle.steal_queue.proofs.SideSums.{still_there}
use Rattle.steal_queue.proofs.gathering.join_all.Goals as goal

pub loop-thief-preserved : goal.loop-thief-preserved
loop-thief-preserved c =
    let xs : List Side = c.args.ts.now in
    let ts : List Side = c.loop-thief.ts in
    let i : ℕ = c.loop-thief.thief-index in
    let d : Side = c.thief-item.result in
    let x : Side = get_or ts i d in
    let before = c.loop-thief.invariant in
    let joined = c.join_one.ensures in
    let lt = c.loop-thief-test.true in
    let there : x ≡ get_or xs i d = still_there xs ts i d lt before.thieves in
    record {
      table = joined.table;
      thieves = ap (set ts i) joined.thief ∙ map_over_more gathered xs ts i x lt before.thieves (ap (get_or ts i) c.thief-item.is);
      sides = omega (arith, joined.sides, before.sides);
      done =
          let more = sum_by_more (λ (t : Side). one_if t.is_done) xs i d lt in
          let same = ap (λ (t : Side). one_if t.is_done) there in
          let one = joined.done in
          let all = before.done in
          omega arith;
      numbers = λ g.
          let more = sum_by_more (λ (t : Side). sum_by g t.took) xs i d lt in
          let same = ap (λ (t : Side). sum_by g t.took) there in
          let one = joined.numbers g in
          let all = before.numbers g in
          omega arith;
    }
