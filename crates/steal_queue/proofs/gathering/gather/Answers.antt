use Rattle.std.proofs.Common.{◌≡◌, ◌++◌, List, length, map, take, drop, ap, sym, ◌∙◌, arith, ⊎_elim}
use Rattle.std.proofs.Math.Seq.{take-append_seam}
use Rattle.std.proofs.lemmas.List.{length-map}
use Rattle.std.specs.List.{sum_by}
use Rattle.steal_queue.specs.Sides.{Side, gathered, one_if, sum_taken}
use Rattle.steal_queue.proofs.NumberSums.{is_it, times_below}
use Rattle.steal_queue.proofs.SideSums.{some_done, gathered_sum}
use Rattle.steal_queue.proofs.gathering.gather.Goals as goal

pub close-requires-clause-done : goal.close-requires-clause-done
close-requires-clause-done c =
    let mine = ap (λ m. m.0.done) c.give_up-seat.ensures.seat in
    let all = c.join_all.ensures.done in
    let same = ap (sum_by (λ (t : Side). one_if t.is_done)) c.as_mut_slice.ensures.value in
    ⊎_elim
    (λ e. let one = ap one_if (ap (λ (s : Side). s.is_done) c.d.view_is ∙ e) in omega arith)
    (λ any. let some = some_done _ any in omega arith)
    c.requires.done

pub returns-clause-sums : goal.returns-clause-sums
returns-clause-sums c g =
    let new : List Side = c.join_all.new.ts in
    let items : List Side = c.args.ts.items in
    let value = c.as_mut_slice.ensures.value in
    let is = c.join_all.ensures.thieves in
    let long = ap (length {A = Side}) is ∙ length-map c.as_mut_slice.result.now gathered ∙ c.as_mut_slice.ensures.len in
    let thieves : take c.args.ts.len (new ++ drop (length new) items) ≡ map gathered items =
    ap (λ n. take n (new ++ drop (length new) items)) (sym long) ∙ take-append_seam new (drop (length new) items) ∙ is ∙ ap (map gathered) value in
    let mine = ap (λ m. sum_by g m.0.numbers) c.give_up-seat.ensures.seat in
    let kept = ap (λ (s : Side). sum_by g s.took) c.give_up-seat.ensures.gathered in
    let joined = c.join_all.ensures.numbers g in
    let same = ap (sum_by (λ (t : Side). sum_by g t.took)) value in
    let rest = gathered_sum g items in
    let all = c.close.ensures.each_once g in
    ap (sum_taken g c.give_up-seat.new.self) thieves ∙ omega arith

pub returns-clause-each_once : goal.returns-clause-each_once
returns-clause-each_once c x = returns-clause-sums c (is_it x) ∙ times_below x c.args.q.deal.chunks
