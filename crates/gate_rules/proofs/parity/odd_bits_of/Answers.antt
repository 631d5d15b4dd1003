use Rattle.std.proofs.Common.{◌≡◌, ℕ, ◌+◌, ◌&&◌, Bool, true, false, List, ◌∷◌, map, eqb, sym, subst, refl, ap, ◌∙◌}
use Rattle.std.specs.List.{list_all}
use Rattle.unroll.specs.declared.words.PinWord.{PinWord}
use Rattle.gate_rules.specs.declared.parity.OddBits.{OddBits}
use Rattle.gate_rules.specs.Lanes.{words_at_place}
use Rattle.gate_rules.specs.OddPlaces.{counts, counting, IsOddBits}
use Rattle.gate_rules.proofs.Counting.{counting_more, counting_same}
use Rattle.gate_rules.proofs.LaneWords.{none_counted}
use Rattle.gate_rules.proofs.parity.odd_bits_of.Goals as goal
use Rattle.gate_rules.proofs.parity.odd_bits_of.Goals.{then-place_counts, else-place_counts}

pub loop-j-init : goal.loop-j-init
loop-j-init c = record {
  tally = λ lane within. none_counted lane;
  lone = refl;
}

pub loop-j-preserved : goal.loop-j-preserved
loop-j-preserved c =
    let target : ℕ = c.args.target in
    let odd : List Bool = c.args.odd.now in
    let view : List PinWord = c.args.view.now in
    let j : ℕ = c.loop-j.j in
    let t : OddBits = c.if-place_counts.tally in
    elim c.if-place_counts.branch [
      | then-place_counts w ↦
          let count : counts target odd j ≡ true = sym c.place_counts.ensures ∙ w.if-place_counts.true in
          let more : j ∷ counting target odd j ≡ counting target odd (j + 1) = sym (counting_more target odd j count) in
          record {
            tally = λ lane within. subst (λ js. IsOddBits lane (map (words_at_place view) js) t) more
                (subst (IsOddBits lane (map (words_at_place view) (j ∷ counting target odd j))) (sym w.tally-is)
                (w.with-tally.ensures.tally lane (map (words_at_place view) (counting target odd j)) within (c.loop-j.invariant.tally lane within)));
            lone = ap (λ (x : OddBits). x.lone) w.tally-is ∙ w.with-tally.ensures.lone ∙ ap (λ b. eqb j target && b) c.loop-j.invariant.lone
                ∙ ap (list_all (λ k. eqb k target)) more;
          }
      | else-place_counts w ↦
          let count : counts target odd j ≡ false = sym c.place_counts.ensures ∙ w.if-place_counts.false in
          let same : counting target odd j ≡ counting target odd (j + 1) = sym (counting_same target odd j count) in
          record {
            tally = λ lane within. subst (λ js. IsOddBits lane (map (words_at_place view) js) t) same
                (subst (IsOddBits lane (map (words_at_place view) (counting target odd j))) (sym w.tally-is) (c.loop-j.invariant.tally lane within));
            lone = ap (λ (x : OddBits). x.lone) w.tally-is ∙ c.loop-j.invariant.lone ∙ ap (list_all (λ k. eqb k target)) same;
          }
    ]
