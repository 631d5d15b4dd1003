-- Lists of sides, and sums over them.
use Rattle.std.proofs.Common.{◌≡◌, ℕ, ◌<◌, true, List, [], ◌∷◌, ◌++◌, length, get_or, map, take, drop, refl, ap, ◌∙◌, arith}
use Rattle.std.specs.List.{Any, sum_by}
use Rattle.std.proofs.lemmas.List.{drop_more, get_or_at, length-map, length-take}
use Rattle.std.proofs.lemmas.List.Sums.{sum_by-cons, get_or-le-sum_by}
use Rattle.steal_queue.specs.Sides.{Side, gathered, one_if}

-- a side that is still to come, where those before it are gathered
pub still_there : (sides now : List Side) (i : ℕ) (d : Side) → i < length sides → now ≡ map gathered (take i sides) ++ drop i sides → get_or now i d ≡ get_or sides i d
still_there sides now i d lt is =
    let front = map gathered (take i sides) in
    let long : length front ≡ i = length-map (take i sides) gathered ∙ omega (arith, length-take i sides) in
    ap (λ l. get_or l i d) (is ∙ ap (λ l. front ++ l) (drop_more sides i d lt)) ∙ get_or_at front _ _ d i long

-- where one is done, some are
pub some_done : (sides : List Side) → Any (λ s. s.is_done ≡ true) sides → 0 < sum_by (λ s. one_if s.is_done) sides
some_done sides any =
    let k = any.0 in
    let s = any.1 in
    let one : one_if (get_or sides k s).is_done ≡ 1 = ap (λ (x : Side). one_if x.is_done) any.3 ∙ ap one_if any.4 in
    let counted = get_or-le-sum_by (λ (x : Side). one_if x.is_done) sides k s any.2 in
    omega arith

pub gathered_sum : (g : ℕ → ℕ) (sides : List Side) → sum_by (λ s. sum_by g s.took) (map gathered sides) ≡ sum_by (λ s. sum_by g s.took) sides
gathered_sum g [] = refl
gathered_sum g (s ∷ ss) =
    let f : Side → ℕ = λ x. sum_by g x.took in
    let rest = gathered_sum g ss in
    omega (arith, sum_by-cons f s ss, sum_by-cons f (gathered s) (map gathered ss), rest)
