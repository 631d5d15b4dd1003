-- Each step keeps the rule of the shared word.
use Rattle.std.proofs.Common.{◌≡◌, ◌≢◌, ℕ, zero, suc, ◌+◌, ◌-◌, ◌%◌, ◌<◌, ◌≤◌, ◌^◌, min, Bool, true, false, nat_lt, List, [], ◌∷◌, ◌++◌, length, set, refl, sym, ap, ◌∙◌, arith, subst, ⊎_elim, length-set, get_or-set_same}
use mathlib.Core.Option.{some, some-injective, some-ne-none}
use mathlib.Core.Logic.{dite}
use native.Mathlib.Decide.{ℕ_discrete}
use lib.ListN.{get_elem?}
use borrow.Author.Tests.{ltb-true, ltb-false}
use Rattle.std.specs.Prelude.{slice_index}
use Rattle.std.specs.List.{All, sum_by}
use Rattle.std.proofs.lemmas.List.{set-get_or}
use Rattle.std.proofs.lemmas.List.Sums.{sum_by-append, sum_by_push}
use Rattle.atomic_table.specs.Table.{State, Me, keeps, stepped, opening, Allows, Splits, Joins}
use Rattle.atomic_table.proofs.Lists.{at_set, at_snoc, set_again}
use Rattle.steal_queue.specs.declared.rule.DealSize.{DealSize}
use Rattle.steal_queue.specs.declared.rule.Drawn.{Drawn}
use Rattle.steal_queue.specs.Rule.{nothing_drawn, all_sides, one_less, together, drew_if, drew, sum_below, Knows, IsDealt}
use Rattle.steal_queue.proofs.Sums.{sum_replaced, at_most_sum, sums_ordered, sum_alone, two_of_sum}
use Rattle.steal_queue.proofs.NumberSums.{sum_below_more, sum_of_ones, ones_below, all_below, is_it}

abbrev Table : Type 0
Table = State (Unit {0}) Drawn

-- so no draw passes the end of the word
word_is_low : (size : DealSize) (s : Table) → IsDealt size s → slice_index s.words 0 ≤ size.chunks + size.sides
word_is_low size s d =
    let low = d.low in
    let whole = d.whole in
    let few = sums_ordered (λ (v : Drawn). v.done) (λ (v : Drawn). v.sides) s.views (λ j v e. (d.seats j v e).few) in
    omega arith

module _ (size : DealSize) (slots id : ℕ) (me : Me (Unit {0}) Drawn) (undone : me.0.done ≡ 0) (some_side : 0 < me.0.sides) (few : size.sides ≤ 16) (small : size.chunks < 2 ^ 32) where
  module _ (s : Table) (d : IsDealt size s) (at : get_elem? s.views id ≡ some me.0) where
    abbrev next : ℕ
    next = slice_index s.words 0

    -- the word is raised, and the seat knows w
    raised : (w : Drawn)
        → ((g : ℕ → ℕ) → sum_by g w.numbers + sum_below g (min next size.chunks) ≡ sum_by g me.0.numbers + sum_below g (min (next + 1) size.chunks))
        → w.done ≤ 1
        → (w.done ≡ 0 → next + 1 ≤ size.chunks)
        → w.sides ≡ me.0.sides
        → (0 < w.done → size.chunks ≤ next)
        → IsDealt size (stepped s 0 (next + 1) id me.1 w keeps)
    raised w weighs done draws same empty =
        let word_in : 0 < length s.words = let e = d.one_word in omega arith in
        let here : slice_index (set s.words 0 (next + 1)) 0 ≡ next + 1 = get_or-set_same s.words 0 (next + 1) 0 word_in in
        record {
          one_word = length-set s.words 0 (next + 1) ∙ d.one_word;
          each_once = λ g.
              let sums = sum_replaced (λ (v : Drawn). sum_by g v.numbers) s.views id me.0 w at in
              let old = d.each_once g in
              let new = weighs g in
              (let all : sum_by (λ (v : Drawn). sum_by g v.numbers) (set s.views id w) ≡ sum_below g (min (next + 1) size.chunks) = omega arith in all) ∙ ap (λ n. sum_below g (min n size.chunks)) (sym here);
          low =
              let sums = sum_replaced (λ (v : Drawn). v.done) s.views id me.0 w at in
              let old = d.low in
              subst (λ n. n ≤ size.chunks + sum_by (λ (v : Drawn). v.done) (set s.views id w)) (sym here) (dite (ℕ_discrete w.done 0) (λ z. let e = draws z in omega arith) (λ ne. omega arith));
          whole = let sums = sum_replaced (λ (v : Drawn). v.sides) s.views id me.0 w at in let old = d.whole in omega arith;
          seats = λ j u e.
              subst (λ n. Knows n size u) (sym here)
              (⊎_elim
              (λ (t : (j ≡ id) × (w ≡ u)). subst (Knows (next + 1) size) t.1 (record { empty = λ e. (let h = empty e in omega arith); idle = λ z. absurd (omega arith); few = omega arith }))
              (λ (t : (j ≢ id) × (get_elem? s.views j ≡ some u)). let old = d.seats j u t.1 in record { empty = λ e. (let h = old.empty e in omega arith); idle = old.idle; few = old.few })
              (at_set s.views id j w u e));
        }

    drawn : (b : Bool) → nat_lt next size.chunks ≡ b → IsDealt size (stepped s 0 (next + 1) id me.1 (drew_if b next me.0) keeps)
    drawn true is =
        let left : next < size.chunks = ltb-true next size.chunks is in
        let a : min next size.chunks ≡ next = omega arith in
        let b : min (next + 1) size.chunks ≡ next + 1 = omega arith in
        raised (drew_if true next me.0)
        (λ g. let p = sum_by_push g me.0.numbers next in let m = sum_below_more g next in let u = ap (sum_below g) a in let v = ap (sum_below g) b in omega arith)
        (omega arith)
        (λ _. omega arith)
        refl
        (λ e. absurd (omega arith))
    drawn false is =
        let gone : size.chunks ≤ next = ltb-false next size.chunks is in
        let a : min next size.chunks ≡ min (next + 1) size.chunks = omega arith in
        raised (drew_if false next me.0)
        (λ g. ap (λ n. sum_by g me.0.numbers + sum_below g n) a)
        (omega arith)
        (λ e. absurd (omega arith))
        refl
        (λ _. gone)

    -- what the seat drew before is below the word
    mine_below : All (λ x. x < min next size.chunks) me.0.numbers
    mine_below =
        let once : (x : ℕ) → sum_by (is_it x) me.0.numbers ≤ sum_below (is_it x) (min next size.chunks) = λ x.
        (let mine = at_most_sum (λ (v : Drawn). sum_by (is_it x) v.numbers) s.views id me.0 at in let all = d.each_once (is_it x) in omega arith) in
        all_below me.0.numbers (min next size.chunks) once

    -- and with the next number it has no more than there are
    enough : (b : Bool) → nat_lt next size.chunks ≡ b → length (drew_if b next me.0).numbers ≤ size.chunks
    enough b is =
        let w : Drawn = drew_if b next me.0 in
        let after = drawn b is in
        let one = sum_replaced (λ (v : Drawn). sum_by (λ _. 1) v.numbers) s.views id me.0 w at in
        let all = after.each_once (λ _. 1) in
        let many = sum_of_ones w.numbers in
        let n = ones_below (min (slice_index (set s.words 0 (next + 1)) 0) size.chunks) in
        let mine = at_most_sum (λ (v : Drawn). sum_by (λ _. 1) v.numbers) s.views id me.0 at in
        omega arith

  pub draws : Allows (IsDealt size) slots id me 0 (λ n. (n + 1) % 2 ^ 64)
      (λ found me'. (me' ≡ (drew size.chunks found me.0, me.1)) × All (λ x. x < found) me.0.numbers × (length me'.0.numbers ≤ size.chunks))
  draws s d _ at _ =
      let n : ℕ = slice_index s.words 0 in
      let low = word_is_low size s d in
      let fits : n + 1 ≡ (n + 1) % 2 ^ 64 = omega arith in
      let after = drawn s d at (nat_lt n size.chunks) refl in
      let below = mine_below s d at in (
        drew size.chunks n me.0,
        keeps,
        tt,
        subst (λ (x : ℕ). IsDealt size (stepped s 0 x id me.1 (drew size.chunks n me.0) keeps)) fits after,
        (refl, (λ k x lt. let b = below k x lt in omega arith), enough s d at (nat_lt n size.chunks) refl),
      )

pub looks : (size : DealSize) (slots id : ℕ) (me : Me (Unit {0}) Drawn) → 0 < me.0.done → Allows (IsDealt size) slots id me 0 (λ n. n) (λ found me'. (me' ≡ me) × (size.chunks ≤ found))
looks size slots id me done s d _ at _ =
    let same : stepped s 0 (slice_index s.words 0) id me.1 me.0 keeps ≡ s = λ i. record { words = set-get_or s.words 0 0 i; homes = s.homes; views = set_again s.views id me.0 at i } in
    (me.0, keeps, tt, subst (IsDealt size) (sym same) d, (refl, (d.seats id me.0 at).empty done))

pub opens : (size : DealSize) → IsDealt size (opening (0 ∷ []) [] (all_sides size))
opens size = record {
  one_word = refl;
  each_once = λ g. sym (ap (sum_below g) (let e : min 0 size.chunks ≡ 0 = omega arith in e));
  low = omega arith;
  whole = omega arith;
  seats = first;
}
  where
    first : (j : ℕ) (v : Drawn) → get_elem? (all_sides size ∷ []) j ≡ some v → Knows 0 size v
    first zero v e = subst (Knows 0 size) (some-injective _ _ e) (record { empty = λ h. absurd (omega arith); idle = λ _. refl; few = omega arith })
    first (suc j) v e = absurd (some-ne-none v (sym e))

-- a view becomes two that know as much together
parts : (size : DealSize) (id : ℕ) (v left right : Drawn) → together left right ≡ v
    → ((next : ℕ) → Knows next size v → Knows next size left × Knows next size right) → Splits (IsDealt size) id v left right
parts size id v left right is know s d at =
    let two = know (slice_index s.words 0) (d.seats id v at) in
    let same : (f : Drawn → ℕ) → f left + f right ≡ f v → sum_by f (set s.views id left ++ right ∷ []) ≡ sum_by f s.views = λ f e.
    (let sums = sum_replaced f s.views id v left at in let push = sum_by_push f (set s.views id left) right in omega arith) in record {
      one_word = d.one_word;
      each_once = λ g. same (λ u. sum_by g u.numbers) (sym (sum_by-append g left.numbers right.numbers) ∙ ap (λ (u : Drawn). sum_by g u.numbers) is) ∙ d.each_once g;
      low = let e = same (λ u. u.done) (ap (λ (u : Drawn). u.done) is) in let old = d.low in omega arith;
      whole = same (λ u. u.sides) (ap (λ (u : Drawn). u.sides) is) ∙ d.whole;
      seats = λ j u e.
          ⊎_elim
          (λ (there : get_elem? (set s.views id left) j ≡ some u).
          ⊎_elim
          (λ (t : (j ≡ id) × (left ≡ u)). subst (Knows (slice_index s.words 0) size) t.1 two.0)
          (λ (t : (j ≢ id) × (get_elem? s.views j ≡ some u)). d.seats j u t.1)
          (at_set s.views id j left u there))
          (λ (new : right ≡ u). subst (Knows (slice_index s.words 0) size) new two.1)
          (at_snoc (set s.views id left) right u j e);
    }

fresh : (size : DealSize) (next n : ℕ) → Knows next size (nothing_drawn n)
fresh size next n = record { empty = λ h. absurd (omega arith); idle = λ _. refl; few = omega arith }

pub splits : (size : DealSize) (id n : ℕ) → 1 < n → Splits (IsDealt size) id (nothing_drawn n) (one_less (nothing_drawn n)) (nothing_drawn 1)
splits size id n many = parts size id (nothing_drawn n) (nothing_drawn (n - 1)) (nothing_drawn 1) (ap nothing_drawn (omega arith)) (λ next k. (fresh size next (n - 1), fresh size next 1))

pub takes_over : (size : DealSize) (id : ℕ) (v : Drawn) → Splits (IsDealt size) id v (nothing_drawn 0) v
takes_over size id v =
    let sides : 0 + v.sides ≡ v.sides = omega arith in
    let done : 0 + v.done ≡ v.done = omega arith in
    parts size id v (nothing_drawn 0) v (λ i. record { sides = sides i; done = done i; numbers = v.numbers }) (λ next k. (fresh size next 0, k))

pub joins : (size : DealSize) (id : ℕ) (v : Drawn) (other : ℕ) (w : Drawn) → 0 < v.sides → Joins (IsDealt size) id v other w (together v w) (nothing_drawn 0)
joins size id v other w some_side s d at apart there =
    let next : ℕ = slice_index s.words 0 in
    let mine = d.seats id v at in
    let now : Drawn = together v w in
    let views : List Drawn = set s.views id now in
    let theirs : Knows next size w =
    ⊎_elim
    (λ (t : (other ≡ id) × (now ≡ w)). absurd (apart t.0))
    (λ (t : (other ≢ id) × (get_elem? s.views other ≡ some w)). d.seats other w t.1)
    (at_set s.views id other now w there) in
    let same : (f : Drawn → ℕ) → f now ≡ f v + f w → f (nothing_drawn 0) ≡ 0 → sum_by f (set views other (nothing_drawn 0)) ≡ sum_by f s.views = λ f e z.
    (let one = sum_replaced f s.views id v now at in let two = sum_replaced f views other w (nothing_drawn 0) there in omega arith) in record {
      one_word = d.one_word;
      each_once = λ g. same (λ u. sum_by g u.numbers) (sum_by-append g v.numbers w.numbers) refl ∙ d.each_once g;
      low = let e = same (λ u. u.done) refl refl in let old = d.low in omega arith;
      whole = same (λ u. u.sides) refl refl ∙ d.whole;
      seats = λ j u e.
          ⊎_elim
          (λ (t : (j ≡ other) × (nothing_drawn 0 ≡ u)). subst (Knows next size) t.1 (fresh size next 0))
          (λ (t : (j ≢ other) × (get_elem? views j ≡ some u)).
          ⊎_elim
          (λ (x : (j ≡ id) × (now ≡ u)). subst (Knows next size) x.1 (record {
            empty = λ h. dite (ℕ_discrete v.done 0) (λ z. theirs.empty (omega arith)) (λ ne. mine.empty (omega arith));
            idle = λ z. absurd (omega arith);
            few = let a = mine.few in let b = theirs.few in omega arith;
          }))
          (λ (x : (j ≢ id) × (get_elem? s.views j ≡ some u)). d.seats j u x.1)
          (at_set s.views id j now u t.1))
          (at_set views other j (nothing_drawn 0) u e);
    }

-- a seat that stands for all sides, and found the queue empty, drew each number once
pub drew_all : (size : DealSize) (s : Table) → IsDealt size s → (id : ℕ) (v : Drawn) → get_elem? s.views id ≡ some v → v.sides ≡ size.sides → 0 < v.done
    → (g : ℕ → ℕ) → sum_by g v.numbers ≡ sum_below g size.chunks
drew_all size s d id v at all done g =
    let gone = (d.seats id v at).empty done in
    let alone = sum_alone (λ (u : Drawn). sum_by g u.numbers) s.views id v at (λ j u ne e.
    let two = two_of_sum (λ (y : Drawn). y.sides) s.views id j v u ne at e in
    let whole = d.whole in
    let spent : u.sides ≡ 0 = omega arith in
    ap (sum_by g) ((d.seats j u e).idle spent)) in
    let is : min (slice_index s.words 0) size.chunks ≡ size.chunks = omega arith in
    sym alone ∙ d.each_once g ∙ ap (sum_below g) is
