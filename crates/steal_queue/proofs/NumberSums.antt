-- Sums over numbers, and over the numbers below a number.
use Rattle.std.proofs.Common.{◌≡◌, ◌≢◌, ℕ, zero, suc, ◌+◌, ◌<◌, ◌≤◌, cond, eqb, List, [], ◌∷◌, length, get_or, refl, ap, ◌∙◌, arith, eq-eqb, ne_eqb}
use mathlib.Core.Logic.{dite}
use native.Mathlib.Decide.{ℕ_discrete, dec_le}
use borrow.Author.Tests.{lt-ltb, le-ltb}
use Rattle.std.specs.List.{All, sum_by}
use Rattle.std.proofs.lemmas.List.Sums.{sum_by-cons, get_or-le-sum_by}
use Rattle.steal_queue.specs.Rule.{sum_below}
use Rattle.steal_queue.specs.Sides.{once_below}

-- 1 where it is x
abbrev pub is_it : ℕ → ℕ → ℕ
is_it x y = cond (eqb y x) 1 0

pub sum_below_more : (g : ℕ → ℕ) (n : ℕ) → sum_below g (n + 1) ≡ sum_below g n + g n
sum_below_more g n = ap (sum_below g) (let e : n + 1 ≡ suc n = omega arith in e)

pub sum_of_ones : {A : Type 0} (xs : List A) → sum_by (λ _. 1) xs ≡ length xs
sum_of_ones [] = refl
sum_of_ones (x ∷ xs) = let rest = sum_of_ones xs in omega (arith, sum_by-cons (λ _. 1) x xs)

pub ones_below : (n : ℕ) → sum_below (λ _. 1) n ≡ n
ones_below zero = refl
ones_below (suc n) = let rest = ones_below n in omega arith

is_one : (x : ℕ) → is_it x x ≡ 1
is_one x = ap (λ b. cond b 1 0) (eq-eqb x x refl)

is_none : (x y : ℕ) → y ≢ x → is_it x y ≡ 0
is_none x y ne = ap (λ b. cond b 1 0) (ne_eqb y x ne)

there_below : (n x : ℕ) → x < n → once_below n x ≡ 1
there_below n x lt = ap (λ b. cond b 1 0) (lt-ltb x n lt)

none_below : (n x : ℕ) → n ≤ x → once_below n x ≡ 0
none_below n x le = ap (λ b. cond b 1 0) (le-ltb x n le)

-- each number below n stands there once
pub times_below : (x n : ℕ) → sum_below (is_it x) n ≡ once_below n x
times_below x zero = let none = none_below 0 x (omega arith) in omega arith
times_below x (suc n) =
    let rest = times_below x n in
    dite (ℕ_discrete n x)
    (λ e. let here : is_it x n ≡ 1 = ap (is_it x) e ∙ is_one x in let before = none_below n x (omega arith) in let now = there_below (suc n) x (omega arith) in omega arith)
    (λ ne.
    let here = is_none x n ne in
    dite (dec_le n x)
    (λ le. let before = none_below n x le in let now = none_below (suc n) x (omega arith) in omega arith)
    (λ gt. let before = there_below n x (omega arith) in let now = there_below (suc n) x (omega arith) in omega arith))

-- numbers of which each is counted at most once below n are below n
pub all_below : (xs : List ℕ) (n : ℕ) → ((x : ℕ) → sum_by (is_it x) xs ≤ sum_below (is_it x) n) → All (λ x. x < n) xs
all_below xs n few k d lt =
    let x : ℕ = get_or xs k d in
    let one = is_one x in
    let counted = get_or-le-sum_by (is_it x) xs k d lt in
    let some = few x in
    let all = times_below x n in
    dite (dec_le n x) (λ le. let none = none_below n x le in absurd (omega arith)) (λ gt. omega arith)
