-- Sums over the views of a table, which are read by their places.
use Rattle.std.proofs.Common.{◌≡◌, ◌≢◌, ℕ, zero, suc, ◌+◌, ◌≤◌, List, [], ◌∷◌, set, refl, sym, ap, arith}
use mathlib.Core.Option.{some, some-injective, some-ne-none}
use lib.ListN.{get_elem?}
use Rattle.std.specs.List.{sum_by}
use Rattle.std.proofs.lemmas.List.Sums.{sum_by-cons}

module _ {A : Type 0} (f : A → ℕ) where
  -- the sum after one view is replaced
  pub sum_replaced : (l : List A) (i : ℕ) (v w : A) → get_elem? l i ≡ some v → sum_by f (set l i w) + f v ≡ sum_by f l + f w
  sum_replaced [] i v w e = absurd (some-ne-none v (sym e))
  sum_replaced (x ∷ xs) zero v w e = let is : f x ≡ f v = ap f (some-injective x v e) in omega (arith, sum_by-cons f x xs, sum_by-cons f w xs)
  sum_replaced (x ∷ xs) (suc i) v w e = let rest = sum_replaced xs i v w e in omega (arith, sum_by-cons f x xs, sum_by-cons f x (set xs i w), rest)

  pub at_most_sum : (l : List A) (i : ℕ) (v : A) → get_elem? l i ≡ some v → f v ≤ sum_by f l
  at_most_sum [] i v e = absurd (some-ne-none v (sym e))
  at_most_sum (x ∷ xs) zero v e = let is : f x ≡ f v = ap f (some-injective x v e) in omega (arith, sum_by-cons f x xs)
  at_most_sum (x ∷ xs) (suc i) v e = let rest = at_most_sum xs i v e in omega (arith, sum_by-cons f x xs, rest)

  pub sums_ordered : (g : A → ℕ) (l : List A) → ((j : ℕ) (v : A) → get_elem? l j ≡ some v → f v ≤ g v) → sum_by f l ≤ sum_by g l
  sums_ordered g [] each = omega arith
  sums_ordered g (x ∷ xs) each =
      let here = each 0 x refl in
      let rest = sums_ordered g xs (λ j v e. each (suc j) v e) in
      omega (arith, sum_by-cons f x xs, sum_by-cons g x xs)

  nothing_there : (l : List A) → ((j : ℕ) (u : A) → get_elem? l j ≡ some u → f u ≡ 0) → sum_by f l ≡ 0
  nothing_there [] none = refl
  nothing_there (x ∷ xs) none = let here = none 0 x refl in let rest = nothing_there xs (λ j u e. none (suc j) u e) in omega (arith, sum_by-cons f x xs)

  -- the sum where f is 0 of all other views
  pub sum_alone : (l : List A) (i : ℕ) (v : A) → get_elem? l i ≡ some v → ((j : ℕ) (u : A) → j ≢ i → get_elem? l j ≡ some u → f u ≡ 0) → sum_by f l ≡ f v
  sum_alone [] i v e none = absurd (some-ne-none v (sym e))
  sum_alone (x ∷ xs) zero v e none =
      let is : f x ≡ f v = ap f (some-injective x v e) in
      let rest = nothing_there xs (λ j u at. none (suc j) u (λ h. omega arith) at) in
      omega (arith, sum_by-cons f x xs)
  sum_alone (x ∷ xs) (suc i) v e none =
      let here = none 0 x (λ h. omega arith) refl in
      let rest = sum_alone xs i v e (λ j u ne at. none (suc j) u (λ h. ne (omega arith)) at) in
      omega (arith, sum_by-cons f x xs)

  pub two_of_sum : (l : List A) (i j : ℕ) (v u : A) → j ≢ i → get_elem? l i ≡ some v → get_elem? l j ≡ some u → f v + f u ≤ sum_by f l
  two_of_sum [] i j v u ne e d = absurd (some-ne-none v (sym e))
  two_of_sum (x ∷ xs) zero zero v u ne e d = absurd (ne refl)
  two_of_sum (x ∷ xs) zero (suc j) v u ne e d = let is : f x ≡ f v = ap f (some-injective x v e) in let rest = at_most_sum xs j u d in omega (arith, sum_by-cons f x xs)
  two_of_sum (x ∷ xs) (suc i) zero v u ne e d = let is : f x ≡ f u = ap f (some-injective x u d) in let rest = at_most_sum xs i v e in omega (arith, sum_by-cons f x xs)
  two_of_sum (x ∷ xs) (suc i) (suc j) v u ne e d = let rest = two_of_sum xs i j v u (λ h. ne (omega arith)) e d in omega (arith, sum_by-cons f x xs)
