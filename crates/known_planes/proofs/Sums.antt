-- Sums over numbers one after another, over two lists in either order, and of fewer and more.
use Rattle.std.proofs.Common.{ℕ, zero, suc, ◌≡◌, ◌+◌, ◌<◌, ◌≤◌, Bool, true, false, cond, List, [], ◌∷◌, length, map, get_or, arith, refl, inl, inr, sym, ap, subst, ◌∙◌}
use Rattle.std.specs.List.{sum_by, range_with_len, filter, All, Contains}
use Rattle.std.proofs.lemmas.Bool.{cases_eq}
use Rattle.std.proofs.lemmas.List.Elements.{All-head, All-tail}
use Rattle.std.proofs.lemmas.List.Sums.{sum_by-cons}
use Rattle.sr_model.proofs.lemmas.Members.{not_in_nil, Contains-cases}

zero-plus : (n : ℕ) → 0 + n ≡ n
zero-plus n = omega arith

plus-zero : (n : ℕ) → n + 0 ≡ n
plus-zero n = omega arith

suc-plus : (m n : ℕ) → suc m + n ≡ suc (m + n)
suc-plus m n = omega arith

-- two functions that agree on the numbers
pub sum-agree : (f g : ℕ → ℕ) (a n : ℕ) → ((i : ℕ) → a ≤ i → i < a + n → f i ≡ g i) → sum_by f (range_with_len a n) ≡ sum_by g (range_with_len a n)
sum-agree f g a zero same = refl
sum-agree f g a (suc n) same =
    sum_by-cons f a (range_with_len (a + 1) n)
    ∙ ap (λ m. m + sum_by f (range_with_len (a + 1) n)) (same a (omega arith) (omega arith))
    ∙ ap (λ m. g a + m) (sum-agree f g (a + 1) n (λ i low high. same i (omega arith) (omega arith)))
    ∙ sym (sum_by-cons g a (range_with_len (a + 1) n))

-- the numbers from further on
pub sum-moved : (f : ℕ → ℕ) (by a n : ℕ) → sum_by f (range_with_len (by + a) n) ≡ sum_by (λ i. f (by + i)) (range_with_len a n)
sum-moved f by a zero = refl
sum-moved f by a (suc n) =
    sum_by-cons f (by + a) (range_with_len (by + a + 1) n)
    ∙ ap (λ m. f (by + a) + sum_by f (range_with_len m n)) (plus-assoc by a)
    ∙ ap (λ m. f (by + a) + m) (sum-moved f by (a + 1) n)
    ∙ sym (sum_by-cons (λ i. f (by + i)) a (range_with_len (a + 1) n))
  where
    plus-assoc : (m n : ℕ) → m + n + 1 ≡ m + (n + 1)
    plus-assoc m n = omega arith

-- the numbers in two parts
pub sum-parts : (f : ℕ → ℕ) (a m n : ℕ) → sum_by f (range_with_len a (m + n)) ≡ sum_by f (range_with_len a m) + sum_by f (range_with_len (a + m) n)
sum-parts f a zero n =
    ap (λ k. sum_by f (range_with_len a k)) (zero-plus n) ∙ ap (λ k. sum_by f (range_with_len k n)) (sym (plus-zero a)) ∙ sym (zero-plus (sum_by f (range_with_len (a + 0) n)))
sum-parts f a (suc m) n =
    ap (λ k. sum_by f (range_with_len a k)) (suc-plus m n)
    ∙ sum_by-cons f a (range_with_len (a + 1) (m + n))
    ∙ ap (λ k. f a + k) (sum-parts f (a + 1) m n)
    ∙ ap (λ k. f a + (sum_by f (range_with_len (a + 1) m) + sum_by f (range_with_len k n))) (plus-one a m)
    ∙ plus-assoc (f a) (sum_by f (range_with_len (a + 1) m)) (sum_by f (range_with_len (a + suc m) n))
    ∙ ap (λ k. k + sum_by f (range_with_len (a + suc m) n)) (sym (sum_by-cons f a (range_with_len (a + 1) m)))
  where
    plus-one : (a m : ℕ) → a + 1 + m ≡ a + suc m
    plus-one a m = omega arith

    plus-assoc : (x y z : ℕ) → x + (y + z) ≡ x + y + z
    plus-assoc x y z = omega arith

-- one number more
pub sum-more : (f : ℕ → ℕ) (n : ℕ) → sum_by f (range_with_len 0 (n + 1)) ≡ sum_by f (range_with_len 0 n) + f n
sum-more f n =
    sum-parts f 0 n 1 ∙ ap (λ m. sum_by f (range_with_len 0 n) + m)
    (sum_by-cons f (0 + n) [] ∙ plus-zero (f (0 + n)) ∙ ap f (zero-plus n))

-- all of them 0
pub sum-none : (f : ℕ → ℕ) (a n : ℕ) → ((i : ℕ) → a ≤ i → i < a + n → f i ≡ 0) → sum_by f (range_with_len a n) ≡ 0
sum-none f a zero none = refl
sum-none f a (suc n) none =
    sum_by-cons f a (range_with_len (a + 1) n)
    ∙ ap (λ m. m + sum_by f (range_with_len (a + 1) n)) (none a (omega arith) (omega arith))
    ∙ zero-plus (sum_by f (range_with_len (a + 1) n))
    ∙ sum-none f (a + 1) n (λ i low high. none i (omega arith) (omega arith))

-- two functions that agree on the items
pub sum-agree_on : {X : Type 0} (P : X → Type 0) (f g : X → ℕ) (xs : List X) → All P xs → ((x : X) → P x → f x ≡ g x) → sum_by f xs ≡ sum_by g xs
sum-agree_on P f g [] all same = refl
sum-agree_on P f g (x ∷ xs) all same =
    sum_by-cons f x xs
    ∙ ap (λ m. m + sum_by f xs) (same x (All-head P x xs all))
    ∙ ap (λ m. g x + m) (sum-agree_on P f g xs (All-tail P x xs all) same)
    ∙ sym (sum_by-cons g x xs)

no-sums : {X : Type 0} (xs : List X) → 0 ≡ sum_by (λ x. 0) xs
no-sums [] = refl
no-sums (x ∷ xs) = no-sums xs ∙ sym (zero-plus (sum_by (λ x. 0) xs)) ∙ sym (sum_by-cons (λ x. 0) x xs)

pub two-sums : {X : Type 0} (f g : X → ℕ) (xs : List X) → sum_by f xs + sum_by g xs ≡ sum_by (λ x. f x + g x) xs
two-sums f g [] = refl
two-sums f g (x ∷ xs) =
    ap (λ m. m + sum_by g (x ∷ xs)) (sum_by-cons f x xs) ∙ ap (λ m. f x + sum_by f xs + m) (sum_by-cons g x xs)
    ∙ shuffle (f x) (sum_by f xs) (g x) (sum_by g xs)
    ∙ ap (λ m. f x + g x + m) (two-sums f g xs)
    ∙ sym (sum_by-cons (λ x. f x + g x) x xs)
  where
    shuffle : (a b c d : ℕ) → a + b + (c + d) ≡ a + c + (b + d)
    shuffle a b c d = omega arith

-- two functions that agree
pub sum-same : {X : Type 0} (f g : X → ℕ) (xs : List X) → ((x : X) → f x ≡ g x) → sum_by f xs ≡ sum_by g xs
sum-same f g [] same = refl
sum-same f g (x ∷ xs) same = sum_by-cons f x xs ∙ ap (λ m. m + sum_by f xs) (same x) ∙ ap (λ m. g x + m) (sum-same f g xs same) ∙ sym (sum_by-cons g x xs)

-- a sum of sums in either order
pub sum-turned : {X Y : Type 0} (f : X → Y → ℕ) (xs : List X) (ys : List Y) → sum_by (λ y. sum_by (λ x. f x y) xs) ys ≡ sum_by (λ x. sum_by (f x) ys) xs
sum-turned f xs [] = no-sums xs
sum-turned f xs (y ∷ ys) =
    sum_by-cons (λ y. sum_by (λ x. f x y) xs) y ys
    ∙ ap (λ m. sum_by (λ x. f x y) xs + m) (sum-turned f xs ys)
    ∙ two-sums (λ x. f x y) (λ x. sum_by (f x) ys) xs
    ∙ sum-same (λ x. f x y + sum_by (f x) ys) (λ x. sum_by (f x) (y ∷ ys)) xs (λ x. sym (sum_by-cons (f x) y ys))

-- over the items that a function makes
pub sum-mapped : {X Y : Type 0} (f : Y → ℕ) (g : X → Y) (xs : List X) → sum_by f (map g xs) ≡ sum_by (λ x. f (g x)) xs
sum-mapped f g [] = refl
sum-mapped f g (x ∷ xs) = sum_by-cons f (g x) (map g xs) ∙ ap (λ m. f (g x) + m) (sum-mapped f g xs) ∙ sym (sum_by-cons (λ x. f (g x)) x xs)

-- over the places of a list
pub sum-places : {X : Type 0} (f : X → ℕ) (d : X) (xs : List X) → sum_by f xs ≡ sum_by (λ i. f (get_or xs i d)) (range_with_len 0 (length xs))
sum-places f d [] = refl
sum-places f d (x ∷ xs) =
    sum_by-cons f x xs
    ∙ ap (λ m. f x + m) (sum-places f d xs
    ∙ sum-agree (λ i. f (get_or xs i d)) (λ i. f (get_or (x ∷ xs) (1 + i) d)) 0 (length xs) (λ i low high. ap (λ n. f (get_or (x ∷ xs) n d)) (sym (one-plus i)))
    ∙ sym (sum-moved (λ i. f (get_or (x ∷ xs) i d)) 1 0 (length xs)))
    ∙ sym (sum_by-cons (λ i. f (get_or (x ∷ xs) i d)) 0 (range_with_len 1 (length xs)))
  where
    one-plus : (i : ℕ) → 1 + i ≡ suc i
    one-plus i = omega arith

-- nowhere more
pub sum-le : {X : Type 0} (f g : X → ℕ) → ((x : X) → f x ≤ g x) → (xs : List X) → sum_by f xs ≤ sum_by g xs
sum-le f g below [] = omega arith
sum-le f g below (x ∷ xs) = omega (arith, below x, sum-le f g below xs, sum_by-cons f x xs, sum_by-cons g x xs)

-- and less at one item
pub sum-lt : {X : Type 0} (f g : X → ℕ) → ((x : X) → f x ≤ g x) → (xs : List X) (x : X) → Contains xs x → f x < g x → sum_by f xs < sum_by g xs
sum-lt f g below [] x h less = absurd (not_in_nil x h)
sum-lt f g below (y ∷ xs) x h less =
    elim (Contains-cases y xs x h) [
      | inl e ↦
          let here : f y < g y = subst (λ z. f z < g z) (sym e) less in
          omega (arith, here, sum-le f g below xs, sum_by-cons f y xs, sum_by-cons g y xs)
      | inr later ↦ omega (arith, below y, sum-lt f g below xs x later less, sum_by-cons f y xs, sum_by-cons g y xs)
    ]

-- two functions that agree but for one number
pub sum-but_one : (f g : ℕ → ℕ) (j a n : ℕ) → a ≤ j → j < a + n → ((i : ℕ) → i < a + n → (i ≡ j → ⊥) → f i ≡ g i) → sum_by f (range_with_len a n) + g j ≡ sum_by g (range_with_len a n) + f j
sum-but_one f g j a zero low high same = absurd (omega (arith, low, high))
sum-but_one f g j a (suc n) low high same =
    elim (cases_eq a j) [
      | inl here ↦
          let rest : sum_by f (range_with_len (a + 1) n) ≡ sum_by g (range_with_len (a + 1) n) = sum-agree f g (a + 1) n (λ i above below. same i (omega (arith, below)) (λ e. omega (arith, e, here, above))) in
          omega (arith, sum_by-cons f a (range_with_len (a + 1) n), sum_by-cons g a (range_with_len (a + 1) n), rest, ap f here, ap g here)
      | inr other ↦
          let rest : sum_by f (range_with_len (a + 1) n) + g j ≡ sum_by g (range_with_len (a + 1) n) + f j =
          sum-but_one f g j (a + 1) n (omega (arith, low, other)) (omega (arith, high)) (λ i below apart. same i (omega (arith, below)) apart) in
          omega (arith, sum_by-cons f a (range_with_len (a + 1) n), sum_by-cons g a (range_with_len (a + 1) n), rest, same a (omega arith) other)
    ]

-- over the items that pass a test
pub sum-filtered : {X : Type 0} (f : X → ℕ) (test : X → Bool) (xs : List X) → sum_by f (filter test xs) ≡ sum_by (λ x. cond (test x) (f x) 0) xs
sum-filtered f test [] = refl
sum-filtered f test (x ∷ xs) =
    kept (test x) ∙ ap (λ m. cond (test x) (f x) 0 + m) (sum-filtered f test xs) ∙ sym (sum_by-cons (λ x. cond (test x) (f x) 0) x xs)
  where
    kept : (b : Bool) → sum_by f (cond b (x ∷ filter test xs) (filter test xs)) ≡ cond b (f x) 0 + sum_by f (filter test xs)
    kept true = sum_by-cons f x (filter test xs)
    kept false = sym (zero-plus (sum_by f (filter test xs)))
