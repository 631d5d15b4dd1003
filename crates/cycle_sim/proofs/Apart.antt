-- Lists in which each item stands once.
use Rattle.std.proofs.Common.{ℕ, suc, ◌≡◌, ◌≢◌, ◌+◌, ◌<◌, ◌≤◌, List, [], ◌∷◌, ◌++◌, length, get_or, map, take, drop, inl, inr, sym, ap, subst, ◌∙◌, arith}
use Rattle.std.specs.List.{All, AllPairs, Contains, range_with_len}
use Rattle.std.proofs.Math.Seq.{split_at}
use Rattle.std.proofs.lemmas.List.{length-append}
use Rattle.std.proofs.lemmas.List.Elements.{All-contains, Contains-append_left, Contains-append_right, Contains-append_cases}
use Rattle.std.proofs.lemmas.List.FromFn.{length-range_with_len, get_or-range_with_len, length-map-range_with_len, get_or-map-range_with_len}
use Rattle.sr_model.proofs.lemmas.Members.{Contains-here, Contains-there, Contains-cases}
use Rattle.unroll.proofs.lemmas.FlatMaps.{AllPairs-head, AllPairs-tail}

-- a list whose items are among those of another is no longer
pub no-longer : {X : Type 0} (xs ys : List X) → AllPairs (λ a b. a ≢ b) xs → ((x : X) → Contains xs x → Contains ys x) → length xs ≤ length ys
no-longer [] ys apart among = omega arith
no-longer {X} (x ∷ xs) ys apart among =
    let at : Contains ys x = among x (Contains-here x xs) in
    let front : List X = take at.0 ys in
    let back : List X = drop (suc at.0) ys in
    let split : ys ≡ front ++ get_or ys at.0 x ∷ back = split_at ys at.0 x at.1 in
    let rest : length xs ≤ length (front ++ back) = no-longer xs (front ++ back) (AllPairs-tail (λ (a b : X). a ≢ b) x xs apart) (λ z h.
    let other : x ≢ z = All-contains (λ (b : X). x ≢ b) xs z (AllPairs-head (λ (a b : X). a ≢ b) x xs apart) h in
    elim (Contains-append_cases front (get_or ys at.0 x ∷ back) z (subst (λ zs. Contains zs z) split (among z (Contains-there x xs z h)))) [
      | inl before ↦ Contains-append_left front back z before
      | inr later ↦ elim (Contains-cases (get_or ys at.0 x) back z later) [
        | inl same ↦ absurd (other (sym at.2 ∙ same))
        | inr after ↦ Contains-append_right front back z after
      ]
    ]) in
    omega (arith, ap length split, length-append front (get_or ys at.0 x ∷ back), length-append front back)

-- ---- the items that a function gives of the numbers below one

pub range-has : (n i : ℕ) → i < n → Contains (range_with_len 0 n) i
range-has n i h = (i, (let size : length (range_with_len 0 n) ≡ n = length-range_with_len 0 n in omega arith), (let at : get_or (range_with_len 0 n) i i ≡ 0 + i = get_or-range_with_len 0 n i i h in omega arith))

pub range-below : (n i : ℕ) → Contains (range_with_len 0 n) i → i < n
range-below n i h =
    let size : length (range_with_len 0 n) ≡ n = length-range_with_len 0 n in
    let below : h.0 < n = omega (arith, h.1) in
    let at : get_or (range_with_len 0 n) h.0 i ≡ 0 + h.0 = get_or-range_with_len 0 n h.0 i below in
    omega (arith, h.2)

module _ {X : Type 0} (f : ℕ → X) where
  pub all-drawn : (P : X → Type 0) (a n : ℕ) → ((i : ℕ) → i < n → P (f (a + i))) → All P (map f (range_with_len a n))
  all-drawn P a n each k d h =
      let below : k < n = omega (arith, h, length-map-range_with_len f a n) in
      subst P (sym (get_or-map-range_with_len f a n k (a + k) d below (omega arith))) (each k below)

  pub all-below : (P : X → Type 0) (n : ℕ) → ((i : ℕ) → i < n → P (f i)) → All P (map f (range_with_len 0 n))
  all-below P n each = all-drawn P 0 n (λ i h. let same : i ≡ 0 + i = omega arith in subst (λ k. P (f k)) same (each i h))

  pub apart-drawn : (n : ℕ) → ((i j : ℕ) → i < n → j < n → f i ≡ f j → i ≡ j) → AllPairs (λ a b. a ≢ b) (map f (range_with_len 0 n))
  apart-drawn n differ i j d less h e =
      let below : j < n = omega (arith, h, length-map-range_with_len f 0 n) in
      let same : i ≡ j =
      differ i j (omega arith) below
      (sym (get_or-map-range_with_len f 0 n i i d (omega arith) (omega arith)) ∙ e ∙ get_or-map-range_with_len f 0 n j j d below (omega arith)) in
      omega arith
