-- The members of a flat_map, and their order.
use Rattle.std.proofs.Common.{ℕ, suc, ◌≡◌, ◌+◌, ◌*◌, ◌<◌, ◌≤◌, List, [], ◌∷◌, ◌++◌, length, get_or, arith, inl, inr, sym, ap, subst}
use Rattle.std.specs.List.{All, AllPairs, Contains, flat_map}
use Rattle.std.proofs.lemmas.List.Elements.{All-append, All-contains, Contains-append_left, Contains-append_right, Contains-append_cases}
use Rattle.std.proofs.lemmas.List.FromFn.{length-map-range_with_len, get_or-map-range_with_len}
use Rattle.std.proofs.lemmas.List.Kept.{AllPairs-cons}
use Rattle.std.proofs.Math.Nat.{mul-le-mul_right}
use Rattle.sr_model.specs.declared.cells.Sig.{Sig}
use Rattle.sr_model.proofs.lemmas.Members.{not_in_nil, Contains-here, Contains-there, Contains-cases, All-from_Contains}
use Rattle.netlist.specs.Wiring.{signals_below}

module _ {X Y : Type 0} (f : X → List Y) where
  pub flat_map-has : (xs : List X) (x : X) (y : Y) → Contains xs x → Contains (f x) y → Contains (flat_map f xs) y
  flat_map-has [] x y h k = absurd (not_in_nil x h)
  flat_map-has (z ∷ zs) x y h k =
      elim (Contains-cases z zs x h) [
        | inl e ↦ Contains-append_left (f z) (flat_map f zs) y (subst (λ w. Contains (f w) y) (sym e) k)
        | inr later ↦ Contains-append_right (f z) (flat_map f zs) y (flat_map-has zs x y later k)
      ]

  pub flat_map-found : (xs : List X) (y : Y) → Contains (flat_map f xs) y → (x : X) × Contains xs x × Contains (f x) y
  flat_map-found [] y h = absurd (not_in_nil y h)
  flat_map-found (z ∷ zs) y h =
      elim (Contains-append_cases (f z) (flat_map f zs) y h) [
        | inl here ↦ (z, Contains-here z zs, here)
        | inr later ↦ let found : (x : X) × Contains zs x × Contains (f x) y = flat_map-found zs y later in (found.0, Contains-there z zs found.0 found.1, found.2)
      ]

module _ {X : Type 0} (R : X → X → Type 0) where
  pub AllPairs-head : (x : X) (xs : List X) → AllPairs R (x ∷ xs) → All (R x) xs
  AllPairs-head x xs all = All-from_Contains (R x) xs (λ y h. from y h) where
    from : (y : X) → Contains xs y → R x y
    from y h = subst (R x) (h.2) (all 0 (suc h.0) y (omega arith) (omega (arith, h.1)))

  pub AllPairs-tail : (x : X) (xs : List X) → AllPairs R (x ∷ xs) → AllPairs R xs
  AllPairs-tail x xs all = λ i j d lt within. all (suc i) (suc j) d (omega arith) (omega arith)

  pub AllPairs-join : (xs ys : List X) → AllPairs R xs → AllPairs R ys → ((x y : X) → Contains xs x → Contains ys y → R x y) → AllPairs R (xs ++ ys)
  AllPairs-join [] ys first second across = second
  AllPairs-join (x ∷ xs) ys first second across =
      AllPairs-cons R x (xs ++ ys) (All-append (R x) xs ys (AllPairs-head x xs first) (All-from_Contains (R x) ys (λ y h. across x y (Contains-here x xs) h)))
      (AllPairs-join xs ys (AllPairs-tail x xs first) second (λ z y h k. across z y (Contains-there x xs z h) k))

-- lists of signals s whose numbers lie from s times w on, below the next signal's, are ascending one behind the other
pub ascending-flat : {Y : Type 0} (key : Y → ℕ) (w : ℕ) (f : Sig → List Y) (xs : List Sig) → AllPairs (λ a b. a.0 < b.0) xs
    → ((x : Sig) → Contains xs x → AllPairs (λ a b. key a < key b) (f x) × ((y : Y) → Contains (f x) y → (x.0 * w ≤ key y) × (key y < (x.0 + 1) * w)))
    → AllPairs (λ a b. key a < key b) (flat_map f xs)
ascending-flat key w f [] up each = λ i j d lt within. absurd (omega arith)
ascending-flat {Y} key w f (x ∷ xs) up each =
    AllPairs-join (λ a b. key a < key b) (f x) (flat_map f xs) (each x (Contains-here x xs)).0
    (ascending-flat key w f xs (AllPairs-tail (λ (a b : Sig). a.0 < b.0) x xs up) (λ z h. each z (Contains-there x xs z h)))
    (λ a b h k.
    let found : (z : Sig) × Contains xs z × Contains (f z) b = flat_map-found f xs b k in
    let above : x.0 < found.0.0 = All-contains (λ (z : Sig). x.0 < z.0) xs found.0 (AllPairs-head (λ (a b : Sig). a.0 < b.0) x xs up) found.1 in
    let first : key a < (x.0 + 1) * w = ((each x (Contains-here x xs)).1 a h).1 in
    let second : found.0.0 * w ≤ key b = ((each found.0 (Contains-there x xs found.0 found.1)).1 b found.2).0 in
    let between : (x.0 + 1) * w ≤ found.0.0 * w = mul-le-mul_right w (omega arith) in
    omega arith)

-- the signals below a number are ascending
pub signals-ascend : (n : ℕ) → AllPairs (λ a b. a.0 < b.0) (signals_below n)
signals-ascend n i j d lt within =
    let size : length (signals_below n) ≡ n = length-map-range_with_len (λ s. record { 0 = s }) 0 n in
    let first : get_or (signals_below n) i d ≡ record { 0 = i } = get_or-map-range_with_len (λ s. record { 0 = s }) 0 n i i d (omega arith) (omega arith) in
    let second : get_or (signals_below n) j d ≡ record { 0 = j } = get_or-map-range_with_len (λ s. record { 0 = s }) 0 n j j d (omega arith) (omega arith) in
    let a : (get_or (signals_below n) i d).0 ≡ i = ap (λ (s : Sig). s.0) first in
    let b : (get_or (signals_below n) j d).0 ≡ j = ap (λ (s : Sig). s.0) second in
    omega arith
