-- What can be decided: of numbers below a bound, and of the elements of a list.
use Rattle.std.proofs.Common.{◌≡◌, ◌⊎◌, ◌<◌, ℕ, zero, suc, refl, List, [], ◌∷◌, inl, inr, sym, subst, arith}
use Rattle.std.specs.Prelude.{All, AllPairs, Any}
use Rattle.std.proofs.lemmas.Bool.{cases_lt}
use Rattle.std.proofs.lemmas.List.Elements.{All-cons, All-head, All-nil, All-tail}
use Rattle.std.proofs.lemmas.List.Kept.{AllPairs-cons}

-- it holds, or it can't
abbrev pub Decided : Type 0 → Type 0
Decided P = P ⊎ (¬ P)

-- the same fact in other words
pub decided_as : (P Q : Type 0) → (P → Q) → (Q → P) → Decided P → Decided Q
decided_as P Q to from (inl h) = inl (to h)
decided_as P Q to from (inr fails) = inr (λ q. fails (from q))

pub decided_both : (P Q : Type 0) → Decided P → Decided Q → Decided (P × Q)
decided_both P Q (inl p) (inl q) = inl (p, q)
decided_both P Q (inl p) (inr fails) = inr (λ both. fails both.1)
decided_both P Q (inr fails) q = inr (λ both. fails both.0)

pub decided_either : (P Q : Type 0) → Decided P → Decided Q → Decided (P ⊎ Q)
decided_either P Q (inl p) q = inl (inl p)
decided_either P Q (inr fails) (inl q) = inl (inr q)
decided_either P Q (inr fails) (inr not_either) = inr (λ some. elim some [ inl p ↦ fails p | inr q ↦ not_either q ])

pub decided_then : (P Q : Type 0) → Decided P → Decided Q → Decided (P → Q)
decided_then P Q p (inl q) = inl (λ _. q)
decided_then P Q (inl p) (inr fails) = inr (λ f. fails (f p))
decided_then P Q (inr none) (inr fails) = inl (λ p. absurd (none p))

pub decided_not : (P : Type 0) → Decided P → Decided (¬ P)
decided_not P (inl p) = inr (λ fails. fails p)
decided_not P (inr fails) = inl fails

module _ (P : ℕ → Type 0) (decide : (k : ℕ) → Decided (P k)) where
  -- no number below n, or the first of them
  pub first_below : (n : ℕ) → ((k : ℕ) → k < n → ¬ P k) ⊎ ((m : ℕ) × P m × ((k : ℕ) → k < m → ¬ P k))
  first_below zero = inl (λ k below p. let wrong : ⊥ = omega (arith, below) in wrong)
  first_below (suc n) =
      elim (first_below n) [
        | inr found ↦ inr found
        | inl none ↦ elim (decide n) [
          | inl here ↦ inr (n, here, none)
          | inr not_here ↦ inl (λ k below p. elim (cases_lt k n) [
            | inl less ↦ none k less p
            | inr more ↦ let e : k ≡ n = omega (arith, below, more) in not_here (subst P e p)
          ])
        ]
      ]

module _ {X : Type 0} (P : X → Type 0) (decide : (x : X) → Decided (P x)) where
  any_there : (x : X) (xs : List X) → Any P xs → Any P (x ∷ xs)
  any_there x xs (k, y, h, e, p) = (suc k, y, omega (arith, h), e, p)

  no_more : (x : X) (xs : List X) → ¬ P x → ¬ Any P xs → ¬ Any P (x ∷ xs)
  no_more x xs not_here none (zero, y, h, e, p) = not_here (subst P (sym e) p)
  no_more x xs not_here none (suc k, y, h, e, p) = none (k, y, omega (arith, h), e, p)

  pub decided_any : (xs : List X) → Decided (Any P xs)
  decided_any [] = inr (λ any. let within : any.0 < 0 = any.2 in omega (arith, within))
  decided_any (x ∷ xs) =
      elim (decide x) [
        | inl here ↦ inl (0, x, omega arith, refl, here)
        | inr not_here ↦ elim (decided_any xs) [ inl later ↦ inl (any_there x xs later) | inr none ↦ inr (no_more x xs not_here none) ]
      ]

  pub decided_all : (xs : List X) → Decided (All P xs)
  decided_all [] = inl (All-nil P)
  decided_all (x ∷ xs) =
      decided_as (P x × All P xs) (All P (x ∷ xs)) (λ both. All-cons P x xs both.0 both.1) (λ all. (All-head P x xs all, All-tail P x xs all)) (decided_both (P x) (All P xs) (decide x) (decided_all xs))

module _ {X : Type 0} (R : X → X → Type 0) (decide : (x y : X) → Decided (R x y)) where
  pub decided_pairs : (xs : List X) → Decided (AllPairs R xs)
  decided_pairs [] = inl (λ i j d less within. absurd (omega (arith, within)))
  decided_pairs (x ∷ xs) =
      decided_as (All (R x) xs × AllPairs R xs) (AllPairs R (x ∷ xs)) (λ both. AllPairs-cons R x xs both.0 both.1)
      (λ all. (λ j d within. all 0 (suc j) d (omega arith) (omega (arith, within)), λ i j d less within. all (suc i) (suc j) d (omega (arith, less)) (omega (arith, within))))
      (decided_both (All (R x) xs) (AllPairs R xs) (decided_all (R x) (decide x) xs) (decided_pairs xs))
