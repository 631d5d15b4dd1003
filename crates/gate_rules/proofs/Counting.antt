-- The places that count, one by one.
use Rattle.std.proofs.Common.{◌≡◌, ◌+◌, ℕ, zero, suc, ◌<◌, Bool, true, false, cond, List, [], ◌∷◌, map, arith, inl, inr, sym, subst, refl, ap, ◌∙◌}
use Rattle.std.specs.List.{Contains, count_by}
use Rattle.std.proofs.lemmas.Bool.{cases_Bool, cases_eq, cond-true, cond-false}
use Rattle.std.proofs.lemmas.List.Sums.{sum_by-cons}
use Rattle.sr_model.proofs.lemmas.Members.{not_in_nil, Contains-here, Contains-there, Contains-cases}
use Rattle.gate_rules.specs.OddPlaces.{counts, counting}

-- a test of two lists that are made from the same places
pub count_same : {X Y : Type 0} (f : X → Bool) (g : Y → Bool) (p : ℕ → X) (q : ℕ → Y) (js : List ℕ) → ((j : ℕ) → Contains js j → f (p j) ≡ g (q j)) → count_by f (map p js) ≡ count_by g (map q js)
count_same f g p q [] same = refl
count_same f g p q (j ∷ js) same =
    sum_by-cons (λ x. cond (f x) 1 0) (p j) (map p js)
    ∙ ap (λ b. cond b 1 0 + count_by f (map p js)) (same j (Contains-here j js))
    ∙ ap (λ n. cond (g (q j)) 1 0 + n) (count_same f g p q js (λ k h. same k (Contains-there j js k h)))
    ∙ sym (sum_by-cons (λ y. cond (g y) 1 0) (q j) (map q js))

module _ (target : ℕ) (odd : List Bool) where
  counting_one : (n : ℕ) → counts target odd n ≡ true → counting target odd (suc n) ≡ n ∷ counting target odd n
  counting_one n e = cond-true (counts target odd n) (n ∷ counting target odd n) (counting target odd n) e

  counting_none : (n : ℕ) → counts target odd n ≡ false → counting target odd (suc n) ≡ counting target odd n
  counting_none n e = cond-false (counts target odd n) (n ∷ counting target odd n) (counting target odd n) e

  next : (n : ℕ) → n + 1 ≡ suc n
  next n = omega arith

  pub counting_more : (n : ℕ) → counts target odd n ≡ true → counting target odd (n + 1) ≡ n ∷ counting target odd n
  counting_more n e = ap (counting target odd) (next n) ∙ counting_one n e

  pub counting_same : (n : ℕ) → counts target odd n ≡ false → counting target odd (n + 1) ≡ counting target odd n
  counting_same n e = ap (counting target odd) (next n) ∙ counting_none n e

  -- by the last place
  pub counting_ind : (P : List ℕ → Type 0) (n : ℕ) → P (counting target odd n) → (counts target odd n ≡ true → P (n ∷ counting target odd n)) → P (counting target odd (suc n))
  counting_ind P n same more =
      elim (cases_Bool (counts target odd n)) [
        | inl e ↦ subst P (sym (counting_one n e)) (more e)
        | inr e ↦ subst P (sym (counting_none n e)) same
      ]

  pub counting_below : (n k : ℕ) → Contains (counting target odd n) k → k < n
  counting_below zero k h = absurd (not_in_nil k h)
  counting_below (suc n) k h =
      counting_ind (λ js. Contains js k → k < suc n) n
      (λ h. let b : k < n = counting_below n k h in omega arith)
      (λ e h. elim (Contains-cases n (counting target odd n) k h) [
        | inl same ↦ omega arith
        | inr later ↦ let b : k < n = counting_below n k later in omega arith
      ]) h

  pub counting_counts : (n k : ℕ) → Contains (counting target odd n) k → counts target odd k ≡ true
  counting_counts zero k h = absurd (not_in_nil k h)
  counting_counts (suc n) k h =
      counting_ind (λ js. Contains js k → counts target odd k ≡ true) n
      (counting_counts n k)
      (λ e h. elim (Contains-cases n (counting target odd n) k h) [
        | inl same ↦ ap (counts target odd) (sym same) ∙ e
        | inr later ↦ counting_counts n k later
      ]) h

  pub counting_has : (n k : ℕ) → k < n → counts target odd k ≡ true → Contains (counting target odd n) k
  counting_has zero k h e = absurd (omega arith)
  counting_has (suc n) k h e =
      elim (cases_eq k n) [
        | inl same ↦
            let at : counts target odd n ≡ true = ap (counts target odd) (sym same) ∙ e in
            subst (λ js. Contains js k) (sym (counting_one n at)) (subst (Contains (n ∷ counting target odd n)) (sym same) (Contains-here n (counting target odd n)))
        | inr other ↦
            let before : Contains (counting target odd n) k = counting_has n k (omega arith) e in
            counting_ind (λ js. Contains js k) n before (λ f. Contains-there n (counting target odd n) k before)
      ]
