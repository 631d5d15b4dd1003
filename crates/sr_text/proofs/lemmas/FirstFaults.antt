-- Where two lists of lines part, each at a line of its own.
use Rattle.std.proofs.Common.{◌≡◌, ◌⊎◌, ℕ, List, [], ◌∷◌, ◌++◌, get_or, drop, refl, sym, ap, ◌∙◌, inl, inr}

abbrev pub Line : Type 0
Line = ℕ × List ℕ

pub same_cons : {X : Type 0} (x y : X) (xs ys : List X) → x ∷ xs ≡ y ∷ ys → (x ≡ y) × (xs ≡ ys)
same_cons x y xs ys e = (ap (λ zs. get_or zs 0 x) e, ap (λ zs. drop 1 zs) e)

-- the lists have the same place, or one goes on over the other's
pub part : (xs ys us vs : List Line) (p q : Line) → xs ++ p ∷ us ≡ ys ++ q ∷ vs
    → ((xs ≡ ys) × (p ≡ q)) ⊎ (((more : List Line) × (ys ≡ xs ++ p ∷ more)) ⊎ ((more : List Line) × (xs ≡ ys ++ q ∷ more)))
part [] [] us vs p q e = inl (refl, (same_cons p q us vs e).0)
part [] (y ∷ ys) us vs p q e = inr (inl (ys, ap (λ (l : Line). l ∷ ys) (sym (same_cons p y us (ys ++ q ∷ vs) e).0)))
part (x ∷ xs) [] us vs p q e = inr (inr (xs, ap (λ (l : Line). l ∷ xs) (same_cons x q (xs ++ p ∷ us) vs e).0))
part (x ∷ xs) (y ∷ ys) us vs p q e =
    let both = same_cons x y (xs ++ p ∷ us) (ys ++ q ∷ vs) e in
    elim (part xs ys us vs p q both.1) [
      | inl same ↦ inl (ap (λ (l : Line). l ∷ xs) both.0 ∙ ap (λ (ls : List Line). y ∷ ls) same.0, same.1)
      | inr (inl on) ↦ inr (inl (on.0, ap (λ (l : Line). l ∷ ys) (sym both.0) ∙ ap (λ (ls : List Line). x ∷ ls) on.1))
      | inr (inr on) ↦ inr (inr (on.0, ap (λ (l : Line). l ∷ xs) both.0 ∙ ap (λ (ls : List Line). y ∷ ls) on.1))
    ]
