-- Whether a value is a number that its key may have.
use Rattle.std.proofs.Common.{◌≡◌, ℕ, Bool, List, Option, Some, None, refl, sym, subst}
use Rattle.std.specs.Prelude.{◌↔◌, IsTrue, not, is_some}
use Rattle.restore_program.specs.Words.{IsBad, IsNumber, Takes, number}
use Rattle.restore_program.proofs.GivenValues.{none_left, some_left}

found_none : (takes : Takes) (value : List ℕ) (r : Option ℕ) (b : Bool) → ((n : ℕ) → (r ≡ Some n) ↔ IsNumber takes value n) → is_some r ≡ not b → (IsTrue b → (n : ℕ) → ¬ IsNumber takes value n) × (((n : ℕ) → ¬ IsNumber takes value n) → IsTrue b)
found_none takes value None b says e = (λ _ n is. let some : None ≡ Some n = (says n).1 is in cc, λ _. none_left b e)
found_none takes value (Some m) b says e = (λ t. absurd (some_left b e t), λ none. absurd (none m ((says m).0 refl)))

pub no_number : (takes : Takes) (least most : ℕ) (value : List ℕ) (r : Option ℕ) (b : Bool) → takes ≡ number least most → ((n : ℕ) → (r ≡ Some n) ↔ IsNumber takes value n) → is_some r ≡ not b
    → (IsTrue b → IsBad takes value) × (IsBad takes value → IsTrue b)
no_number takes least most value r b is says e =
    let found = found_none (number least most) value r b (subst (λ t. (n : ℕ) → (r ≡ Some n) ↔ IsNumber t value n) is says) e in
    subst (λ t. (IsTrue b → IsBad t value) × (IsBad t value → IsTrue b)) (sym is) found
