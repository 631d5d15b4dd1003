-- A name of which some call is listed.
use Rattle.std.proofs.Common.{◌≡◌, ℕ, Bool, true, false, IsTrue, IsSomeAnd, List, [], ◌∷◌, Option, None, Some, ◌&&◌, ◌||◌, ◌==◌, refl}
use Rattle.std.specs.Str.{bytes_eq}
use Rattle.sr_outside.specs.Memory.{Call, is_listed, has_listed}

pub has_listed-from : (calls : List Call) (name : List ℕ) (number : ℕ)
    → is_listed calls name number ≡ true → has_listed calls name ≡ true
has_listed-from [] name number listed = cc
has_listed-from (call ∷ calls) name number listed =
    by_tests (has_listed-from calls name number) (bytes_eq call.name name) (call.number == number) listed
  where
    by_tests : (is_listed calls name number ≡ true → has_listed calls name ≡ true)
        → (a b : Bool) → ((a && b) || is_listed calls name number) ≡ true
        → (a || has_listed calls name) ≡ true
    by_tests later true b listed = refl
    by_tests later false b listed = later listed

pub last_shaky : (last : Option (List ℕ)) (calls : List Call) (number : ℕ)
    → IsSomeAnd last (λ name. IsTrue (is_listed calls name number))
    → IsSomeAnd last (λ name. IsTrue (has_listed calls name))
last_shaky None calls number listed = listed
last_shaky (Some name) calls number listed = has_listed-from calls name number listed
