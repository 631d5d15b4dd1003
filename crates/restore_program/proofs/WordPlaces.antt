-- Going over a list whose elements are seen by their texts or rules: what holds of those passed, and what of the next one.
use Rattle.std.proofs.Common.{◌≡◌, ◌<◌, ◌≤◌, ◌+◌, ℕ, List, [], ◌∷◌, ◌-◌, zero, suc, map, take, drop, length, get_or, Some, refl, sym, ap, subst, ◌∙◌, zero-add, arith}
use Rattle.std.specs.Prelude.{All, Any, option_map}
use Rattle.std.specs.List.{slice_get}
use Rattle.std.proofs.lemmas.List.{length-map, get_or-map, get_or-take, take_all, length-take-le, get_or_default, take_rest, drop-map}
use Rattle.std.proofs.lemmas.List.Elements.{All-more, All-map, All-same}
use Rattle.std.proofs.lemmas.Option.{slice_get-map, slice_get_read, slice_get-get_or, same_Some}
use Rattle.restore_program.specs.WordRules.{FirstPlace}

-- an element, however its place is read
pub read_here : {A : Type 0} (xs : List A) (i : ℕ) (d : A) → i < length xs → get_or xs i d ≡ get_or xs i (get_or xs i d)
read_here xs i d h = get_or_default xs i d (get_or xs i d) h

pub all_more : {A B : Type 0} (f : A → B) (P : B → Type 0) (xs : List A) (i : ℕ) (x : A) (seen : B) → i < length xs → x ≡ get_or xs i x → seen ≡ f x → All (λ y. P (f y)) (take i xs) → P seen
    → All (λ y. P (f y)) (take (i + 1) xs)
all_more f P xs i x seen h e s before p = All-more (λ y. P (f y)) xs i x h before (subst (λ y. P (f y)) e (subst P s p))

pub all_passed : {A B : Type 0} (f : A → B) (P : B → Type 0) (xs : List A) (i : ℕ) → length xs ≤ i → All (λ y. P (f y)) (take i xs) → All P (map f xs)
all_passed f P xs i h before = All-map P f xs (All-same (λ y. P (f y)) xs (take i xs) (sym (take_all i xs h)) before)

pub any_here : {A B : Type 0} (f : A → B) (P : B → Type 0) (xs : List A) (i : ℕ) (x : A) (seen : B) → i < length xs → x ≡ get_or xs i x → seen ≡ f x → P seen → Any P (map f xs)
any_here f P xs i x seen h e s p =
    let within : i < length (map f xs) = rw length-map h in
    let is : get_or (map f xs) i (f x) ≡ f x = get_or-map f xs i x (f x) h ∙ ap f (sym e) in
    (i, f x, within, is, subst P s p)

pub not_any : {B : Type 0} (P : B → Type 0) (ys : List B) → All (λ y. ¬ P y) ys → ¬ Any P ys
not_any P ys none (k, y, h, e, p) = none k y h (subst P (sym e) p)

pub not_all : {A B : Type 0} (f : A → B) (P : B → Type 0) (xs : List A) (i : ℕ) (x : A) (seen : B) → i < length xs → x ≡ get_or xs i x → seen ≡ f x → ¬ P seen → ¬ All P (map f xs)
not_all f P xs i x seen h e s fails all =
    let within : i < length (map f xs) = rw length-map h in
    let is : get_or (map f xs) i (f x) ≡ f x = get_or-map f xs i x (f x) h ∙ ap f (sym e) in
    fails (subst P (is ∙ sym s) (all i (f x) within))

-- the first place of a text with P
pub first_here : {A : Type 0} (text : A → List ℕ) (P : List ℕ → Type 0) (xs : List A) (i : ℕ) (x : A) (seen : List ℕ) → i < length xs → x ≡ get_or xs i x → seen ≡ text x
    → All (λ y. ¬ P (text y)) (take i xs) → P seen → FirstPlace P (map text xs) (Some i)
first_here text P xs i x seen h e s before p = (
  text x,
  slice_get-map text xs i ∙ ap (option_map text) (slice_get_read xs (length xs) i x refl h e),
  subst P s p,
  λ earlier other less at holds.
      let within : earlier < length xs = omega arith in
      let short : earlier < length (take i xs) = let whole : i ≤ length xs = omega arith in rw (length-take-le i xs whole) less in
      let other_is : text (get_or xs earlier x) ≡ other =
      same_Some (text (get_or xs earlier x)) other (ap (option_map text) (sym (slice_get-get_or xs earlier x within)) ∙ sym (slice_get-map text xs earlier) ∙ at) in
      before earlier x short (subst P (sym other_is ∙ ap text (sym (get_or-take i xs earlier x less))) holds),
)

-- ---- the rest of a list

pub slice_get-drop : {X : Type 0} (n : ℕ) (xs : List X) (i : ℕ) → slice_get (drop n xs) i ≡ slice_get xs (n + i)
slice_get-drop zero xs i = rw zero-add refl
slice_get-drop (suc n) [] i = refl
slice_get-drop (suc n) (x ∷ xs) i = let e : suc n + i ≡ suc (n + i) = omega arith in rw e (slice_get-drop n xs i)

pub drop_images : {A : Type 0} (text : A → List ℕ) (n : ℕ) (xs : List A) → map text (take (length xs - n) (drop n xs)) ≡ drop n (map text xs)
drop_images text n xs = ap (map text) (take_rest xs n) ∙ sym (drop-map text n xs)
