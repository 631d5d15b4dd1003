-- The file that has a name, and what becomes of the names when it is replaced.
use Rattle.std.proofs.Common.{◌≡◌, ℕ, zero, suc, ◌+◌, ◌<◌, Bool, true, false, cond, List, [], ◌∷◌, ◌++◌, length, take, drop, Option, None, Some, IfSome, IfNone, if◌then◌else◌, slice_set, refl, sym, ◌∙◌, ap, subst, arith}
use Rattle.std.specs.List.{position, position_from}
use Rattle.std.specs.Str.{bytes_eq}
use Rattle.std.proofs.lemmas.Slice.Eq.{bytes_eq-Decides}
use Rattle.std.proofs.lemmas.Iterator.Adapters.{position_from-zero}
use Rattle.std.proofs.lemmas.List.{drop-drop, take-append-drop}
use Rattle.sr_outside.specs.Memory.{Named, InMemory, IsPlaceOf, bytes_of, bytes_at, name_at, unread}

-- the first place of a name, where the list starts at place k
record Placed (files : List Named) (name : List ℕ) (k place : ℕ) : Type 0 where
  pub later : ℕ
  pub is : place ≡ k + later
  pub first : IsPlaceOf files name later

placed : (files : List Named) (name : List ℕ) (k place : ℕ)
    → position_from (λ file. bytes_eq file.name name) k files ≡ Some place
    → Placed files name k place
placed [] name k place found = absurd (cc)
placed (file ∷ files) name k place found =
    by_test (placed files name (k + 1) place) (bytes_eq file.name name) refl found
  where
    by_test : (position_from (λ file. bytes_eq file.name name) (k + 1) files ≡ Some place → Placed files name (k + 1) place)
        → (b : Bool) → bytes_eq file.name name ≡ b
        → cond b (Some k) (position_from (λ file. bytes_eq file.name name) (k + 1) files) ≡ Some place
        → Placed (file ∷ files) name k place
    by_test behind true same here =
        let at_once : k ≡ place = cc in
        record { later = 0; is = omega arith; first = (bytes_eq-Decides file.name name).0 same }
    by_test behind false other there =
        let rest : Placed files name (k + 1) place = behind there in
        record { later = suc rest.later; is = omega arith; first = (other, rest.first) }

pub place_first : (files : List Named) (name : List ℕ) (found : Option ℕ)
    → found ≡ position (λ file. bytes_eq file.name name) files
    → IfSome found (IsPlaceOf files name)
place_first files name None is = tt
place_first files name (Some place) is =
    let from_zero : position_from (λ file. bytes_eq file.name name) 0 files ≡ Some place =
    sym (position_from-zero (λ (file : Named). bytes_eq file.name name) files) ∙ sym is in
    let p = placed files name 0 place from_zero in
    let same : p.later ≡ place = omega (arith, p.is) in
    subst (λ n. IsPlaceOf files name n) same p.first

not_placed_from : (files : List Named) (name : List ℕ) (k : ℕ)
    → position_from (λ file. bytes_eq file.name name) k files ≡ None
    → bytes_of files name ≡ None
not_placed_from [] name k none = refl
not_placed_from (file ∷ files) name k none =
    by_test (not_placed_from files name (k + 1)) (bytes_eq file.name name) none
  where
    by_test : (position_from (λ file. bytes_eq file.name name) (k + 1) files ≡ None → bytes_of files name ≡ None)
        → (b : Bool)
        → cond b (Some k) (position_from (λ file. bytes_eq file.name name) (k + 1) files) ≡ None
        → (if b then Some file.bytes else bytes_of files name) ≡ None
    by_test behind true here = absurd (cc)
    by_test behind false there = behind there

pub not_placed : (files : List Named) (name : List ℕ) (found : Option ℕ)
    → found ≡ position (λ file. bytes_eq file.name name) files
    → IfNone found (bytes_of files name ≡ None)
not_placed files name (Some place) is = tt
not_placed files name None is =
    not_placed_from files name 0 (sym (position_from-zero (λ (file : Named). bytes_eq file.name name) files) ∙ sym is)

pub place_bytes : (files : List Named) (name : List ℕ) (place : ℕ) → IsPlaceOf files name place
    → bytes_of files name ≡ Some (bytes_at files (Some place))
place_bytes [] name place first = absurd first
place_bytes (file ∷ files) name zero first = rw ((bytes_eq-Decides file.name name).1 first) refl
place_bytes (file ∷ files) name (suc place) first =
    rw first.0 (place_bytes files name place first.1)

pub place_name : (files : List Named) (name : List ℕ) (place : ℕ) → IsPlaceOf files name place
    → name_at files (Some place) ≡ Some name
place_name [] name place first = absurd first
place_name (file ∷ files) name zero first = ap Some first
place_name (file ∷ files) name (suc place) first = place_name files name place first.1

pub place_within : (files : List Named) (name : List ℕ) (place : ℕ) → IsPlaceOf files name place
    → place < length files
place_within [] name place first = absurd first
place_within (file ∷ files) name zero first = omega arith
place_within (file ∷ files) name (suc place) first =
    omega (arith, place_within files name place first.1)

-- two names that differ are not both this one
not_both : (a b name : List ℕ) → bytes_eq a b ≡ false → bytes_eq a name ≡ true
    → bytes_eq b name ≡ true → ⊥
not_both a b name differ is_a is_b =
    let same : a ≡ b = (bytes_eq-Decides a name).0 is_a ∙ sym ((bytes_eq-Decides b name).0 is_b) in
    let equal : bytes_eq a b ≡ true = (bytes_eq-Decides a b).1 same in
    cc

-- a file behind one of another name
behind : (old file : Named) (name : List ℕ) (rest new : Option (List ℕ))
    → bytes_eq old.name file.name ≡ false
    → new ≡ (if bytes_eq file.name name then Some file.bytes else rest)
    → (if bytes_eq old.name name then Some old.bytes else new) ≡ (if bytes_eq file.name name then Some file.bytes else (if bytes_eq old.name name then Some old.bytes else rest))
behind old file name rest new differ is =
    by_tests (bytes_eq old.name name) (bytes_eq file.name name) refl refl is
  where
    by_tests : (a b : Bool) → bytes_eq old.name name ≡ a → bytes_eq file.name name ≡ b
        → new ≡ (if b then Some file.bytes else rest)
        → (if a then Some old.bytes else new) ≡ (if b then Some file.bytes else (if a then Some old.bytes else rest))
    by_tests true true is_old is_file e =
        absurd (not_both old.name file.name name differ is_old is_file)
    by_tests true false is_old is_file e = refl
    by_tests false b is_old is_file e = e

pub bytes_of-set : (files : List Named) (file : Named) (place : ℕ) (name : List ℕ)
    → IsPlaceOf files file.name place
    → bytes_of (slice_set files place file) name ≡ (if bytes_eq file.name name then Some file.bytes else bytes_of files name)
bytes_of-set [] file place name first = absurd first
bytes_of-set (old ∷ files) file zero name first =
    by_test (bytes_eq file.name name) (ap (λ n. bytes_eq n name) first)
  where
    by_test : (b : Bool) → bytes_eq old.name name ≡ b
        → (if b then Some file.bytes else bytes_of files name) ≡ (if b then Some file.bytes else (if bytes_eq old.name name then Some old.bytes else bytes_of files name))
    by_test true same = refl
    by_test false other = rw other refl
bytes_of-set (old ∷ files) file (suc place) name first =
    behind old file name _ _ first.0 (bytes_of-set files file place name first.1)

pub bytes_of-push : (files : List Named) (file : Named) (name : List ℕ)
    → bytes_of files file.name ≡ None
    → bytes_of (files ++ file ∷ []) name ≡ (if bytes_eq file.name name then Some file.bytes else bytes_of files name)
bytes_of-push [] file name none = refl
bytes_of-push (old ∷ files) file name none =
    by_test (bytes_of-push files file name) (bytes_eq old.name file.name) refl none
  where
    by_test : (bytes_of files file.name ≡ None → bytes_of (files ++ file ∷ []) name ≡ (if bytes_eq file.name name then Some file.bytes else bytes_of files name))
        → (b : Bool) → bytes_eq old.name file.name ≡ b
        → (if b then Some old.bytes else bytes_of files file.name) ≡ None
        → bytes_of ((old ∷ files) ++ file ∷ []) name ≡ (if bytes_eq file.name name then Some file.bytes else bytes_of (old ∷ files) name)
    by_test later true same none = absurd (cc)
    by_test later false differ none = behind old file name _ _ differ (later none)

pub name_at-set : (files : List Named) (file : Named) (place i : ℕ)
    → IsPlaceOf files file.name place
    → name_at (slice_set files place file) (Some i) ≡ name_at files (Some i)
name_at-set [] file place i first = absurd first
name_at-set (old ∷ files) file zero zero first = ap Some (sym first)
name_at-set (old ∷ files) file zero (suc i) first = refl
name_at-set (old ∷ files) file (suc place) zero first = refl
name_at-set (old ∷ files) file (suc place) (suc i) first = name_at-set files file place i first.1

pub name_at-push : (files : List Named) (file : Named) (i : ℕ) → i < length files
    → name_at (files ++ file ∷ []) (Some i) ≡ name_at files (Some i)
name_at-push [] file i within = absurd (omega arith)
name_at-push (old ∷ files) file zero within = refl
name_at-push (old ∷ files) file (suc i) within = name_at-push files file i (omega arith)

-- what was left is what was given, and then what is left
pub left_after : (now before : InMemory) (from front : List ℕ) (count : ℕ) → before ≡ now
    → from ≡ drop before.taken (bytes_at before.files before.last) → front ≡ take count from
    → unread now ≡ front ++ drop (before.taken + count) (bytes_at before.files before.last)
left_after now before from front count same is_rest is_front =
    let all = bytes_at before.files before.last in
    ap unread (sym same)
    ∙ sym (take-append-drop count (drop before.taken all))
    ∙ ap (λ l. take count (drop before.taken all) ++ l) (drop-drop count before.taken all)
    ∙ ap (λ l. take count l ++ drop (before.taken + count) all) (sym is_rest)
    ∙ ap (λ l. l ++ drop (before.taken + count) all) (sym is_front)

pub found_bytes : (files : List Named) (name : List ℕ) (found : Option ℕ)
    → IfSome found (IsPlaceOf files name)
    → IfSome found (λ place. bytes_of files name ≡ Some (bytes_at files (Some place)))
found_bytes files name None first = tt
found_bytes files name (Some place) first = place_bytes files name place first

pub found_name : (files : List Named) (name : List ℕ) (found : Option ℕ)
    → IfSome found (IsPlaceOf files name)
    → IfSome found (λ place. name_at files (Some place) ≡ Some name)
found_name files name None first = tt
found_name files name (Some place) first = place_name files name place first
