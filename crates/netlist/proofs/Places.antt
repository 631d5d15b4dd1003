-- The places of names in a list.
use Rattle.std.proofs.Common.{◌≡◌, ℕ, ◌+◌, ◌<◌, ◌≤◌, Bool, true, false, not, cond, eqb, ltb, List, [], ◌∷◌, ◌++◌, length, map, get_or, Option, Some, None, refl, sym, ap, subst, ◌∙◌, inl, inr, arith, suc, set}
use Rattle.std.specs.Cmp.Lexicographic.{pointwise}
use Rattle.std.specs.List.{Contains, list_any, position, position_or_len}
use Rattle.std.proofs.lemmas.Bool.{true≢false, cond-true, cond-false, ltb-true, ltb-false, cases_lt, cases_Bool}
use Rattle.std.proofs.lemmas.List.Sums.{position_or_len_is, fails_before_first, passes_at_first}
use Rattle.std.proofs.lemmas.List.{append-nil, append_assoc, length-append, length-map, get_or-map, get_or_append_left, get_or_push}
use Rattle.std.proofs.lemmas.List.Elements.{Contains-append_left}
use Rattle.std.proofs.lemmas.Option.{cond_some, slice_get-get_or}
use Rattle.std.proofs.lemmas.Slice.Eq.{bytes_eq-Decides}
use Rattle.sr_model.proofs.lemmas.Members.{not_in_nil, Contains-cases, map-agree}
use Rattle.std.specs.Prelude.{IfSome, slice_get}
use Rattle.std.specs.Option.{SomeIff}
use Rattle.sr_model.specs.declared.cells.Sig.{Sig}
use Rattle.netlist.specs.Numbering.{once, place_in, sig_in}
use Rattle.netlist.proofs.Once.{has, list_any-map, has-once, has-from_Contains, Contains-from_has, is_or_not, same_name, other_name, lacks-from_has, once-once, once-append_once, once-present, once-absent, IsApart, apart_places}

position_or_len-map : {X Y : Type 0} (f : X → Y) (test : Y → Bool) (xs : List X) → position_or_len test (map f xs) ≡ position_or_len (λ x. test (f x)) xs
position_or_len-map f test [] = refl
position_or_len-map f test (x ∷ xs) = ap (λ n. cond (not (test (f x))) (1 + n) 0) (position_or_len-map f test xs)

-- a name of the list has its place within the list
pub place_in-lt : (ns : List (List ℕ)) (n : List ℕ) → Contains ns n → place_in ns n < length ns
place_in-lt ns n h =
    elim (cases_lt (place_in ns n) (length ns)) [
      | inl lt ↦ lt
      | inr past ↦
          let fails : pointwise eqb n (get_or ns h.0 n) ≡ false = fails_before_first (pointwise eqb n) ns h.0 n (omega (arith, h.1, past)) in
          absurd (true≢false (sym (same_name n (get_or ns h.0 n) (sym h.2)) ∙ fails))
    ]

-- the name at its place
pub get_or-place_in : (ns : List (List ℕ)) (n d : List ℕ) → place_in ns n < length ns → get_or ns (place_in ns n) d ≡ n
get_or-place_in ns n d lt = sym ((bytes_eq-Decides n (get_or ns (place_in ns n) d)).0 (passes_at_first (pointwise eqb n) ns d lt))

Contains-from_place : (ns : List (List ℕ)) (n : List ℕ) → place_in ns n < length ns → Contains ns n
Contains-from_place ns n lt = (place_in ns n, lt, get_or-place_in ns n n lt)

-- where no two names are one, the place of the name at a place is that place
pub place_in-get_or : (ns : List (List ℕ)) (i : ℕ) (d : List ℕ) → IsApart ns → i < length ns → place_in ns (get_or ns i d) ≡ i
place_in-get_or ns i d apart lt =
    position_or_len_is (pointwise eqb (get_or ns i d)) ns i d (omega arith)
    (λ k below. other_name (get_or ns i d) (get_or ns k d) (λ e. apart_places ns k i d apart below lt (sym e)))
    (λ _. same_name (get_or ns i d) (get_or ns i d) refl)

-- ---- look-ups in a list whose items hold the names

cond_none : {A : Type 0} (b : Bool) (x : A) → cond b (Some x) None ≡ None → b ≡ false
cond_none true x e = absurd cc
cond_none false x e = refl

module _ {X : Type 0} (f : X → List ℕ) (xs : List X) (n : List ℕ) where
  pub found_place : (i : ℕ) → position (λ x. pointwise eqb n (f x)) xs ≡ Some i → Contains (map f xs) n × (i ≡ place_in (map f xs) n)
  found_place i e =
      let place : place_in (map f xs) n ≡ position_or_len (λ x. pointwise eqb n (f x)) xs = position_or_len-map f (pointwise eqb n) xs in
      let g = cond_some (ltb (position_or_len (λ x. pointwise eqb n (f x)) xs) (length xs)) (position_or_len (λ x. pointwise eqb n (f x)) xs) i e in
      let below : position_or_len (λ x. pointwise eqb n (f x)) xs < length xs = ltb-true (position_or_len (λ x. pointwise eqb n (f x)) xs) (length xs) g.0 in
      (Contains-from_place (map f xs) n (omega (arith, below, place, length-map xs f)), sym g.1 ∙ sym place)

  pub missing_place : position (λ x. pointwise eqb n (f x)) xs ≡ None → Contains (map f xs) n → ⊥
  missing_place e h =
      let place : place_in (map f xs) n ≡ position_or_len (λ x. pointwise eqb n (f x)) xs = position_or_len-map f (pointwise eqb n) xs in
      let past : length xs ≤ position_or_len (λ x. pointwise eqb n (f x)) xs = ltb-false (position_or_len (λ x. pointwise eqb n (f x)) xs) (length xs) (cond_none (ltb (position_or_len (λ x. pointwise eqb n (f x)) xs) (length xs)) (position_or_len (λ x. pointwise eqb n (f x)) xs) e) in
      omega (arith, past, place, length-map xs f, place_in-lt (map f xs) n h)

  pub found_key : (i : ℕ) → position (λ x. pointwise eqb n (f x)) xs ≡ Some i → true ≡ list_any (λ x. pointwise eqb n (f x)) xs
  found_key i e = sym (sym (list_any-map f (pointwise eqb n) xs) ∙ has-from_Contains (map f xs) n (found_place i e).0)

  pub missing_key : position (λ x. pointwise eqb n (f x)) xs ≡ None → false ≡ list_any (λ x. pointwise eqb n (f x)) xs
  missing_key e =
      elim (cases_Bool (list_any (λ x. pointwise eqb n (f x)) xs)) [
        | inl here ↦ absurd (missing_place e (Contains-from_has (map f xs) n (list_any-map f (pointwise eqb n) xs ∙ here)))
        | inr fails ↦ sym fails
      ]

-- a new name goes to the end
pub place-last : (ns : List (List ℕ)) (n : List ℕ) → (Contains ns n → ⊥) → place_in (ns ++ n ∷ []) n ≡ length ns
place-last ns n new =
    let long : length (ns ++ n ∷ []) ≡ length ns + 1 = length-append ns (n ∷ []) in
    position_or_len_is (pointwise eqb n) (ns ++ n ∷ []) (length ns) n (omega (arith, long))
    (λ k below. other_name n (get_or (ns ++ n ∷ []) k n) (λ e. new (k, below, sym (get_or_append_left ns (n ∷ []) n k below) ∙ sym e)))
    (λ _. same_name n (get_or (ns ++ n ∷ []) (length ns) n) (sym (get_or_push ns n n (length ns) refl)))

-- ---- a list by places of names

place_here : (n : List ℕ) (ns : List (List ℕ)) (t : List ℕ) → t ≡ n → place_in (n ∷ ns) t ≡ 0
place_here n ns t e = cond-false (not (pointwise eqb t n)) (1 + place_in ns t) 0 (ap not (same_name t n e))

place_there : (n : List ℕ) (ns : List (List ℕ)) (t : List ℕ) → (t ≡ n → ⊥) → place_in (n ∷ ns) t ≡ suc (place_in ns t)
place_there n ns t other =
    let later : place_in (n ∷ ns) t ≡ 1 + place_in ns t = cond-true (not (pointwise eqb t n)) (1 + place_in ns t) 0 (ap not (other_name t n other)) in
    omega (arith, later)

-- what changes at one name changes at its place
pub set-map_place : {Y : Type 0} (f g : List ℕ → Y) (ns : List (List ℕ)) (t : List ℕ) → IsApart ns → Contains ns t → ((n : List ℕ) → (n ≡ t → ⊥) → g n ≡ f n) → map g ns ≡ set (map f ns) (place_in ns t) (g t)
set-map_place f g [] t apart member same = absurd (not_in_nil t member)
set-map_place f g (n ∷ ns) t apart member same =
    elim (is_or_not t n) [
      | inl e ↦
          let rest : map g ns ≡ map f ns = map-agree g f ns (λ x h. same x (λ x_t. lacks-from_has ns n apart.0 (subst (Contains ns) (x_t ∙ e) h))) in
          ap (λ ys. g n ∷ ys) rest ∙ ap (λ x. g x ∷ map f ns) (sym e) ∙ ap (λ i. set (map f (n ∷ ns)) i (g t)) (sym (place_here n ns t e))
      | inr other ↦
          let member_later : Contains ns t = elim (Contains-cases n ns t member) [ inl e ↦ absurd (other (sym e)) | inr later ↦ later ] in
          ap (λ y. y ∷ map g ns) (same n (λ e. other (sym e))) ∙ ap (λ ys. f n ∷ ys) (set-map_place f g ns t apart.1 member_later same)
          ∙ ap (λ i. set (map f (n ∷ ns)) i (g t)) (sym (place_there n ns t other))
    ]

-- what a list says at the place of a name
pub get_or-map_place : {Y : Type 0} (f : List ℕ → Y) (ns : List (List ℕ)) (t : List ℕ) (y : Y) → Contains ns t → get_or (map f ns) (place_in ns t) y ≡ f t
get_or-map_place f ns t y member =
    let lt : place_in ns t < length ns = place_in-lt ns t member in
    get_or-map f ns (place_in ns t) t y lt ∙ ap f (get_or-place_in ns t t lt)

-- the signal that a look-up finds has the name
pub found_name : (names : List (List ℕ)) (n : List ℕ) (found : Option Sig) → SomeIff found (Contains names n) (sig_in names n) → IfSome found (λ s. slice_get names s.0 ≡ Some n)
found_name names n None is = tt
found_name names n (Some s) is =
    let below : place_in names n < length names = place_in-lt names n is.0 in
    let at : slice_get names (place_in names n) ≡ Some n =
    slice_get-get_or names (place_in names n) n below ∙ ap (λ (x : List ℕ). Some x) (get_or-place_in names n n below) in
    subst (λ (t : Sig). slice_get names t.0 ≡ Some n) (sym is.1) at

-- ---- places that stay

-- names behind others do not move them
place-append : (ns ms : List (List ℕ)) (n : List ℕ) → Contains ns n → place_in (ns ++ ms) n ≡ place_in ns n
place-append ns ms n member =
    let i : ℕ = place_in ns n in
    let lt : i < length ns = place_in-lt ns n member in
    let long : length (ns ++ ms) ≡ length ns + length ms = length-append ns ms in
    position_or_len_is (pointwise eqb n) (ns ++ ms) i n (omega (arith, lt, long))
    (λ k below. ap (pointwise eqb n) (get_or_append_left ns ms n k (omega (arith, below, lt))) ∙ fails_before_first (pointwise eqb n) ns k n below)
    (λ _. same_name n (get_or (ns ++ ms) i n) (sym (get_or_append_left ns ms n i lt ∙ get_or-place_in ns n n lt)))

place-push : (ns : List (List ℕ)) (m n : List ℕ) → once ns ≡ ns → Contains ns n → place_in (once (ns ++ m ∷ [])) n ≡ place_in ns n
place-push ns m n stays member =
    elim (cases_Bool (has ns m)) [
      | inl here ↦ ap (λ (zs : List (List ℕ)). place_in zs n) (once-present ns m stays here)
      | inr fails ↦ ap (λ (zs : List (List ℕ)). place_in zs n) (once-absent ns m stays fails) ∙ place-append ns (m ∷ []) n member
    ]

-- nor do names that are added where they are new
pub place-kept : (ns ms : List (List ℕ)) (n : List ℕ) → once ns ≡ ns → Contains ns n → place_in (once (ns ++ ms)) n ≡ place_in ns n
place-kept ns [] n stays member = ap (λ (zs : List (List ℕ)). place_in (once zs) n) (append-nil ns) ∙ ap (λ (zs : List (List ℕ)). place_in zs n) stays
place-kept ns (m ∷ ms) n stays member =
    let now : List (List ℕ) = once (ns ++ m ∷ []) in
    let there : Contains now n = Contains-from_has now n (has-once (ns ++ m ∷ []) n ∙ has-from_Contains (ns ++ m ∷ []) n (Contains-append_left ns (m ∷ []) n member)) in
    ap (λ (zs : List (List ℕ)). place_in (once zs) n) (sym (append_assoc ns (m ∷ []) ms)) ∙ ap (λ (zs : List (List ℕ)). place_in zs n) (sym (once-append_once (ns ++ m ∷ []) ms))
    ∙ place-kept now ms n (once-once (ns ++ m ∷ [])) there ∙ place-push ns m n stays member

-- the signals of names of the list
pub sigs-kept : (ns ms xs : List (List ℕ)) → once ns ≡ ns → ((n : List ℕ) → Contains xs n → Contains ns n) → map (sig_in (once (ns ++ ms))) xs ≡ map (sig_in ns) xs
sigs-kept ns ms xs stays among = map-agree (sig_in (once (ns ++ ms))) (sig_in ns) xs (λ n h. ap (λ (i : ℕ). let s : Sig = record { 0 = i } in s) (place-kept ns ms n stays (among n h)))
