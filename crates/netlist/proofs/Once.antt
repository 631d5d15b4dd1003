-- Lists in which each name stands once.
use Rattle.std.proofs.Common.{◌≡◌, ◌⊎◌, ℕ, ◌<◌, Bool, true, false, not, ◌||◌, cond, eqb, List, [], ◌∷◌, ◌++◌, length, map, get_or, refl, sym, ap, subst, ◌∙◌, inl, inr, append_assoc, arith, zero, suc, ◌≤◌}
use Rattle.std.specs.Prelude.{⊤, ◌≢◌}
use Rattle.std.specs.Cmp.Lexicographic.{pointwise}
use Rattle.std.specs.List.{filter, fold, list_any, Contains, AllPairs}
use Rattle.std.proofs.lemmas.Bool.{cases_Bool, cond-true, cond-false, true≢false, or_left}
use Rattle.std.proofs.lemmas.List.{append-nil, length-append, map-append}
use Rattle.std.proofs.lemmas.List.Elements.{filter-append, Contains-get_or, Contains-push}
use Rattle.std.proofs.lemmas.Slice.Eq.{bytes_eq-Decides}
use Rattle.sr_model.proofs.lemmas.Members.{list_any-from, list_any-found}
use Rattle.netlist.specs.Numbering.{once}

abbrev pub has : List (List ℕ) → List ℕ → Bool
has ns n = list_any (pointwise eqb n) ns

abbrev without : List ℕ → List (List ℕ) → List (List ℕ)
without n ns = filter (λ m. not (pointwise eqb n m)) ns

-- the list with a name, which goes last where it is new
abbrev add_name : List (List ℕ) → List ℕ → List (List ℕ)
add_name ns n = cond (has ns n) ns (ns ++ n ∷ [])

pub list_any-map : {X Y : Type 0} (f : X → Y) (test : Y → Bool) (xs : List X) → list_any test (map f xs) ≡ list_any (λ x. test (f x)) xs
list_any-map f test [] = refl
list_any-map f test (x ∷ xs) = ap (λ b. test (f x) || b) (list_any-map f test xs)

-- ---- names that are one, or differ

pub is_or_not : (n m : List ℕ) → (n ≡ m) ⊎ (n ≡ m → ⊥)
is_or_not n m =
    elim (cases_Bool (pointwise eqb n m)) [
      | inl same ↦ inl ((bytes_eq-Decides n m).0 same)
      | inr fails ↦ inr (λ e. true≢false (sym ((bytes_eq-Decides n m).1 e) ∙ fails))
    ]

pub same_name : (n m : List ℕ) → n ≡ m → pointwise eqb n m ≡ true
same_name n m e = (bytes_eq-Decides n m).1 e

pub other_name : (n m : List ℕ) → (n ≡ m → ⊥) → pointwise eqb n m ≡ false
other_name n m other =
    elim (cases_Bool (pointwise eqb n m)) [
      | inl same ↦ absurd (other ((bytes_eq-Decides n m).0 same))
      | inr fails ↦ fails
    ]

pub has-here : (n : List ℕ) (ns : List (List ℕ)) (m : List ℕ) → m ≡ n → has (n ∷ ns) m ≡ true
has-here n ns m e = or_left (pointwise eqb m n) (has ns m) (same_name m n e)

pub has-there : (n : List ℕ) (ns : List (List ℕ)) (m : List ℕ) → (m ≡ n → ⊥) → has (n ∷ ns) m ≡ has ns m
has-there n ns m other = ap (λ b. b || has ns m) (other_name m n other)

pub Contains-from_has : (ns : List (List ℕ)) (n : List ℕ) → has ns n ≡ true → Contains ns n
Contains-from_has ns n h =
    let found = list_any-found (pointwise eqb n) ns h in
    subst (Contains ns) (sym ((bytes_eq-Decides n found.0).0 found.2)) found.1

pub has-from_Contains : (ns : List (List ℕ)) (n : List ℕ) → Contains ns n → has ns n ≡ true
has-from_Contains ns n h = list_any-from (pointwise eqb n) ns n h (same_name n n refl)

pub lacks-from_has : (ns : List (List ℕ)) (n : List ℕ) → has ns n ≡ false → Contains ns n → ⊥
lacks-from_has ns n fails h = true≢false (sym (has-from_Contains ns n h) ∙ fails)

-- ---- a list without a name

without_same : (n m : List ℕ) (ns : List (List ℕ)) → n ≡ m → without n (m ∷ ns) ≡ without n ns
without_same n m ns e = cond-false (not (pointwise eqb n m)) (m ∷ without n ns) (without n ns) (ap not (same_name n m e))

without_other : (n m : List ℕ) (ns : List (List ℕ)) → (n ≡ m → ⊥) → without n (m ∷ ns) ≡ m ∷ without n ns
without_other n m ns other = cond-true (not (pointwise eqb n m)) (m ∷ without n ns) (without n ns) (ap not (other_name n m other))

has-without_other : (n : List ℕ) (ns : List (List ℕ)) (x : List ℕ) → (n ≡ x → ⊥) → has (without n ns) x ≡ has ns x
has-without_other n [] x other = refl
has-without_other n (m ∷ ms) x other =
    let later : has (without n ms) x ≡ has ms x = has-without_other n ms x other in
    elim (is_or_not n m) [
      | inl e ↦ ap (λ (zs : List (List ℕ)). has zs x) (without_same n m ms e) ∙ later ∙ sym (has-there m ms x (λ f. other (e ∙ sym f)))
      | inr differs ↦ ap (λ (zs : List (List ℕ)). has zs x) (without_other n m ms differs) ∙ ap (λ b. pointwise eqb x m || b) later
    ]

has-without_same : (n : List ℕ) (ns : List (List ℕ)) → has (without n ns) n ≡ false
has-without_same n [] = refl
has-without_same n (m ∷ ms) =
    elim (is_or_not n m) [
      | inl e ↦ ap (λ (zs : List (List ℕ)). has zs n) (without_same n m ms e) ∙ has-without_same n ms
      | inr differs ↦ ap (λ (zs : List (List ℕ)). has zs n) (without_other n m ms differs) ∙ has-there m (without n ms) n differs ∙ has-without_same n ms
    ]

without_absent : (n : List ℕ) (ns : List (List ℕ)) → has ns n ≡ false → without n ns ≡ ns
without_absent n [] fails = refl
without_absent n (m ∷ ms) fails =
    elim (is_or_not n m) [
      | inl e ↦ absurd (true≢false (sym (has-here m ms n e) ∙ fails))
      | inr differs ↦ without_other n m ms differs ∙ ap (λ (zs : List (List ℕ)). m ∷ zs) (without_absent n ms (sym (has-there m ms n differs) ∙ fails))
    ]

-- ---- one more name

add_name-present : (ns : List (List ℕ)) (x : List ℕ) → has ns x ≡ true → add_name ns x ≡ ns
add_name-present ns x h = cond-true (has ns x) ns (ns ++ x ∷ []) h

add_name-absent : (ns : List (List ℕ)) (x : List ℕ) → has ns x ≡ false → add_name ns x ≡ ns ++ x ∷ []
add_name-absent ns x h = cond-false (has ns x) ns (ns ++ x ∷ []) h

without-add_name : (y : List ℕ) (zs : List (List ℕ)) (x : List ℕ) → y ∷ without y (add_name zs x) ≡ add_name (y ∷ without y zs) x
without-add_name y zs x =
    elim (is_or_not y x) [
      | inl e ↦
          elim (cases_Bool (has zs x)) [
            | inl here ↦ ap (λ (ns : List (List ℕ)). y ∷ without y ns) (add_name-present zs x here) ∙ sym (add_name-present (y ∷ without y zs) x (has-here y (without y zs) x (sym e)))
            | inr fails ↦
                ap (λ (ns : List (List ℕ)). y ∷ without y ns) (add_name-absent zs x fails)
                ∙ ap (λ (ns : List (List ℕ)). y ∷ ns) (filter-append (λ m. not (pointwise eqb y m)) zs (x ∷ []) ∙ ap (λ (ns : List (List ℕ)). without y zs ++ ns) (without_same y x [] e) ∙ append-nil (without y zs))
                ∙ sym (add_name-present (y ∷ without y zs) x (has-here y (without y zs) x (sym e)))
          ]
      | inr differs ↦
          let same_has : has (y ∷ without y zs) x ≡ has zs x = has-there y (without y zs) x (λ e. differs (sym e)) ∙ has-without_other y zs x differs in
          elim (cases_Bool (has zs x)) [
            | inl here ↦ ap (λ (ns : List (List ℕ)). y ∷ without y ns) (add_name-present zs x here) ∙ sym (add_name-present (y ∷ without y zs) x (same_has ∙ here))
            | inr fails ↦
                ap (λ (ns : List (List ℕ)). y ∷ without y ns) (add_name-absent zs x fails)
                ∙ ap (λ (ns : List (List ℕ)). y ∷ ns) (filter-append (λ m. not (pointwise eqb y m)) zs (x ∷ []) ∙ ap (λ (ns : List (List ℕ)). without y zs ++ ns) (without_other y x [] differs))
                ∙ sym (add_name-absent (y ∷ without y zs) x (same_has ∙ fails))
          ]
    ]

once-push : (ns : List (List ℕ)) (x : List ℕ) → once (ns ++ x ∷ []) ≡ add_name (once ns) x
once-push [] x = refl
once-push (y ∷ ys) x = ap (λ (ns : List (List ℕ)). y ∷ without y ns) (once-push ys x) ∙ without-add_name y (once ys) x

once-append_fold : (ns ms : List (List ℕ)) → once (ns ++ ms) ≡ fold add_name (once ns) ms
once-append_fold ns [] = ap once (append-nil ns)
once-append_fold ns (m ∷ ms) =
    ap once (sym (append_assoc ns (m ∷ []) ms)) ∙ once-append_fold (ns ++ m ∷ []) ms ∙ ap (λ (zs : List (List ℕ)). fold add_name zs ms) (once-push ns m)

pub has-once : (ns : List (List ℕ)) (x : List ℕ) → has (once ns) x ≡ has ns x
has-once [] x = refl
has-once (y ∷ ys) x =
    elim (is_or_not x y) [
      | inl e ↦ has-here y (without y (once ys)) x e ∙ sym (has-here y ys x e)
      | inr differs ↦ has-there y (without y (once ys)) x differs ∙ has-without_other y (once ys) x (λ e. differs (sym e)) ∙ has-once ys x ∙ sym (has-there y ys x differs)
    ]

-- ---- names of which no two are one

abbrev pub IsApart : List (List ℕ) → Type 0
IsApart [] = ⊤
IsApart (n ∷ ns) = (has ns n ≡ false) × IsApart ns

without_apart : (n : List ℕ) (ns : List (List ℕ)) → IsApart ns → IsApart (without n ns)
without_apart n [] apart = tt
without_apart n (m ∷ ms) apart =
    elim (is_or_not n m) [
      | inl e ↦ subst IsApart (sym (without_same n m ms e)) (without_apart n ms apart.1)
      | inr differs ↦ subst IsApart (sym (without_other n m ms differs)) (has-without_other n ms m differs ∙ apart.0, without_apart n ms apart.1)
    ]

pub once-apart : (ns : List (List ℕ)) → IsApart (once ns)
once-apart [] = tt
once-apart (n ∷ ns) = (has-without_same n (once ns), without_apart n (once ns) (once-apart ns))

once-of_apart : (ns : List (List ℕ)) → IsApart ns → once ns ≡ ns
once-of_apart [] apart = refl
once-of_apart (n ∷ ns) apart =
    ap (λ (zs : List (List ℕ)). n ∷ without n zs) (once-of_apart ns apart.1) ∙ ap (λ (zs : List (List ℕ)). n ∷ zs) (without_absent n ns apart.0)

pub once-once : (ns : List (List ℕ)) → once (once ns) ≡ once ns
once-once ns = once-of_apart (once ns) (once-apart ns)

-- adding to what was added before
pub once-append_once : (ns ms : List (List ℕ)) → once (once ns ++ ms) ≡ once (ns ++ ms)
once-append_once ns ms = once-append_fold (once ns) ms ∙ ap (λ (zs : List (List ℕ)). fold add_name zs ms) (once-once ns) ∙ sym (once-append_fold ns ms)

pub once-present : (ns : List (List ℕ)) (n : List ℕ) → once ns ≡ ns → has ns n ≡ true → once (ns ++ n ∷ []) ≡ ns
once-present ns n e h = once-push ns n ∙ ap (λ (zs : List (List ℕ)). add_name zs n) e ∙ add_name-present ns n h

pub once-absent : (ns : List (List ℕ)) (n : List ℕ) → once ns ≡ ns → has ns n ≡ false → once (ns ++ n ∷ []) ≡ ns ++ n ∷ []
once-absent ns n e h = once-push ns n ∙ ap (λ (zs : List (List ℕ)). add_name zs n) e ∙ add_name-absent ns n h

-- two places hold two names
pub apart_places : (ns : List (List ℕ)) (i j : ℕ) (d : List ℕ) → IsApart ns → i < j → j < length ns → get_or ns i d ≡ get_or ns j d → ⊥
apart_places [] i j d apart lt within e = omega arith
apart_places (n ∷ ns) i zero d apart lt within e = omega arith
apart_places (n ∷ ns) zero (suc j) d apart lt within e =
    let below : j < length ns = omega arith in
    lacks-from_has ns n apart.0 (subst (Contains ns) (sym e) (Contains-get_or ns j d below))
apart_places (n ∷ ns) (suc i) (suc j) d apart lt within e = apart_places ns i j d apart.1 (omega arith) (omega arith) e

pub AllPairs-from_apart : (ns : List (List ℕ)) → IsApart ns → AllPairs (λ a b. a ≢ b) ns
AllPairs-from_apart ns apart i j d lt within e = apart_places ns i j d apart lt within e

pub apart_from_AllPairs : (ns : List (List ℕ)) → AllPairs (λ a b. a ≢ b) ns → IsApart ns
apart_from_AllPairs [] pairs = tt
apart_from_AllPairs (n ∷ ns) pairs = (
  elim (cases_Bool (has ns n)) [
    | inl here ↦ let h : Contains ns n = Contains-from_has ns n here in absurd (pairs 0 (suc h.0) n (omega arith) (omega (arith, h.1)) (sym h.2))
    | inr fails ↦ fails
  ],
  apart_from_AllPairs ns (λ i j d lt within. pairs (suc i) (suc j) d (omega arith) (omega arith)),
)

-- ---- a table whose items hold the names

module _ {X : Type 0} (f : X → List ℕ) (keys : List X) (ns : List (List ℕ)) (n : List ℕ) (is : map f keys ≡ ns) (stays : once (map f keys) ≡ map f keys) where
  pub table_same : true ≡ list_any (λ k. pointwise eqb n (f k)) keys → ns ≡ once (ns ++ n ∷ [])
  table_same found =
      subst (λ (zs : List (List ℕ)). zs ≡ once (zs ++ n ∷ [])) is (sym (once-present (map f keys) n stays (list_any-map f (pointwise eqb n) keys ∙ sym found)))

  module _ (x : X) (after : List X) (missing : false ≡ list_any (λ k. pointwise eqb n (f k)) keys) (holds : f x ≡ n)
      (added : after ≡ cond (list_any (λ k. pointwise eqb (f x) (f k)) keys) keys (keys ++ x ∷ [])) where
    pub added_last : map f after ≡ map f keys ++ n ∷ []
    added_last =
        let fails : list_any (λ k. pointwise eqb (f x) (f k)) keys ≡ false = ap (λ m. list_any (λ k. pointwise eqb m (f k)) keys) holds ∙ sym missing in
        ap (map f) (added ∙ cond-false (list_any (λ k. pointwise eqb (f x) (f k)) keys) keys (keys ++ x ∷ []) fails)
        ∙ map-append f keys (x ∷ []) ∙ ap (λ m. map f keys ++ m ∷ []) holds

    table_last : once (map f keys ++ n ∷ []) ≡ map f keys ++ n ∷ []
    table_last = once-absent (map f keys) n stays (list_any-map f (pointwise eqb n) keys ∙ sym missing)

    pub table_added : map f after ≡ once (ns ++ n ∷ [])
    table_added = added_last ∙ sym table_last ∙ ap (λ (zs : List (List ℕ)). once (zs ++ n ∷ [])) is

    pub table_stays : once (map f after) ≡ map f after
    table_stays = ap once added_last ∙ once-absent_again ∙ sym added_last
      where
        once-absent_again : once (map f keys ++ n ∷ []) ≡ map f keys ++ n ∷ []
        once-absent_again = table_last

-- the next name of a list
pub once_more : (ns front more : List (List ℕ)) (m : List ℕ) (now after : List (List ℕ)) → more ≡ front ++ m ∷ [] → now ≡ once (ns ++ front) → after ≡ once (now ++ m ∷ []) → after ≡ once (ns ++ more)
once_more ns front more m now after next so_far added =
    added ∙ ap (λ (zs : List (List ℕ)). once (zs ++ m ∷ [])) so_far ∙ once-append_once (ns ++ front) (m ∷ []) ∙ ap once (append_assoc ns front (m ∷ [])) ∙ ap (λ (zs : List (List ℕ)). once (ns ++ zs)) (sym next)

-- a name, and then those of a list
pub once_then : (ns : List (List ℕ)) (n : List ℕ) (ms mid : List (List ℕ)) → mid ≡ once (ns ++ n ∷ []) → once (mid ++ ms) ≡ once (ns ++ n ∷ ms)
once_then ns n ms mid e = ap (λ (zs : List (List ℕ)). once (zs ++ ms)) e ∙ once-append_once (ns ++ n ∷ []) ms ∙ ap once (append_assoc ns (n ∷ []) ms)

-- ---- a name behind others

pub has-append : (ns ms : List (List ℕ)) (n : List ℕ) → has (ns ++ ms) n ≡ has ns n || has ms n
has-append [] ms n = refl
has-append (x ∷ ns) ms n = ap (λ b. pointwise eqb n x || b) (has-append ns ms n) ∙ sym (or_assoc (pointwise eqb n x) (has ns n) (has ms n))
  where
    or_assoc : (a b c : Bool) → (a || b) || c ≡ a || (b || c)
    or_assoc true b c = refl
    or_assoc false b c = refl

pub has-push_same : (ns : List (List ℕ)) (t : List ℕ) → has (ns ++ t ∷ []) t ≡ true
has-push_same ns t = has-from_Contains (ns ++ t ∷ []) t (Contains-push ns t)

pub has-push_other : (ns : List (List ℕ)) (t n : List ℕ) → (n ≡ t → ⊥) → has (ns ++ t ∷ []) n ≡ has ns n
has-push_other ns t n other = has-append ns (t ∷ []) n ∙ ap (λ b. has ns n || b) (has-there t [] n other) ∙ or_none (has ns n)
  where
    or_none : (b : Bool) → b || false ≡ b
    or_none true = refl
    or_none false = refl

pub has-push_present : (ns : List (List ℕ)) (t n : List ℕ) → has ns t ≡ true → has (ns ++ t ∷ []) n ≡ has ns n
has-push_present ns t n here =
    elim (is_or_not n t) [
      | inl e ↦ ap (has (ns ++ t ∷ [])) e ∙ has-push_same ns t ∙ sym here ∙ ap (has ns) (sym e)
      | inr other ↦ has-push_other ns t n other
    ]

pub once-push_present : (ns : List (List ℕ)) (t : List ℕ) → has ns t ≡ true → once (ns ++ t ∷ []) ≡ once ns
once-push_present ns t here = once-push ns t ∙ add_name-present (once ns) t (has-once ns t ∙ here)

pub once-push_absent : (ns : List (List ℕ)) (t : List ℕ) → has ns t ≡ false → once (ns ++ t ∷ []) ≡ once ns ++ t ∷ []
once-push_absent ns t fails = once-push ns t ∙ add_name-absent (once ns) t (has-once ns t ∙ fails)

add_name-longer : (ns : List (List ℕ)) (n : List ℕ) → length ns ≤ length (add_name ns n)
add_name-longer ns n =
    elim (cases_Bool (has ns n)) [
      | inl here ↦ omega (arith, ap length (add_name-present ns n here))
      | inr fails ↦ omega (arith, ap length (add_name-absent ns n fails), length-append ns (n ∷ []))
    ]

fold-longer : (ns ms : List (List ℕ)) → length ns ≤ length (fold add_name ns ms)
fold-longer ns [] = omega arith
fold-longer ns (m ∷ ms) = omega (arith, add_name-longer ns m, fold-longer (add_name ns m) ms)

-- more names are no fewer, each once
pub once-longer : (ns ms : List (List ℕ)) → length (once ns) ≤ length (once (ns ++ ms))
once-longer ns ms = omega (arith, fold-longer (once ns) ms, ap length (once-append_fold ns ms))
