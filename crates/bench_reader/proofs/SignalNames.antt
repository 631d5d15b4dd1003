-- Members of joined lists, and the names of signals.
use Rattle.std.proofs.Common.{◌≡◌, ◌≢◌, ℕ, ◌<◌, ◌≤◌, Bool, true, false, not, ◌||◌, eqb, List, [], ◌∷◌, ◌++◌, length, map, get_or, refl, sym, ap, subst, ◌∙◌, arith, inl, inr}
use Rattle.std.specs.Cmp.Lexicographic.{pointwise}
use Rattle.std.specs.List.{All, AllPairs, Contains, filter, flat_map}
use Rattle.std.proofs.lemmas.Bool.{cases_Bool, cond-true}
use Rattle.std.proofs.lemmas.Cmp.{nat_list_eq_equiv}
use Rattle.std.proofs.lemmas.List.{get_or-map, length-map}
use Rattle.std.proofs.lemmas.List.Concat.{flat_map-append}
use Rattle.std.proofs.lemmas.List.Elements.{Contains-append_left, Contains-append_right, Contains-append_cases}
use Rattle.std.proofs.lemmas.List.FromFn.{get_or-map-range_with_len, length-map-range_with_len}
use Rattle.std.proofs.lemmas.Map.Made.{IsDistinct-from_AllPairs, length-le_from_is_member}
use Rattle.std.proofs.lemmas.Slice.Eq.{bytes_eq-Decides}
use Rattle.sr_model.specs.declared.cells.Sig.{Sig}
use Rattle.sr_model.proofs.lemmas.Members.{not_in_nil, Contains-here, Contains-there, Contains-cases}
use Rattle.netlist.specs.Numbering.{once, sig_in}
use Rattle.netlist.specs.Wiring.{signals_below}
use Rattle.netlist.proofs.lemmas.Names.{has, has-append, Contains-from_has, has-from_Contains, lacks-from_has, IsApart, other_name, apart_from_AllPairs, AllPairs-from_apart, place_in-lt, get_or-place_in, place_in-get_or}
use Rattle.bench_reader.specs.Printed.{name_in}

-- ---- members

pub map_found : {X Y : Type 0} (f : X → Y) (xs : List X) (y : Y) → Contains (map f xs) y → (x : X) × Contains xs x × (f x ≡ y)
map_found f [] y h = absurd (not_in_nil y h)
map_found f (x ∷ xs) y h =
    elim (Contains-cases (f x) (map f xs) y h) [
      | inl e ↦ (x, Contains-here x xs, e)
      | inr later ↦ let found = map_found f xs y later in (found.0, Contains-there x xs found.0 found.1, found.2)
    ]

pub flat_member : {X Y : Type 0} (f : X → List Y) (xs : List X) (x : X) (y : Y) → Contains xs x → Contains (f x) y → Contains (flat_map f xs) y
flat_member f [] x y h there = absurd (not_in_nil x h)
flat_member f (z ∷ xs) x y h there =
    elim (Contains-cases z xs x h) [
      | inl e ↦ Contains-append_left (f z) (flat_map f xs) y (subst (λ w. Contains (f w) y) (sym e) there)
      | inr later ↦ Contains-append_right (f z) (flat_map f xs) y (flat_member f xs x y later there)
    ]

pub flat_found : {X Y : Type 0} (f : X → List Y) (xs : List X) (y : Y) → Contains (flat_map f xs) y → (x : X) × Contains xs x × Contains (f x) y
flat_found f [] y h = absurd (not_in_nil y h)
flat_found f (x ∷ xs) y h =
    elim (Contains-append_cases (f x) (flat_map f xs) y h) [
      | inl here ↦ (x, Contains-here x xs, here)
      | inr later ↦ let found = flat_found f xs y later in (found.0, Contains-there x xs found.0 found.1, found.2)
    ]

pub flat_flat : {X Y Z : Type 0} (f : Y → List Z) (g : X → List Y) (xs : List X) → flat_map f (flat_map g xs) ≡ flat_map (λ x. flat_map f (g x)) xs
flat_flat f g [] = refl
flat_flat f g (x ∷ xs) = flat_map-append f (g x) (flat_map g xs) ∙ ap (λ zs. flat_map f (g x) ++ zs) (flat_flat f g xs)

pub flat_none : {X Y : Type 0} (f : X → List Y) (xs : List X) → ((x : X) → f x ≡ []) → flat_map f xs ≡ []
flat_none f [] none = refl
flat_none f (x ∷ xs) none = ap (λ zs. zs ++ flat_map f xs) (none x) ∙ flat_none f xs none

pub flat_agree : {X Y : Type 0} (f g : X → List Y) (xs : List X) → ((x : X) → f x ≡ g x) → flat_map f xs ≡ flat_map g xs
flat_agree f g [] same = refl
flat_agree f g (x ∷ xs) same = ap (λ zs. zs ++ flat_map f xs) (same x) ∙ ap (λ zs. g x ++ zs) (flat_agree f g xs same)

-- ---- lists in which each name stands once

has_not : (ns : List (List ℕ)) (n : List ℕ) → (Contains ns n → ⊥) → has ns n ≡ false
has_not ns n lacks = elim (cases_Bool (has ns n)) [ inl here ↦ absurd (lacks (Contains-from_has ns n here)) | inr e ↦ e ]

or_none : (a b : Bool) → a ≡ false → b ≡ false → (a || b) ≡ false
or_none true b e f = absurd cc
or_none false b e f = f

pub apart_both : (ns ms : List (List ℕ)) → IsApart ns → IsApart ms → ((n : List ℕ) → Contains ns n → Contains ms n → ⊥) → IsApart (ns ++ ms)
apart_both [] ms a b differ = b
apart_both (n ∷ ns) ms a b differ = (
  has-append ns ms n ∙ or_none (has ns n) (has ms n) a.0 (has_not ms n (differ n (Contains-here n ns))),
  apart_both ns ms a.1 b (λ m h. differ m (Contains-there n ns m h)),
)

without_absent : (n : List ℕ) (ns : List (List ℕ)) → (Contains ns n → ⊥) → filter (λ m. not (pointwise eqb n m)) ns ≡ ns
without_absent n [] lacks = refl
without_absent n (m ∷ ns) lacks =
    cond-true (not (pointwise eqb n m)) _ _ (ap not (other_name n m (λ e. lacks (subst (λ x. Contains (m ∷ ns) x) (sym e) (Contains-here m ns)))))
    ∙ ap (λ (zs : List (List ℕ)). m ∷ zs) (without_absent n ns (λ h. lacks (Contains-there m ns n h)))

pub once_of_apart : (ns : List (List ℕ)) → IsApart ns → once ns ≡ ns
once_of_apart [] apart = refl
once_of_apart (n ∷ ns) apart =
    ap (λ (zs : List (List ℕ)). n ∷ filter (λ m. not (pointwise eqb n m)) zs) (once_of_apart ns apart.1)
    ∙ ap (λ (zs : List (List ℕ)). n ∷ zs) (without_absent n ns (lacks-from_has ns n apart.0))

-- names that stand once are no more than others that have them all
pub apart_fewer : (ns ms : List (List ℕ)) → IsApart ns → ((n : List ℕ) → Contains ns n → Contains ms n) → length ns ≤ length ms
apart_fewer ns ms apart within =
    length-le_from_is_member nat_list_eq_equiv ns ms (IsDistinct-from_AllPairs bytes_eq-Decides ns (AllPairs-from_apart ns apart))
    (λ n h. has-from_Contains ms n (within n (Contains-from_has ns n h)))

-- ---- signals and their names

abbrev pub number : ℕ → Sig
number k = record { 0 = k }

-- the name of the signal of a name
pub name_of_sig : (ns : List (List ℕ)) (n : List ℕ) → Contains ns n → name_in ns (sig_in ns n) ≡ n
name_of_sig ns n h = get_or-place_in ns n [] (place_in-lt ns n h)

-- and the signal of the name of a signal
pub sig_of_name : (ns : List (List ℕ)) (s : Sig) → IsApart ns → s.0 < length ns → sig_in ns (name_in ns s) ≡ s
sig_of_name ns s apart lt = ap number (place_in-get_or ns s.0 [] apart lt)

pub names_back : (ns zs : List (List ℕ)) → ((z : List ℕ) → Contains zs z → Contains ns z) → map (name_in ns) (map (sig_in ns) zs) ≡ zs
names_back ns [] within = refl
names_back ns (z ∷ zs) within =
    ap (λ n. n ∷ map (name_in ns) (map (sig_in ns) zs)) (name_of_sig ns z (within z (Contains-here z zs)))
    ∙ ap (λ (rest : List (List ℕ)). z ∷ rest) (names_back ns zs (λ y h. within y (Contains-there z zs y h)))

-- signals that stand once have names that stand once
pub names_apart : (ns : List (List ℕ)) (signals : List Sig) → IsApart ns → All (λ s. s.0 < length ns) signals → AllPairs (λ a b. a ≢ b) signals → IsApart (map (name_in ns) signals)
names_apart ns signals apart within pairs =
    apart_from_AllPairs (map (name_in ns) signals) (λ i j d lt below e.
    let size : length (map (name_in ns) signals) ≡ length signals = length-map signals (name_in ns) in
    let below_j : j < length signals = omega arith in
    let below_i : i < length signals = omega arith in
    let a = get_or signals i (number 0) in
    let b = get_or signals j (number 0) in
    let same : name_in ns a ≡ name_in ns b = sym (get_or-map (name_in ns) signals i (number 0) d below_i) ∙ e ∙ get_or-map (name_in ns) signals j (number 0) d below_j in
    pairs i j (number 0) lt below_j
    (sym (sig_of_name ns a apart (within i (number 0) below_i)) ∙ ap (sig_in ns) same ∙ sig_of_name ns b apart (within j (number 0) below_j)))

pub signals_once : (n : ℕ) → AllPairs (λ a b. a ≢ b) (signals_below n)
signals_once n i j d lt below e =
    let size : length (signals_below n) ≡ n = length-map-range_with_len number 0 n in
    let at_i : get_or (signals_below n) i d ≡ number i = get_or-map-range_with_len number 0 n i i d (omega arith) (omega arith) in
    let at_j : get_or (signals_below n) j d ≡ number j = get_or-map-range_with_len number 0 n j j d (omega arith) (omega arith) in
    let same : i ≡ j = ap (λ (s : Sig). s.0) (sym at_i ∙ e ∙ at_j) in
    absurd (omega arith)
