-- Which value a word gives to a key.
use Rattle.std.proofs.Common.{◌≡◌, ◌≢◌, ◌<◌, ℕ, Bool, true, false, List, [], ◌∷◌, ◌++◌, length, get_or, Option, Some, None, Bor, refl, sym, ap, subst, ◌∙◌, lit<, arith, rules, tests}
use Rattle.std.specs.Prelude.{All, MatchOption, IsSome, IsTrue, option_map, ◌↔◌, ◌==◌, not, is_some}
use Rattle.std.specs.List.{list_all, slice_split}
use Rattle.std.proofs.Math.Seq.{get_or-append_seam}
use Rattle.std.proofs.lemmas.List.{length-append}
use Rattle.std.proofs.lemmas.List.Elements.{All-head, All-tail, All-from_get_or, All-weaker}
use Rattle.std.proofs.lemmas.List.Sums.{AllPass-from_list_all, list_all-from_AllPass}
use Rattle.std.specs.Str.{bytes_eq}
use Rattle.std.proofs.lemmas.Bool.{false≢true}
use Rattle.std.proofs.lemmas.Option.{none-some, same_Some}
use Rattle.std.proofs.lemmas.Slice.Eq.{bytes_eq-Decides}
use Rattle.std.proofs.lemmas.Str.Pattern.{IsSplitOnceResult, split_parts}
use Rattle.restore_program.specs.Words.{Gives, HasShape, Takes, names}

-- the part before the first `=`, and the part behind it
first_parts : (key value other more : List ℕ) → key ++ 61 ∷ value ≡ other ++ 61 ∷ more → All (λ b. b ≢ 61) key → All (λ b. b ≢ 61) other → (key ≡ other) × (value ≡ more)
first_parts [] value [] more e f g = (refl, cc)
first_parts [] value (b ∷ other) more e f g = let same : 61 ≡ b = cc in absurd (All-head (λ b. b ≢ 61) b other g (sym same))
first_parts (b ∷ key) value [] more e f g = let same : b ≡ 61 = cc in absurd (All-head (λ b. b ≢ 61) b key f same)
first_parts (b ∷ key) value (d ∷ other) more e f g =
    let same : b ≡ d = cc in
    let rest : key ++ 61 ∷ value ≡ other ++ 61 ∷ more = cc in
    let parts = first_parts key value other more rest (All-tail (λ b. b ≢ 61) b key f) (All-tail (λ b. b ≢ 61) d other g) in
    let keys : key ≡ other = parts.0 in
    (cc, parts.1)

-- a word gives one key one value
pub same_gift : (word key value other more : List ℕ) → Gives word key value → Gives word other more → (key ≡ other) × (value ≡ more)
same_gift word key value other more g h = first_parts key value other more (sym g.spelled ∙ h.spelled) g.first h.first

-- a word with no `=` gives nothing
pub gives_nothing : (word key value : List ℕ) → ((i : ℕ) → i < length word → get_or word i 0 ≢ 61) → ¬ Gives word key value
gives_nothing word key value none g =
    let within : length key < length word = omega (arith, ap length g.spelled, length-append {A = ℕ}) in
    none (length key) within (ap (λ w. get_or w (length key) 0) g.spelled ∙ get_or-append_seam key 61 value 0)

-- what the two parts say
pub given_parts : (word : List ℕ) (key value : List ℕ) → word ≡ key ++ 61 ∷ value → ((i : ℕ) → i < length key → get_or key i 0 ≢ 61) → Gives word key value
given_parts word key value e none = record { spelled = e; first = All-from_get_or (λ b. b ≢ 61) key 0 none }

-- the answer that a word's value is this
abbrev pub IsValue : List ℕ → List ℕ → Option (Bor (List ℕ)) → Type 0
IsValue word key r = (value : List ℕ) → (option_map (λ (v : Bor (List ℕ)). v.now) r ≡ Some value) ↔ Gives word key value

pub value_at : (word key : List ℕ) (r : Option (Bor (List ℕ))) (v : Bor (List ℕ)) → IsValue word key r → r ≡ Some v → Gives word key v.now
value_at word key r v says e = (says v.now).0 (ap (option_map (λ (v : Bor (List ℕ)). v.now)) e)

pub given_some : (word key : List ℕ) (r : Option (Bor (List ℕ))) → IsValue word key r → is_some r ≡ true → (value : List ℕ) × Gives word key value
given_some word key None says e = absurd (cc)
given_some word key (Some v) says e = (v.now, (says v.now).0 refl)

pub some_given : (word key : List ℕ) (r : Option (Bor (List ℕ))) → IsValue word key r → (value : List ℕ) × Gives word key value → IsSome r
some_given word key None says (value, g) = let some : None ≡ Some value = (says value).1 g in cc
some_given word key (Some v) says given = search rules

pub given_none : (word key : List ℕ) (r : Option (Bor (List ℕ))) → IsValue word key r → is_some r ≡ false → ¬ ((value : List ℕ) × Gives word key value)
given_none word key None says e (value, g) = let some : None ≡ Some value = (says value).1 g in cc
given_none word key (Some v) says e given = absurd (cc)

-- a test of whether there is none
pub some_left : (b : Bool) → true ≡ not b → ¬ (b ≡ true)
some_left true e t = false≢true (sym e)
some_left false e t = false≢true t

pub none_left : (b : Bool) → false ≡ not b → b ≡ true
none_left true e = refl
none_left false e = absurd (false≢true e)

-- ---- what `split_once` gives

abbrev TwoParts : List ℕ → Option (Bor (List ℕ) × Bor (List ℕ)) → Type 0
TwoParts word r = MatchOption r ((i : ℕ) → i < length word → get_or word i 0 ≢ 61) (λ x. (word ≡ x.0.now ++ (61 ∷ x.1.now)) × ((i : ℕ) → i < length x.0.now → get_or x.0.now i 0 ≢ 61))

parts_of : (word : List ℕ) (r : Option (Bor (List ℕ) × Bor (List ℕ))) → IsSplitOnceResult 61 word r → TwoParts word r
parts_of word r h = split_parts 61 word r h (lit< tt)

pub value_none : (word key : List ℕ) (r : Option (Bor (List ℕ) × Bor (List ℕ))) (result : Option (Bor (List ℕ))) → IsSplitOnceResult 61 word r → r ≡ None → result ≡ None → IsValue word key result
value_none word key r result h e none =
    let nothing : (i : ℕ) → i < length word → get_or word i 0 ≢ 61 = subst (TwoParts word) e (parts_of word r h) in
    λ value. (
      λ some. let is : option_map (λ (v : Bor (List ℕ)). v.now) None ≡ Some value = ap (option_map (λ (v : Bor (List ℕ)). v.now)) (sym none) ∙ some in absurd (cc),
      λ g. absurd (gives_nothing word key value nothing g),
    )

both_parts : (word : List ℕ) (r : Option (Bor (List ℕ) × Bor (List ℕ))) (name value : Bor (List ℕ)) → IsSplitOnceResult 61 word r → r ≡ Some (name, value) → Gives word name.now value.now
both_parts word r name value h e =
    let parts : (word ≡ name.now ++ (61 ∷ value.now)) × ((i : ℕ) → i < length name.now → get_or name.now i 0 ≢ 61) = subst (TwoParts word) e (parts_of word r h) in
    given_parts word name.now value.now parts.0 parts.1

pub value_here : (word key : List ℕ) (r : Option (Bor (List ℕ) × Bor (List ℕ))) (name value : Bor (List ℕ)) (same : Bool) → IsSplitOnceResult 61 word r → r ≡ Some (name, value) → same ≡ bytes_eq name.now key → same ≡ true
    → IsValue word key (Some value)
value_here word key r name value same h e t holds =
    let is : name.now ≡ key = (bytes_eq-Decides name.now key).0 (sym t ∙ holds) in
    let gives : Gives word key value.now = subst (λ k. Gives word k value.now) is (both_parts word r name value h e) in
    λ other. (
      λ some. subst (Gives word key) (same_Some value.now other some) gives,
      λ g. ap Some (same_gift word key value.now key other gives g).1,
    )

pub value_other : (word key : List ℕ) (r : Option (Bor (List ℕ) × Bor (List ℕ))) (name value : Bor (List ℕ)) (same : Bool) → IsSplitOnceResult 61 word r → r ≡ Some (name, value) → same ≡ bytes_eq name.now key → same ≡ false
    → IsValue word key None
value_other word key r name value same h e t fails = λ other. (
  λ some. absurd (none-some other some),
  λ g. absurd (false≢true (sym fails ∙ t ∙ (bytes_eq-Decides name.now key).1 (same_gift word name.now value.now key other (both_parts word r name value h e) g).0)),
)

-- ---- names that are parted by commas

is_empty_text : (item : List ℕ) → not (length item == 0) ≡ true → item ≢ []
is_empty_text [] e is = absurd (cc)
is_empty_text (b ∷ item) e is = cc

is_full_text : (item : List ℕ) → item ≢ [] → not (length item == 0) ≡ true
is_full_text [] full = absurd (full refl)
is_full_text (b ∷ item) full = grind (arith, tests)

-- what a test of each part says of the parts
pub names_are_given : (takes : Takes) (value : List ℕ) (r : Bool) → takes ≡ names → r ≡ list_all (λ item. not (length item == 0)) (slice_split (λ b. b == 44) value) → (IsTrue r → HasShape takes value) × (HasShape takes value → IsTrue r)
names_are_given takes value r is e =
    let test : List ℕ → Bool = λ item. not (length item == 0) in
    let parts = slice_split (λ b. b == 44) value in (
      λ t. subst (λ t. HasShape t value) (sym is) (All-weaker (λ item. test item ≡ true) (λ item. item ≢ []) is_empty_text parts (AllPass-from_list_all test parts (sym e ∙ t))),
      λ shape. e ∙ list_all-from_AllPass test parts (All-weaker (λ item. item ≢ []) (λ item. test item ≡ true) is_full_text parts (subst (λ t. HasShape t value) is shape)),
    )

-- ---- a value and a test of it

pub tested_value : (word name : List ℕ) (r : Option (Bor (List ℕ))) (v : Bor (List ℕ)) (b : Bool) (Q : List ℕ → Type 0) → IsValue word name r → r ≡ Some v → (IsTrue b → Q v.now) × (Q v.now → IsTrue b)
    → (IsTrue b → (value : List ℕ) × Gives word name value × Q value) × (((value : List ℕ) × Gives word name value × Q value) → IsTrue b)
tested_value word name r v b Q says e test =
    let gives = value_at word name r v says e in (
      λ t. (v.now, gives, test.0 t),
      λ (value, other, q). test.1 (subst Q (same_gift word name value name v.now other gives).1 q),
    )

pub tested_for : (word name value : List ℕ) (r : Option (Bor (List ℕ))) (v : Bor (List ℕ)) (b : Bool) → IsValue word name r → r ≡ Some v → b ≡ bytes_eq v.now value → (IsTrue b → Gives word name value) × (Gives word name value → IsTrue b)
tested_for word name value r v b says e test =
    let gives = value_at word name r v says e in
    let same = bytes_eq-Decides v.now value in (
      λ t. subst (Gives word name) (same.0 (sym test ∙ t)) gives,
      λ other. test ∙ same.1 (same_gift word name v.now name value gives other).1,
    )
