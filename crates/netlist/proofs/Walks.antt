-- The walk towards a loop, and that it comes to one loop alone.
use Rattle.std.proofs.Common.{ℕ, zero, suc, ◌≡◌, ◌≢◌, ◌+◌, ◌-◌, ◌<◌, ◌≤◌, Bool, true, false, cond, List, [], ◌∷◌, ◌++◌, length, get_or, set, take, drop, replicate, Option, Some, None, refl, sym, ap, ◌∙◌, subst, inl, inr, arith, count_by, not}
use Rattle.std.specs.Option.{is_some}
use Rattle.std.specs.List.{AllPairs, Contains}
use Rattle.std.proofs.lemmas.Bool.{cases_eq, cases_lt, cases_order, both_ways, false≢true}
use Rattle.std.proofs.lemmas.List.{append_assoc, drop_more, get_or_at, get_or_default, get_or_past, get_or-set_other, get_or-set_same, get_or-take, length-append, length-set, length-take-le, length-replicate, take-append-drop}
use Rattle.std.proofs.lemmas.List.Sums.{sum_by-cons, sum_by-set}
use Rattle.sr_model.specs.declared.cells.Sig.{Sig}
use Rattle.sr_model.specs.Netlist.{Driver, Input}
use Rattle.netlist.specs.Wiring.{is_gate}
use Rattle.netlist.specs.Loops.{IsFedByLoop, IsLeastFed, IsNext, IsWalk, IsLoop}
use Rattle.netlist.specs.Laws.{LoopIsUnique}
use Rattle.netlist.specs.Ranking.{MarksFed, AreUnmarked, pin_at, pins_at}
use Rattle.netlist.proofs.Marks.{number, Contains-cons_cases, Contains-head, Contains-later, Contains-none, member_place}

-- two signals that each stand first among those that loops feed are one
same_first : (drivers : List Driver) (before other : List Sig) (x y : Sig) (after rest : List Sig) → before ++ x ∷ after ≡ other ++ y ∷ rest → IsFedByLoop drivers x → IsFedByLoop drivers y
    → ((s : Sig) → Contains before s → IsFedByLoop drivers s → ⊥) → ((s : Sig) → Contains other s → IsFedByLoop drivers s → ⊥) → x ≡ y
same_first drivers [] [] x y after rest e fed_x fed_y none other_none = cc
same_first drivers [] (z ∷ other) x y after rest e fed_x fed_y none other_none = let same : z ≡ x = cc in absurd (other_none x (subst (Contains (z ∷ other)) same (Contains-head z other)) fed_x)
same_first drivers (z ∷ before) [] x y after rest e fed_x fed_y none other_none = let same : z ≡ y = cc in absurd (none y (subst (Contains (z ∷ before)) same (Contains-head z before)) fed_y)
same_first drivers (z ∷ before) (t ∷ other) x y after rest e fed_x fed_y none other_none =
    let tails : before ++ x ∷ after ≡ other ++ y ∷ rest = cc in
    same_first drivers before other x y after rest tails fed_x fed_y (λ s member. none s (Contains-later z s before member)) (λ s member. other_none s (Contains-later t s other member))

same_next : (drivers : List Driver) (s a b : Sig) → IsNext drivers s a → IsNext drivers s b → a ≡ b
same_next drivers s a b to_a to_b = same_first drivers to_a.before to_b.before a b to_a.after to_b.after (sym to_a.pins ∙ to_b.pins) to_a.fed to_b.fed to_a.first to_b.first

same_least : (drivers : List Driver) (a b : Sig) → IsLeastFed drivers a → IsLeastFed drivers b → a ≡ b
same_least drivers a b is_a is_b =
    let below : a.0 ≤ b.0 = is_a.least b is_b.fed in
    let above : b.0 ≤ a.0 = is_b.least a is_a.fed in
    let same : a.0 ≡ b.0 = omega arith in ap number same

-- a walk is known by its length
same_walk : (drivers : List Driver) (v w : List Sig) → IsWalk drivers v → IsWalk drivers w → length v ≡ length w → v ≡ w
same_walk drivers [] w is_v is_w e = absurd is_v
same_walk drivers (s ∷ []) [] is_v is_w e = absurd is_w
same_walk drivers (s ∷ []) (t ∷ []) is_v is_w e = ap (λ x. x ∷ []) (same_least drivers s t is_v is_w)
same_walk drivers (s ∷ []) (t ∷ u ∷ w) is_v is_w e = absurd (omega arith)
same_walk drivers (s ∷ p ∷ v) [] is_v is_w e = absurd is_w
same_walk drivers (s ∷ p ∷ v) (t ∷ []) is_v is_w e = absurd (omega arith)
same_walk drivers (s ∷ p ∷ v) (t ∷ q ∷ w) is_v is_w e =
    let earlier : p ∷ v ≡ q ∷ w = same_walk drivers (p ∷ v) (q ∷ w) is_v.1 is_w.1 (omega arith) in
    let from : p ≡ q = cc in
    let to : s ≡ t = same_next drivers q s t (subst (λ x. IsNext drivers x s) from is_v.0) is_w.0 in
    cc

-- what stands twice in a list is not apart
twice : (front since earlier : List Sig) (x : Sig) → AllPairs (λ a b. a ≢ b) (front ++ x ∷ (since ++ x ∷ earlier)) → ⊥
twice front since earlier x apart =
    apart (length front) (length front + (length since + 1)) x (omega arith)
    (let size : length (front ++ x ∷ (since ++ x ∷ earlier)) ≡ length front + length (x ∷ (since ++ x ∷ earlier)) = length-append front (x ∷ (since ++ x ∷ earlier)) in
    let rest : length (since ++ x ∷ earlier) ≡ length since + length (x ∷ earlier) = length-append since (x ∷ earlier) in omega arith)
    (get_or_at front x (since ++ x ∷ earlier) x (length front) refl ∙ sym second) where
      second : get_or (front ++ x ∷ (since ++ x ∷ earlier)) (length front + (length since + 1)) x ≡ x
      second =
          subst (λ xs. get_or xs (length front + (length since + 1)) x ≡ x) (append_assoc front (x ∷ since) (x ∷ earlier))
          (get_or_at (front ++ x ∷ since) x earlier x (length front + (length since + 1)) (let size : length (front ++ x ∷ since) ≡ length front + length (x ∷ since) = length-append front (x ∷ since) in omega arith))

-- the part of a walk that has so many signals
record WalkOf (drivers : List Driver) (v : List Sig) (m : ℕ) : Type 0 where
  front : List Sig
  rest : List Sig
  parts : v ≡ front ++ rest
  size : length rest ≡ m
  walk : IsWalk drivers rest

walk_of : (drivers : List Driver) (x : Sig) (v : List Sig) (m : ℕ) → IsWalk drivers (x ∷ v) → 0 < m → m ≤ length v → WalkOf drivers v m
walk_of drivers x [] m walk some few = absurd (omega arith)
walk_of drivers x (y ∷ v) m walk some few =
    elim (cases_eq m (suc (length v))) [
      | inl same ↦ record { front = []; rest = y ∷ v; parts = refl; size = sym same; walk = walk.1 }
      | inr other ↦
          let later : WalkOf drivers v m = walk_of drivers y v m walk.1 some (omega arith) in
          record { front = y ∷ later.front; rest = later.rest; parts = ap (λ xs. y ∷ xs) later.parts; size = later.size; walk = later.walk }
    ]

-- a walk that comes to a loop is no longer than another that does
no_longer : (drivers : List Driver) (a b : Sig) (m n : ℕ) (x : IsLoop drivers a m) (y : IsLoop drivers b n) → length (x.since ++ a ∷ x.earlier) < length (y.since ++ b ∷ y.earlier) → ⊥
no_longer drivers a b m n x y less =
    let part : WalkOf drivers (y.since ++ b ∷ y.earlier) (suc (length (x.since ++ a ∷ x.earlier))) = walk_of drivers b (y.since ++ b ∷ y.earlier) (suc (length (x.since ++ a ∷ x.earlier))) y.walk (omega arith) (omega arith) in
    let same : a ∷ (x.since ++ a ∷ x.earlier) ≡ part.rest = same_walk drivers (a ∷ (x.since ++ a ∷ x.earlier)) part.rest x.walk part.walk (sym part.size) in
    twice part.front x.since x.earlier a (subst (AllPairs (λ s t. s ≢ t)) (part.parts ∙ ap (λ rest. part.front ++ rest) (sym same)) y.first)

-- a signal stands once among signals that are apart
same_place : (since other earlier rest : List Sig) (x : Sig) → since ++ x ∷ earlier ≡ other ++ x ∷ rest → AllPairs (λ a b. a ≢ b) (other ++ x ∷ rest) → length since < length other → ⊥
same_place since other earlier rest x e apart less =
    apart (length since) (length other) x less
    (let size : length (other ++ x ∷ rest) ≡ length other + length (x ∷ rest) = length-append other (x ∷ rest) in omega arith)
    (subst (λ xs. get_or xs (length since) x ≡ x) e (get_or_at since x earlier x (length since) refl) ∙ sym (get_or_at other x rest x (length other) refl))

pub loop_is_unique : LoopIsUnique
loop_is_unique drivers a b m n x y =
    elim (cases_order (length (x.since ++ a ∷ x.earlier)) (length (y.since ++ b ∷ y.earlier))) [
      | inr differ ↦ elim differ [ inl less ↦ absurd (no_longer drivers a b m n x y less) | inr more ↦ absurd (no_longer drivers b a n m y x more) ]
      | inl size ↦ both (same_walk drivers (a ∷ (x.since ++ a ∷ x.earlier)) (b ∷ (y.since ++ b ∷ y.earlier)) x.walk y.walk (ap suc size))
    ] where
      both : a ∷ (x.since ++ a ∷ x.earlier) ≡ b ∷ (y.since ++ b ∷ y.earlier) → (a ≡ b) × (m ≡ n)
      both e =
          let name : a ≡ b = cc in
          let lists : x.since ++ a ∷ x.earlier ≡ y.since ++ b ∷ y.earlier = cc in
          let to_y : x.since ++ a ∷ x.earlier ≡ y.since ++ a ∷ y.earlier = lists ∙ ap (λ s. y.since ++ s ∷ y.earlier) (sym name) in
          let steps_m : m ≡ length x.since + 1 = x.count in
          let steps_n : n ≡ length y.since + 1 = y.count in
          let apart : AllPairs (λ s t. s ≢ t) (y.since ++ a ∷ y.earlier) = subst (AllPairs (λ s t. s ≢ t)) to_y x.first in
          elim (cases_order (length x.since) (length y.since)) [
            | inl same ↦ (name, omega arith)
            | inr differ ↦ elim differ [
              | inl less ↦ absurd (same_place x.since y.since x.earlier y.earlier a to_y apart less)
              | inr more ↦ absurd (same_place y.since x.since y.earlier x.earlier a (sym to_y) x.first more)
            ]
          ]

-- when the walk met the signal: its step, or none
abbrev pub IsMet : List Sig → Sig → Option ℕ → Type 0
IsMet before s None = Contains before s → ⊥
IsMet before s (Some step) = (since : List Sig) × (earlier : List Sig) × (before ≡ since ++ s ∷ earlier) × (length earlier ≡ step)

abbrev pub is_open : Option ℕ → Bool
is_open o = not (is_some o)

-- the walk has come to the signal after so many steps
pub record Walking (drivers : List Driver) (fed : List Bool) (met : List (Option ℕ)) (s : Sig) (steps : ℕ) : Type 0 where
  pub before : List Sig
  pub walk : IsWalk drivers (s ∷ before)
  pub marked : get_or fed s.0 false ≡ true
  pub apart : AllPairs (λ a b. a ≢ b) before
  pub count : length before ≡ steps
  pub size : length met ≡ length drivers
  pub left : count_by is_open met + steps ≡ length drivers
  pub met_at : (t : ℕ) → IsMet before (number t) (get_or met t None)

count-open : (n : ℕ) → count_by is_open (replicate n None) ≡ n
count-open zero = refl
count-open (suc n) = let rest : count_by is_open (replicate n None) ≡ n = count-open n in let first : count_by is_open (None ∷ replicate n None) ≡ 1 + count_by is_open (replicate n None) = sum_by-cons (λ o. cond (is_open o) 1 0) None (replicate n None) in omega arith

none_met : (n t : ℕ) → get_or {A = Option ℕ} (replicate n None) t None ≡ None
none_met zero t = refl
none_met (suc n) zero = refl
none_met (suc n) (suc t) = none_met n t

pub Walking-begins : (drivers : List Driver) (fed : List Bool) (s : Sig) → MarksFed drivers fed → get_or fed s.0 false ≡ true → ((t : ℕ) → get_or fed t false ≡ true → s.0 ≤ t) → Walking drivers fed (replicate (length drivers) None) s 0
Walking-begins drivers fed s marks marked least = record {
  before = [];
  walk = record { fed = (marks.each s).0 marked; least = λ t is_fed. least t.0 ((marks.each t).1 is_fed) };
  marked = marked;
  apart = λ i j d less below. absurd (omega arith);
  count = refl;
  size = length-replicate (length drivers) None;
  left = let all : count_by is_open (replicate (length drivers) None) ≡ length drivers = count-open (length drivers) in omega arith;
  met_at = λ t. subst (IsMet [] (number t)) (sym (none_met (length drivers) t)) (Contains-none (number t));
}

pub count-met : (met : List (Option ℕ)) (i step : ℕ) → i < length met → get_or met i None ≡ None → count_by is_open (set met i (Some step)) + 1 ≡ count_by is_open met
count-met met i step h open_there =
    let e : count_by is_open (set met i (Some step)) + cond (is_open (get_or met i None)) 1 0 ≡ count_by is_open met + 0 = sum_by-set (λ o. cond (is_open o) 1 0) met i (Some step) None h in
    let one : cond {A = ℕ} (is_open (get_or met i None)) 1 0 ≡ 1 = ap (λ o. cond {A = ℕ} (is_open o) 1 0) open_there in
    omega arith

AllPairs-cons : (x : Sig) (xs : List Sig) → (Contains xs x → ⊥) → AllPairs (λ a b. a ≢ b) xs → AllPairs (λ a b. a ≢ b) (x ∷ xs)
AllPairs-cons x xs new apart zero zero d less below = absurd (omega arith)
AllPairs-cons x xs new apart zero (suc j) d less below = λ e. new (j, omega arith, get_or_default xs j x d (omega arith) ∙ sym e)
AllPairs-cons x xs new apart (suc i) zero d less below = absurd (omega arith)
AllPairs-cons x xs new apart (suc i) (suc j) d less below = apart i j d (omega arith) (omega arith)

-- one step on
pub Walking-goes : (drivers : List Driver) (fed : List Bool) (met : List (Option ℕ)) (s next : Sig) (steps : ℕ) → Walking drivers fed met s steps → s.0 < length drivers → get_or met s.0 None ≡ None → IsNext drivers s next
    → get_or fed next.0 false ≡ true → Walking drivers fed (set met s.0 (Some steps)) next (steps + 1)
Walking-goes drivers fed met s next steps w within open_here goes marked = record {
  before = s ∷ w.before;
  walk = (goes, w.walk);
  marked = marked;
  apart = AllPairs-cons s w.before new w.apart;
  count = let count : length w.before ≡ steps = w.count in omega arith;
  size = length-set met s.0 (Some steps) ∙ w.size;
  left = let size : length met ≡ length drivers = w.size in
      let less : count_by is_open (set met s.0 (Some steps)) + 1 ≡ count_by is_open met = count-met met s.0 steps (omega arith) open_here in
      let left : count_by is_open met + steps ≡ length drivers = w.left in omega arith;
  met_at = met_at;
} where
  new : Contains w.before s → ⊥
  new = subst (IsMet w.before s) open_here (w.met_at s.0)

  older : (t : ℕ) (o : Option ℕ) → t ≢ s.0 → IsMet w.before (number t) o → IsMet (s ∷ w.before) (number t) o
  older t None other is_new = λ member. elim (Contains-cons_cases s (number t) w.before member) [ inl same ↦ other (ap (λ x. x.0) (sym same)) | inr there ↦ is_new there ]
  older t (Some step) other was = (s ∷ was.0, was.1, ap (λ xs. s ∷ xs) was.2, was.3)

  met_at : (t : ℕ) → IsMet (s ∷ w.before) (number t) (get_or (set met s.0 (Some steps)) t None)
  met_at t =
      elim (cases_eq t s.0) [
        | inl same ↦
            subst (λ i. IsMet (s ∷ w.before) (number i) (get_or (set met s.0 (Some steps)) i None)) (sym same)
            (subst (IsMet (s ∷ w.before) s) (sym (get_or-set_same met s.0 (Some steps) None (let size : length met ≡ length drivers = w.size in omega arith))) ([], w.before, refl, w.count))
        | inr other ↦
            subst (IsMet (s ∷ w.before) (number t)) (sym (get_or-set_other met s.0 t (Some steps) None other)) (older t (get_or met t None) other (w.met_at t))
      ]

-- the walk meets a signal again
pub Walking-ends : (drivers : List Driver) (fed : List Bool) (met : List (Option ℕ)) (s : Sig) (steps step : ℕ) → Walking drivers fed met s steps → get_or met s.0 None ≡ Some step → (step ≤ steps) × IsLoop drivers s (steps - step)
Walking-ends drivers fed met s steps step w met_here =
    let was : IsMet w.before s (Some step) = subst (IsMet w.before s) met_here (w.met_at s.0) in
    let count : length w.before ≡ steps = w.count in
    let earlier : length was.1 ≡ step = was.3 in
    let whole : length w.before ≡ length was.0 + length (s ∷ was.1) = ap length was.2 ∙ length-append was.0 (s ∷ was.1) in (
      omega arith,
      record {
        since = was.0;
        earlier = was.1;
        walk = subst (λ xs. IsWalk drivers (s ∷ xs)) was.2 w.walk;
        first = subst (AllPairs (λ a b. a ≢ b)) was.2 w.apart;
        count = omega arith;
      },
    )

-- the first pin with a mark is the next signal of the walk
pub first_is_next : (drivers : List Driver) (fed : List Bool) (s : Sig) (n : ℕ) → MarksFed drivers fed → get_or fed s.0 false ≡ true → n ≤ length (pins_at drivers s.0) → AreUnmarked fed (pins_at drivers s.0) n
    → (n < length (pins_at drivers s.0)) × (get_or fed (pin_at (pins_at drivers s.0) n).0 false ≡ true → IsNext drivers s (pin_at (pins_at drivers s.0) n))
first_is_next drivers fed s n marks marked within unmarked = (below, is_next) where
  pins : List Sig
  pins = pins_at drivers s.0

  is_fed : IsFedByLoop drivers s
  is_fed = (marks.each s).0 marked

  -- some pin has a mark
  some : (k : ℕ) × (k < length pins) × (get_or fed (pin_at pins k).0 false ≡ true)
  some =
      let pin : (p : Sig) × Contains pins p × Contains is_fed.signals p = (is_fed.each s is_fed.member).1 in
      let place : (k : ℕ) × (k < length pins) × (pin_at pins k ≡ pin.0) = member_place pins pin.0 pin.1 in
      (place.0, place.1, subst (λ t. get_or fed t.0 false ≡ true) (sym place.2) ((marks.each pin.0).1 (record { signals = is_fed.signals; each = is_fed.each; member = pin.2 })))

  below : n < length pins
  below =
      elim (cases_lt n (length pins)) [
        | inl less ↦ less
        | inr over ↦ let inside : some.0 < length pins = some.1 in absurd (both_ways (get_or fed (pin_at pins some.0).0 false) (unmarked some.0 (omega arith)) some.2)
      ]

  first : (pin : Sig) → Contains (take n pins) pin → IsFedByLoop drivers pin → ⊥
  first pin member pin_fed =
      let inside : member.0 < length (take n pins) = member.1 in
      let size : length (take n pins) ≡ n = length-take-le n pins within in
      let before : member.0 < n = omega arith in
      let at : get_or pins member.0 pin ≡ pin = sym (get_or-take n pins member.0 pin before) ∙ member.2 in
      let it : pin_at pins member.0 ≡ pin = get_or_default pins member.0 (number 0) pin (omega arith) ∙ at in
      both_ways (get_or fed pin.0 false) (subst (λ t. get_or fed t.0 false ≡ false) it (unmarked member.0 before)) ((marks.each pin).1 pin_fed)

  is_next : get_or fed (pin_at pins n).0 false ≡ true → IsNext drivers s (pin_at pins n)
  is_next pin_marked = record {
    before = take n pins;
    after = drop (n + 1) pins;
    pins = sym (take-append-drop n pins) ∙ ap (λ rest. take n pins ++ rest) (drop_more pins n (number 0) below);
    fed = (marks.each (pin_at pins n)).0 pin_marked;
    first = first;
  }

-- ---- the signals that loops feed

-- they are of the netlist, since gates drive them
fed_within : (drivers : List Driver) (s : Sig) → IsFedByLoop drivers s → s.0 < length drivers
fed_within drivers s fed =
    elim (cases_lt s.0 (length drivers)) [
      | inl within ↦ within
      | inr past ↦ absurd (false≢true (subst (λ driver. is_gate driver ≡ true) (get_or_past drivers s.0 Input past) (fed.each s fed.member).0))
    ]

walk_fed : (drivers : List Driver) (s : Sig) (before : List Sig) → IsWalk drivers (s ∷ before) → IsFedByLoop drivers s
walk_fed drivers s [] walk = walk.fed
walk_fed drivers s (t ∷ before) walk = walk.0.fed

pub loop_fed : (drivers : List Driver) (name : Sig) (steps : ℕ) → IsLoop drivers name steps → IsFedByLoop drivers name
loop_fed drivers name steps found = walk_fed drivers name (found.since ++ name ∷ found.earlier) found.walk

pub loop_within : (drivers : List Driver) (name : Sig) (steps : ℕ) → IsLoop drivers name steps → name.0 < length drivers
loop_within drivers name steps found = fed_within drivers name (loop_fed drivers name steps found)
