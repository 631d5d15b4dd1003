-- On lists of marks and of signals, and the ranks of pins.
use Rattle.std.proofs.Common.{ℕ, zero, suc, ◌≡◌, ◌+◌, ◌<◌, ◌≤◌, ◌⊎◌, Bool, true, false, cond, eqb, List, [], ◌∷◌, length, get_or, set, refl, sym, ap, ◌∙◌, subst, inl, inr, arith, count_by, IsTrue}
use Rattle.std.specs.List.{All, Contains, list_any, range_with_len}
use Rattle.std.proofs.lemmas.Bool.{cases_Bool, cond_both, cond-false, cond-true, or_parts, eq-eqb, false≢true}
use Rattle.std.proofs.lemmas.List.{get_or_default}
use Rattle.std.proofs.lemmas.List.Elements.{Contains-get_or, All-filter, All-map}
use Rattle.std.proofs.lemmas.List.FromFn.{length-range_with_len, get_or-range_with_len, length-map-range_with_len, get_or-map-range_with_len}
use Rattle.std.proofs.lemmas.List.Sums.{sum_by-set}
use Rattle.sr_model.proofs.lemmas.Members.{filter-has, list_any-from, list_any-found}
use Rattle.sr_model.specs.declared.cells.Sig.{Sig}
use Rattle.sr_model.specs.Netlist.{Driver}
use Rattle.netlist.specs.Wiring.{driver_at, is_gate, pins_of, reads, readers, signals_below}
use Rattle.netlist.specs.Ranks.{greatest_rank, rank_by}
use Rattle.netlist.specs.Ranking.{IsUnmarked, pin_at}

abbrev pub number : ℕ → Sig
number s = record { 0 = s }

-- what stands at a place after a write at another, or at the same
pub set_either : {A : Type 0} (P : A → Type 0) (xs : List A) (g s : ℕ) (a d : A) → (s ≡ g → P a) → P (get_or xs s d) → P (get_or (set xs g a) s d)
set_either P [] g s a d here there = there
set_either P (x ∷ xs) zero zero a d here there = here refl
set_either P (x ∷ xs) zero (suc s) a d here there = there
set_either P (x ∷ xs) (suc g) zero a d here there = there
set_either P (x ∷ xs) (suc g) (suc s) a d here there = set_either P xs g s a d (λ e. here (ap suc e)) there

pub unmarked-set : (marks : List Bool) (g s : ℕ) → IsUnmarked marks s → IsUnmarked (set marks g false) s
unmarked-set marks g s h = set_either (λ b. b ≡ false) marks g s false false (λ _. refl) h

pub count-set : (marks : List Bool) (g : ℕ) → g < length marks → get_or marks g false ≡ true → count_by (λ b. b) (set marks g false) + 1 ≡ count_by (λ b. b) marks
count-set marks g h marked =
    let e : count_by (λ b. b) (set marks g false) + cond (get_or marks g false) 1 0 ≡ count_by (λ b. b) marks + 0 = sum_by-set (λ b. cond b 1 0) marks g false false h in
    let one : cond {A = ℕ} (get_or marks g false) 1 0 ≡ 1 = ap (λ b. cond {A = ℕ} b 1 0) marked in
    omega arith

-- a marked place is within the list
pub marked_within : (marks : List Bool) (s : ℕ) → get_or marks s false ≡ true → s < length marks
marked_within [] s h = absurd (false≢true h)
marked_within (x ∷ xs) zero h = omega arith
marked_within (x ∷ xs) (suc s) h = let below : s < length xs = marked_within xs s h in omega arith

pub greatest-le : (ranks : List ℕ) (m : ℕ) → ((s : ℕ) → get_or ranks s 0 ≤ m) → (pins : List Sig) → greatest_rank ranks pins ≤ m
greatest-le ranks m low [] = omega arith
greatest-le ranks m low (pin ∷ pins) =
    let rest : greatest_rank ranks pins ≤ m = greatest-le ranks m low pins in
    let first : get_or ranks pin.0 0 ≤ m = low pin.0 in
    omega arith

pin-le-greatest : (ranks : List ℕ) (pins : List Sig) (k : ℕ) → k < length pins → get_or ranks (pin_at pins k).0 0 ≤ greatest_rank ranks pins
pin-le-greatest ranks [] k h = absurd (omega arith)
pin-le-greatest ranks (pin ∷ pins) zero h = omega arith
pin-le-greatest ranks (pin ∷ pins) (suc k) h =
    let rest : get_or ranks (pin_at pins k).0 0 ≤ greatest_rank ranks pins = pin-le-greatest ranks pins k (omega arith) in omega arith

greatest-same : (a b : List ℕ) (pins : List Sig) → ((k : ℕ) → k < length pins → get_or a (pin_at pins k).0 0 ≡ get_or b (pin_at pins k).0 0) → greatest_rank a pins ≡ greatest_rank b pins
greatest-same a b [] same = refl
greatest-same a b (pin ∷ pins) same =
    let first : get_or a pin.0 0 ≡ get_or b pin.0 0 = same 0 (omega arith) in
    let rest : greatest_rank a pins ≡ greatest_rank b pins = greatest-same a b pins (λ k h. same (suc k) (omega arith)) in
    cc

pub rank-le : (ranks : List ℕ) (m : ℕ) → ((s : ℕ) → get_or ranks s 0 ≤ m) → (driver : Driver) → rank_by ranks driver ≤ m + 1
rank-le ranks m low driver =
    let greatest : greatest_rank ranks (pins_of driver) ≤ m = greatest-le ranks m low (pins_of driver) in
    cond_both (is_gate driver) (greatest_rank ranks (pins_of driver) + 1) 0 (λ v. v ≤ m + 1) (λ _. omega arith) (λ _. omega arith)

-- a gate's rank is that of its pins alone
pub rank-same : (a b : List ℕ) (driver : Driver)
    → (IsTrue (is_gate driver) → (k : ℕ) → k < length (pins_of driver) → get_or a (pin_at (pins_of driver) k).0 0 ≡ get_or b (pin_at (pins_of driver) k).0 0)
    → rank_by a driver ≡ rank_by b driver
rank-same a b driver same =
    elim (cases_Bool (is_gate driver)) [
      | inl gate ↦ ap (λ m. cond (is_gate driver) (m + 1) 0) (greatest-same a b (pins_of driver) (same gate))
      | inr other ↦
          cond-false (is_gate driver) (greatest_rank a (pins_of driver) + 1) 0 other ∙ sym (cond-false (is_gate driver) (greatest_rank b (pins_of driver) + 1) 0 other)
    ]

-- a gate has a greater rank than each of its pins
pub pin_below : (ranks : List ℕ) (driver : Driver) (k : ℕ) → IsTrue (is_gate driver) → k < length (pins_of driver) → get_or ranks (pin_at (pins_of driver) k).0 0 < rank_by ranks driver
pin_below ranks driver k gate h =
    let is : rank_by ranks driver ≡ greatest_rank ranks (pins_of driver) + 1 = cond-true (is_gate driver) (greatest_rank ranks (pins_of driver) + 1) 0 gate in
    let le : get_or ranks (pin_at (pins_of driver) k).0 0 ≤ greatest_rank ranks (pins_of driver) = pin-le-greatest ranks (pins_of driver) k h in
    omega arith

-- a member stands at some place
pub member_place : (pins : List Sig) (pin : Sig) → Contains pins pin → (k : ℕ) × (k < length pins) × (pin_at pins k ≡ pin)
member_place pins pin h = (h.0, h.1, get_or_default pins h.0 (number 0) pin h.1 ∙ h.2)

pub Contains-cons_cases : (x y : Sig) (xs : List Sig) → Contains (x ∷ xs) y → (x ≡ y) ⊎ Contains xs y
Contains-cons_cases x y xs (zero, h, e) = inl e
Contains-cons_cases x y xs (suc k, h, e) = inr (k, omega arith, e)

pub Contains-head : (x : Sig) (xs : List Sig) → Contains (x ∷ xs) x
Contains-head x xs = (0, omega arith, refl)

pub Contains-later : (x y : Sig) (xs : List Sig) → Contains xs y → Contains (x ∷ xs) y
Contains-later x y xs h = (suc h.0, let below : h.0 < length xs = h.1 in omega arith, h.2)

pub Contains-none : (x : Sig) → Contains [] x → ⊥
Contains-none x h = let below : h.0 < length {A = Sig} [] = h.1 in omega arith

pub signals_member : (n s : ℕ) → s < n → Contains (signals_below n) (number s)
signals_member n s h =
    (s, (let size : length (signals_below n) ≡ n = length-map-range_with_len number 0 n in omega arith), get_or-map-range_with_len number 0 n s s (number s) h (omega arith))

pub signals_within : (n : ℕ) → All (λ s. s.0 < n) (signals_below n)
signals_within n = All-map (λ s. s.0 < n) number (range_with_len 0 n) (λ k d h.
    let size : length (range_with_len 0 n) ≡ n = length-range_with_len 0 n in
    let below : k < n = omega arith in
    let at : get_or (range_with_len 0 n) k d ≡ 0 + k = get_or-range_with_len 0 n k d below in
    omega arith)

pub signal_within : (n : ℕ) (s : Sig) → Contains (signals_below n) s → s.0 < n
signal_within n s h = subst (λ t. t.0 < n) h.2 (signals_within n h.0 s h.1)

-- the readers of a signal are signals of the netlist, and have it among their pins
pub readers_within : (drivers : List Driver) (x : Sig) → All (λ s. s.0 < length drivers) (readers drivers x)
readers_within drivers x = All-filter (λ t. reads (driver_at drivers t.0) x) (λ s. s.0 < length drivers) (signals_below (length drivers)) (signals_within (length drivers))

pub is_reader : (drivers : List Driver) (x : Sig) (s : ℕ) → s < length drivers → reads (driver_at drivers s) x ≡ true → Contains (readers drivers x) (number s)
is_reader drivers x s h passes = filter-has (λ t. reads (driver_at drivers t.0) x) (signals_below (length drivers)) (number s) (signals_member (length drivers) s h) passes

pub reads_pin : (pins : List Sig) (k : ℕ) (x : Sig) → k < length pins → (pin_at pins k).0 ≡ x.0 → list_any (λ pin. eqb pin.0 x.0) pins ≡ true
reads_pin pins k x h e = list_any-from (λ pin. eqb pin.0 x.0) pins (pin_at pins k) (Contains-get_or pins k (number 0) h) (eq-eqb (pin_at pins k).0 x.0 e)

-- no signal has a mark, or one has
pub none_marked : (marks : List Bool) → list_any (λ mark. mark) marks ≡ false → (s : ℕ) → IsUnmarked marks s
none_marked [] none s = refl
none_marked (mark ∷ marks) none zero = (or_parts mark (list_any (λ m. m) marks) none).0
none_marked (mark ∷ marks) none (suc s) = none_marked marks (or_parts mark (list_any (λ m. m) marks) none).1 s

pub some_marked : (marks : List Bool) → list_any (λ mark. mark) marks ≡ true → Contains marks true
some_marked marks some =
    let found : (mark : Bool) × Contains marks mark × (mark ≡ true) = list_any-found (λ mark. mark) marks some in
    subst (Contains marks) found.2 found.1
