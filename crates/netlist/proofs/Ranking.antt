-- What stands when no signal is left to be looked at: ranks, or signals that loops feed.
use Rattle.std.proofs.Common.{ℕ, zero, suc, ◌≡◌, ◌+◌, ◌<◌, ◌≤◌, ◌⊎◌, Bool, true, false, List, [], ◌∷◌, length, get_or, set, refl, sym, ◌∙◌, subst, inl, inr, arith, count_by, IsTrue}
use Rattle.std.specs.List.{All, Contains, filter}
use Rattle.std.proofs.lemmas.Bool.{cases_Bool, cases_eq, both_ways, cond-true, cond-false}
use Rattle.std.proofs.lemmas.List.{get_or_default, ext_get_or}
use Rattle.std.proofs.lemmas.List.Elements.{Contains-get_or}
use Rattle.sr_model.proofs.lemmas.Members.{filter-has, filter-passes}
use Rattle.sr_model.specs.declared.cells.Sig.{Sig}
use Rattle.sr_model.specs.Netlist.{Driver}
use Rattle.netlist.specs.Wiring.{driver_at, is_gate, signals_below}
use Rattle.netlist.specs.Ranks.{greatest_rank, rank_by, IsRank, IsOrder}
use Rattle.netlist.specs.Loops.{HasPinIn, EachHasPinWithin, IsFedByLoop}
use Rattle.netlist.specs.Laws.{RanksAreUnique, RanksExcludeLoops, RanksExist}
use Rattle.netlist.specs.Ranking.{Progress, start_of, with_rank, IsUnmarked, AreUnmarked, pin_at, pins_at, HasRank, IsSound, awaited, AreSettled, MarksFed}
use Rattle.netlist.proofs.Placing.{IsByRank}
use Rattle.netlist.proofs.Marks.{number, count-set, marked_within, pin_below, rank-same, member_place, Contains-none, signals_member}
use Rattle.netlist.proofs.Progress.{IsRanked, sound_with_rank, start_is_sound}

-- among signals whose pins have lower ranks there are no loops
none_fed : (drivers : List Driver) (ranks : List ℕ) (known : ℕ → Type 0)
    → ((s pin : Sig) → known s.0 → IsTrue (is_gate (driver_at drivers s.0)) → Contains (pins_at drivers s.0) pin → known pin.0 × (get_or ranks pin.0 0 < get_or ranks s.0 0))
    → (signals : List Sig) → EachHasPinWithin drivers signals → (m : ℕ) (s : Sig) → get_or ranks s.0 0 ≤ m → known s.0 → Contains signals s → ⊥
none_fed drivers ranks known lower signals each zero s le is_known member =
    let parts : _ × HasPinIn drivers signals s = each s member in
    let pin : _ × _ = lower s parts.1.0 is_known parts.0 parts.1.1 in
    let less : get_or ranks parts.1.0.0 0 < get_or ranks s.0 0 = pin.1 in
    omega arith
none_fed drivers ranks known lower signals each (suc m) s le is_known member =
    let parts : _ × HasPinIn drivers signals s = each s member in
    let pin : _ × _ = lower s parts.1.0 is_known parts.0 parts.1.1 in
    let less : get_or ranks parts.1.0.0 0 < get_or ranks s.0 0 = pin.1 in
    none_fed drivers ranks known lower signals each m parts.1.0 (omega arith) pin.0 parts.1.2

pub ranks_exclude_loops : RanksExcludeLoops
ranks_exclude_loops drivers ranks is_rank s fed =
    none_fed drivers ranks (λ _. Unit {0}) lower fed.signals fed.each (get_or ranks s.0 0) s (omega arith) tt fed.member where
      lower : (s pin : Sig) → Unit {0} → IsTrue (is_gate (driver_at drivers s.0)) → Contains (pins_at drivers s.0) pin → Unit {0} × (get_or ranks pin.0 0 < get_or ranks s.0 0)
      lower s pin _ gate member =
          let place : (k : ℕ) × (k < length (pins_at drivers s.0)) × (pin_at (pins_at drivers s.0) k ≡ pin) = member_place (pins_at drivers s.0) pin member in
          let below : get_or ranks (pin_at (pins_at drivers s.0) place.0).0 0 < rank_by ranks (driver_at drivers s.0) = pin_below ranks (driver_at drivers s.0) place.0 gate place.1 in
          let at : get_or ranks s.0 0 ≡ rank_by ranks (driver_at drivers s.0) = is_rank.each s.0 in
          (tt, subst (λ t. get_or ranks t.0 0 < get_or ranks s.0 0) place.2 (omega arith))

same_at : (drivers : List Driver) (a b : List ℕ) → IsRank drivers a → IsRank drivers b → (s : ℕ) → ((t : ℕ) → get_or a t 0 < get_or a s 0 → get_or a t 0 ≡ get_or b t 0) → get_or a s 0 ≡ get_or b s 0
same_at drivers a b is_a is_b s lower = is_a.each s ∙ rank-same a b (driver_at drivers s) pins ∙ sym (is_b.each s) where
  pins : IsTrue (is_gate (driver_at drivers s)) → (k : ℕ) → k < length (pins_at drivers s) → get_or a (pin_at (pins_at drivers s) k).0 0 ≡ get_or b (pin_at (pins_at drivers s) k).0 0
  pins gate k h =
      let below : get_or a (pin_at (pins_at drivers s) k).0 0 < rank_by a (driver_at drivers s) = pin_below a (driver_at drivers s) k gate h in
      let at : get_or a s 0 ≡ rank_by a (driver_at drivers s) = is_a.each s in
      lower (pin_at (pins_at drivers s) k).0 (omega arith)

-- by the rank in the one list
same_ranks : (drivers : List Driver) (a b : List ℕ) → IsRank drivers a → IsRank drivers b → (m s : ℕ) → get_or a s 0 ≤ m → get_or a s 0 ≡ get_or b s 0
same_ranks drivers a b is_a is_b zero s le = same_at drivers a b is_a is_b s (λ t h. absurd (omega arith))
same_ranks drivers a b is_a is_b (suc m) s le = same_at drivers a b is_a is_b s (λ t h. same_ranks drivers a b is_a is_b m t (omega arith))

pub ranks_are_unique : RanksAreUnique
ranks_are_unique drivers a b is_a is_b =
    let size : length a ≡ length drivers = is_a.size in
    let other : length b ≡ length drivers = is_b.size in
    ext_get_or 0 a b (omega arith) (λ s h. same_ranks drivers a b is_a is_b (get_or a s 0) s (omega arith))

-- the known ranks are those of the netlist where all are known
pub all_ranked : (drivers : List Driver) (p : Progress) → IsSound drivers p → ((s : ℕ) → IsUnmarked p.unranked s) → IsRank drivers p.ranks × All (λ rank. rank ≤ length drivers) p.ranks
all_ranked drivers p sound unmarked = (
  record { size = sound.ranks_size; each = λ s. (sound.known s (unmarked s)).rank },
  λ k d h. let low : get_or p.ranks k 0 + count_by (λ b. b) p.unranked ≤ length drivers = sound.low k in let same : get_or p.ranks k d ≡ get_or p.ranks k 0 = get_or_default p.ranks k d 0 h in omega arith,
)

-- a signal with a rank is fed by no loop
known_not_fed : (drivers : List Driver) (p : Progress) → IsSound drivers p → (s : Sig) → IsUnmarked p.unranked s.0 → IsFedByLoop drivers s → ⊥
known_not_fed drivers p sound s unmarked fed =
    none_fed drivers p.ranks (IsUnmarked p.unranked) lower fed.signals fed.each (get_or p.ranks s.0 0) s (omega arith) unmarked fed.member where
      lower : (s pin : Sig) → IsUnmarked p.unranked s.0 → IsTrue (is_gate (driver_at drivers s.0)) → Contains (pins_at drivers s.0) pin → IsUnmarked p.unranked pin.0 × (get_or p.ranks pin.0 0 < get_or p.ranks s.0 0)
      lower s pin is_known gate member =
          let place : (k : ℕ) × (k < length (pins_at drivers s.0)) × (pin_at (pins_at drivers s.0) k ≡ pin) = member_place (pins_at drivers s.0) pin member in
          let below : get_or p.ranks (pin_at (pins_at drivers s.0) place.0).0 0 < rank_by p.ranks (driver_at drivers s.0) = pin_below p.ranks (driver_at drivers s.0) place.0 gate place.1 in
          let has : HasRank drivers p s.0 = sound.known s.0 is_known in
          let at : get_or p.ranks s.0 0 ≡ rank_by p.ranks (driver_at drivers s.0) = has.rank in
          subst (λ t. IsUnmarked p.unranked t.0 × (get_or p.ranks t.0 0 < get_or p.ranks s.0 0)) place.2 (has.pins gate place.0 place.1, omega arith)

-- a gate drives the signal, and one of its pins has a mark
record HasMarkedPin (drivers : List Driver) (marks : List Bool) (s : ℕ) : Type 0 where
  gate : IsTrue (is_gate (driver_at drivers s))
  k : ℕ
  below : k < length (pins_at drivers s)
  marked : get_or marks (pin_at (pins_at drivers s) k).0 false ≡ true

-- where each signal with a mark has a pin with one, loops feed them
marked_fed : (drivers : List Driver) (marks : List Bool) → length marks ≡ length drivers → ((s : ℕ) → get_or marks s false ≡ true → HasMarkedPin drivers marks s) → (s : Sig) → get_or marks s.0 false ≡ true → IsFedByLoop drivers s
marked_fed drivers marks size has s marked = record { signals = all; each = each; member = listed s marked } where
  test : Sig → Bool
  test t = get_or marks t.0 false

  all : List Sig
  all = filter test (signals_below (length drivers))

  listed : (t : Sig) → get_or marks t.0 false ≡ true → Contains all t
  listed t is_marked =
      let within : t.0 < length marks = marked_within marks t.0 is_marked in
      filter-has test (signals_below (length drivers)) t (signals_member (length drivers) t.0 (omega arith)) is_marked

  each : EachHasPinWithin drivers all
  each t member =
      let pin : HasMarkedPin drivers marks t.0 = has t.0 (filter-passes test (signals_below (length drivers)) t member) in (
        pin.gate,
        (
          pin_at (pins_at drivers t.0) pin.k,
          Contains-get_or (pins_at drivers t.0) pin.k (number 0) pin.below,
          listed (pin_at (pins_at drivers t.0) pin.k) pin.marked,
        ),
      )

-- where each signal without a rank has such a pin, they are those that loops feed
fed_marks : (drivers : List Driver) (p : Progress) → IsSound drivers p → ((s : ℕ) → get_or p.unranked s false ≡ true → HasMarkedPin drivers p.unranked s) → MarksFed drivers p.unranked
fed_marks drivers p sound has = record {
  size = sound.unranked_size;
  each = λ s. (
    marked_fed drivers p.unranked sound.unranked_size has s,
    λ is_fed. elim (cases_Bool (get_or p.unranked s.0 false)) [ inl marked ↦ marked | inr unmarked ↦ absurd (known_not_fed drivers p sound s unmarked is_fed) ],
  );
}

-- where no signal is fresh, the signals without a rank are those that loops feed
pub unranked_are_fed : (drivers : List Driver) (p : Progress) → IsSound drivers p → AreSettled drivers p [] (length drivers) → MarksFed drivers p.unranked
unranked_are_fed drivers p sound settled = fed_marks drivers p sound has where
  has : (s : ℕ) → get_or p.unranked s false ≡ true → HasMarkedPin drivers p.unranked s
  has s marked =
      let within : s < length p.unranked = marked_within p.unranked s marked in
      let size : length p.unranked ≡ length drivers = sound.unranked_size in
      elim (settled s (omega arith)) [
        | inl unmarked ↦ absurd (both_ways (get_or p.unranked s false) unmarked marked)
        | inr waits ↦ record {
          gate = waits.gate;
          k = get_or p.passed s 0;
          below = waits.more;
          marked = elim (cases_Bool (get_or p.unranked (awaited drivers p s).0 false)) [ inl pin ↦ pin | inr unmarked ↦ absurd (Contains-none (awaited drivers p s) (waits.fresh_pin unmarked)) ];
        }
      ]

-- the first pin with a mark
pub record IsFirstMarked (marks : List Bool) (pins : List Sig) (k : ℕ) : Type 0 where
  pub below : k < length pins
  pub marked : get_or marks (pin_at pins k).0 false ≡ true
  pub before : AreUnmarked marks pins k

-- none of the pins has a mark, or one is the first that has
pub pins_cases : (marks : List Bool) (pins : List Sig) → AreUnmarked marks pins (length pins) ⊎ ((k : ℕ) × IsFirstMarked marks pins k)
pins_cases marks [] = inl (λ k h. absurd (omega arith))
pins_cases marks (pin ∷ pins) =
    elim (cases_Bool (get_or marks pin.0 false)) [
      | inl marked ↦ inr (0, record { below = omega arith; marked = marked; before = λ k h. absurd (omega arith) })
      | inr unmarked ↦ elim (pins_cases marks pins) [
        | inl rest ↦ inl (more (length pins) unmarked rest)
        | inr later ↦ let below : later.0 < length pins = later.1.below in inr (suc later.0, record { below = omega arith; marked = later.1.marked; before = more later.0 unmarked later.1.before })
      ]
    ] where
      more : (n : ℕ) → IsUnmarked marks pin.0 → AreUnmarked marks pins n → AreUnmarked marks (pin ∷ pins) (suc n)
      more n first rest zero h = first
      more n first rest (suc k) h = rest k (omega arith)

-- a signal without a rank whose pins have ranks
record IsReady (drivers : List Driver) (p : Progress) (s : ℕ) : Type 0 where
  within : s < length drivers
  marked : get_or p.unranked s false ≡ true
  pins : IsTrue (is_gate (driver_at drivers s)) → AreUnmarked p.unranked (pins_at drivers s) (length (pins_at drivers s))

ready_at : (drivers : List Driver) (p : Progress) (s : ℕ) → s < length drivers → IsReady drivers p s ⊎ (get_or p.unranked s false ≡ true → HasMarkedPin drivers p.unranked s)
ready_at drivers p s within =
    elim (cases_Bool (get_or p.unranked s false)) [
      | inr unmarked ↦ inr (λ marked. absurd (both_ways (get_or p.unranked s false) unmarked marked))
      | inl marked ↦ elim (cases_Bool (is_gate (driver_at drivers s))) [
        | inr source ↦ inl (record { within = within; marked = marked; pins = λ gate. absurd (both_ways (is_gate (driver_at drivers s)) source gate) })
        | inl gate ↦ elim (pins_cases p.unranked (pins_at drivers s)) [
          | inl pins ↦ inl (record { within = within; marked = marked; pins = λ _. pins })
          | inr pin ↦ inr (λ _. record { gate = gate; k = pin.0; below = pin.1.below; marked = pin.1.marked })
        ]
      ]
    ]

-- some signal is ready, or each without a rank has such a pin
some_ready : (drivers : List Driver) (p : Progress) (n : ℕ) → n ≤ length drivers → ((s : ℕ) × IsReady drivers p s) ⊎ ((s : ℕ) → s < n → get_or p.unranked s false ≡ true → HasMarkedPin drivers p.unranked s)
some_ready drivers p zero h = inr (λ s below. absurd (omega arith))
some_ready drivers p (suc n) h =
    elim (some_ready drivers p n (omega arith)) [
      | inl found ↦ inl found
      | inr before ↦ elim (ready_at drivers p n (omega arith)) [
        | inl ready ↦ inl (n, ready)
        | inr last ↦ inr (λ s below. elim (cases_eq s n) [
          | inl same ↦ subst (λ t. get_or p.unranked t false ≡ true → HasMarkedPin drivers p.unranked t) (sym same) last
          | inr other ↦ before s (omega arith)
        ])
      ]
    ]

-- there are ranks, or loops feed some signals, at least this one
pub data RankedOrFed (drivers : List Driver) : Type 0 where
  with_ranks : (ranks : List ℕ) → IsRank drivers ranks → RankedOrFed drivers
  with_fed : (marks : List Bool) → MarksFed drivers marks → (s : ℕ) → get_or marks s false ≡ true → RankedOrFed drivers

some_mark : (marks : List Bool) → ((s : ℕ) → IsUnmarked marks s) ⊎ ((s : ℕ) × (get_or marks s false ≡ true))
some_mark [] = inl (λ s. refl)
some_mark (mark ∷ marks) =
    elim (cases_Bool mark) [
      | inl is ↦ inr (0, is)
      | inr not ↦ elim (some_mark marks) [ inl none ↦ inl (all not none) | inr found ↦ inr (suc found.0, found.1) ]
    ] where
      all : mark ≡ false → ((s : ℕ) → IsUnmarked marks s) → (s : ℕ) → IsUnmarked (mark ∷ marks) s
      all not none zero = not
      all not none (suc s) = none s

-- where no signal is ready
at_end : (drivers : List Driver) (p : Progress) → IsSound drivers p → ((s : ℕ) → s < length drivers → get_or p.unranked s false ≡ true → HasMarkedPin drivers p.unranked s) → RankedOrFed drivers
at_end drivers p sound waiting =
    elim (some_mark p.unranked) [
      | inl none ↦ with_ranks p.ranks (all_ranked drivers p sound none).0
      | inr found ↦ with_fed p.unranked marks found.0 found.1
    ] where
      has : (s : ℕ) → get_or p.unranked s false ≡ true → HasMarkedPin drivers p.unranked s
      has s marked =
          let within : s < length p.unranked = marked_within p.unranked s marked in
          let size : length p.unranked ≡ length drivers = sound.unranked_size in
          waiting s (omega arith) marked

      marks : MarksFed drivers p.unranked
      marks = fed_marks drivers p sound has

ready_rank : (drivers : List Driver) (p : Progress) → IsSound drivers p → (s : ℕ) → IsReady drivers p s → IsRanked drivers p (number s) (rank_by p.ranks (driver_at drivers s))
ready_rank drivers p sound s ready = record { sound = sound; within = ready.within; marked = ready.marked; rank_is = refl; pins = ready.pins }

fewer : (drivers : List Driver) (p : Progress) → IsSound drivers p → (s : ℕ) → IsReady drivers p s → count_by (λ b. b) (set p.unranked s false) + 1 ≡ count_by (λ b. b) p.unranked
fewer drivers p sound s ready =
    let size : length p.unranked ≡ length drivers = sound.unranked_size in
    let within : s < length drivers = ready.within in
    count-set p.unranked s (omega arith) ready.marked

ranked_from : (drivers : List Driver) (m : ℕ) (p : Progress) → IsSound drivers p → count_by (λ b. b) p.unranked ≤ m → RankedOrFed drivers
ranked_from drivers zero p sound few =
    elim (some_ready drivers p (length drivers) (omega arith)) [
      | inr waiting ↦ at_end drivers p sound waiting
      | inl found ↦ let less : count_by (λ b. b) (set p.unranked found.0 false) + 1 ≡ count_by (λ b. b) p.unranked = fewer drivers p sound found.0 found.1 in absurd (omega arith)
    ]
ranked_from drivers (suc m) p sound few =
    elim (some_ready drivers p (length drivers) (omega arith)) [
      | inr waiting ↦ at_end drivers p sound waiting
      | inl found ↦
          let less : count_by (λ b. b) (set p.unranked found.0 false) + 1 ≡ count_by (λ b. b) p.unranked = fewer drivers p sound found.0 found.1 in
          let rank : ℕ = rank_by p.ranks (driver_at drivers found.0) in
          ranked_from drivers m (with_rank p (number found.0) rank) (sound_with_rank drivers p (number found.0) rank (ready_rank drivers p sound found.0 found.1)) (omega arith)
    ]

pub ranked_or_fed : (drivers : List Driver) → RankedOrFed drivers
ranked_or_fed drivers = ranked_from drivers (length drivers) (start_of (length drivers)) (start_is_sound drivers) (let low : _ ≤ length drivers = (start_is_sound drivers).low 0 in omega arith)

pub ranks_exist : RanksExist
ranks_exist drivers no_loop =
    elim (ranked_or_fed drivers) [
      | with_ranks ranks is_rank ↦ (ranks, is_rank)
      | with_fed marks are s marked ↦ absurd (no_loop (number s) ((are.each (number s)).0 marked))
    ]

-- gates are the signals with ranks above 0, so the list by rank is the order
pub order_by_rank : (drivers : List Driver) (ranks : List ℕ) (order : List Sig) → IsRank drivers ranks → IsByRank ranks order → IsOrder drivers order
order_by_rank drivers ranks order is_rank by_rank = record {
  ranks = ranks;
  is_rank = is_rank;
  gates = λ s. (λ member. to s ((by_rank.members s).0 member), λ gate. (by_rank.members s).1 (from s gate));
  ascending = by_rank.ascending;
} where
  to : (s : Sig) → 0 < get_or ranks s.0 0 → IsTrue (is_gate (driver_at drivers s.0))
  to s ranked =
      elim (cases_Bool (is_gate (driver_at drivers s.0))) [
        | inl gate ↦ gate
        | inr source ↦
            let at : get_or ranks s.0 0 ≡ 0 = is_rank.each s.0 ∙ cond-false (is_gate (driver_at drivers s.0)) (greatest_rank ranks (pins_at drivers s.0) + 1) 0 source in
            absurd (omega arith)
      ]

  from : (s : Sig) → IsTrue (is_gate (driver_at drivers s.0)) → 0 < get_or ranks s.0 0
  from s gate =
      let at : get_or ranks s.0 0 ≡ greatest_rank ranks (pins_at drivers s.0) + 1 = is_rank.each s.0 ∙ cond-true (is_gate (driver_at drivers s.0)) (greatest_rank ranks (pins_at drivers s.0) + 1) 0 gate in
      omega arith
