-- What one look at a signal leaves of the progress of ranking.
use Rattle.std.proofs.Common.{ℕ, zero, suc, ◌≡◌, ◌≢◌, ◌+◌, ◌-◌, ◌<◌, ◌≤◌, ◌⊎◌, Bool, true, false, List, [], ◌∷◌, ◌++◌, length, get_or, set, replicate, refl, sym, ap, ◌∙◌, subst, inl, inr, arith, count_by, IsTrue}
use Rattle.std.specs.List.{Contains}
use Rattle.std.proofs.lemmas.Bool.{cases_Bool, cases_eq, both_ways, cond-true, cond-false, false≢true}
use Rattle.std.proofs.lemmas.List.{get_or-set_other, get_or-set_same, length-set, length_push, get_or_past, get_or_default, length-replicate}
use Rattle.std.proofs.lemmas.List.Sums.{count_by-le-length}
use Rattle.std.proofs.lemmas.List.Elements.{All-push, All-nil, Contains-append_left, Contains-append_right, Contains-append_cases, Contains-push, Contains-push_cases}
use Rattle.sr_model.specs.declared.cells.Sig.{Sig}
use Rattle.sr_model.specs.Netlist.{Driver, Input}
use Rattle.netlist.specs.Wiring.{driver_at, is_gate, reads, readers}
use Rattle.netlist.specs.Ranks.{greatest_rank, rank_by}
use Rattle.netlist.specs.Ranking.{Progress, start_of, with_passed, with_rank, IsUnmarked, AreUnmarked, pin_at, pins_at, HasRank, IsSound, awaited, IsSettled, AreSettled, Settles}
use Rattle.netlist.proofs.Marks.{number, set_either, unmarked-set, count-set, greatest-le, rank-le, rank-same, Contains-cons_cases, Contains-none, is_reader, reads_pin}

sound_with_passed : (drivers : List Driver) (p : Progress) (sig : Sig) (n : ℕ) → IsSound drivers p → n ≤ length (pins_at drivers sig.0) → AreUnmarked p.unranked (pins_at drivers sig.0) n → IsSound drivers (with_passed p sig n)
sound_with_passed drivers p sig n sound within unmarked = record {
  ranks_size = sound.ranks_size;
  unranked_size = sound.unranked_size;
  passed_size = length-set p.passed sig.0 n ∙ sound.passed_size;
  fresh = sound.fresh;
  low = sound.low;
  known = λ s h. record { rank = (sound.known s h).rank; pins = (sound.known s h).pins };
  within_pins = λ s. set_either (λ v. v ≤ length (pins_at drivers s)) p.passed sig.0 s n 0 (λ e. subst (λ t. n ≤ length (pins_at drivers t)) (sym e) within) (sound.within_pins s);
  passed = λ s. set_either (AreUnmarked p.unranked (pins_at drivers s)) p.passed sig.0 s n 0 (λ e. subst (λ t. AreUnmarked p.unranked (pins_at drivers t) n) (sym e) unmarked) (sound.passed s);
}

-- what a signal needs for its rank to be known
pub record IsRanked (drivers : List Driver) (p : Progress) (sig : Sig) (rank : ℕ) : Type 0 where
  pub sound : IsSound drivers p
  pub within : sig.0 < length drivers
  pub marked : get_or p.unranked sig.0 false ≡ true
  pub rank_is : rank ≡ rank_by p.ranks (driver_at drivers sig.0)
  pub pins : IsTrue (is_gate (driver_at drivers sig.0)) → AreUnmarked p.unranked (pins_at drivers sig.0) (length (pins_at drivers sig.0))

-- a signal without a rank is no pin of a gate whose pins have ranks
apart : (marks : List Bool) (g s : ℕ) → get_or marks g false ≡ true → IsUnmarked marks s → s ≢ g
apart marks g s marked unmarked e = both_ways (get_or marks g false) (subst (IsUnmarked marks) e unmarked) marked

rank_stays : (drivers : List Driver) (p : Progress) (sig : Sig) (rank s : ℕ) → get_or p.unranked sig.0 false ≡ true
    → (IsTrue (is_gate (driver_at drivers s)) → AreUnmarked p.unranked (pins_at drivers s) (length (pins_at drivers s)))
    → rank_by p.ranks (driver_at drivers s) ≡ rank_by (set p.ranks sig.0 rank) (driver_at drivers s)
rank_stays drivers p sig rank s marked pins = rank-same p.ranks (set p.ranks sig.0 rank) (driver_at drivers s) (λ gate k h.
    sym (get_or-set_other p.ranks sig.0 (pin_at (pins_at drivers s) k).0 rank 0 (apart p.unranked sig.0 (pin_at (pins_at drivers s) k).0 marked (pins gate k h))))

count_fits : (drivers : List Driver) (p : Progress) (sig : Sig) (rank : ℕ) → IsRanked drivers p sig rank → rank + count_by (λ b. b) (set p.unranked sig.0 false) ≤ length drivers
count_fits drivers p sig rank is =
    let sound : IsSound drivers p = is.sound in
    let size : length p.unranked ≡ length drivers = sound.unranked_size in
    let within : sig.0 < length drivers = is.within in
    let falls : count_by (λ b. b) (set p.unranked sig.0 false) + 1 ≡ count_by (λ b. b) p.unranked = count-set p.unranked sig.0 (omega arith) is.marked in
    let most : count_by (λ b. b) p.unranked ≤ length drivers = let first : get_or p.ranks 0 0 + count_by (λ b. b) p.unranked ≤ length drivers = sound.low 0 in omega arith in
    let le : rank_by p.ranks (driver_at drivers sig.0) ≤ length drivers - count_by (λ b. b) p.unranked + 1 =
    rank-le p.ranks (length drivers - count_by (λ b. b) p.unranked) (λ s. let low : get_or p.ranks s 0 + count_by (λ b. b) p.unranked ≤ length drivers = sound.low s in omega arith) (driver_at drivers sig.0) in
    let rank_is : rank ≡ rank_by p.ranks (driver_at drivers sig.0) = is.rank_is in
    omega arith

pub sound_with_rank : (drivers : List Driver) (p : Progress) (sig : Sig) (rank : ℕ) → IsRanked drivers p sig rank → IsSound drivers (with_rank p sig rank)
sound_with_rank drivers p sig rank is = record {
  ranks_size = length-set p.ranks sig.0 rank ∙ is.sound.ranks_size;
  unranked_size = length-set p.unranked sig.0 false ∙ is.sound.unranked_size;
  passed_size = is.sound.passed_size;
  fresh = All-push (λ s. s.0 < length drivers) p.fresh sig is.sound.fresh is.within;
  low = λ s. set_either (λ v. v + count_by (λ b. b) (set p.unranked sig.0 false) ≤ length drivers) p.ranks sig.0 s rank 0 (λ _. count_fits drivers p sig rank is)
      (let size : length p.unranked ≡ length drivers = is.sound.unranked_size in
      let within : sig.0 < length drivers = is.within in
      let falls : count_by (λ b. b) (set p.unranked sig.0 false) + 1 ≡ count_by (λ b. b) p.unranked = count-set p.unranked sig.0 (omega arith) is.marked in
      let low : get_or p.ranks s 0 + count_by (λ b. b) p.unranked ≤ length drivers = is.sound.low s in omega arith);
  known = known;
  within_pins = is.sound.within_pins;
  passed = λ s k h. unmarked-set p.unranked sig.0 (pin_at (pins_at drivers s) k).0 (is.sound.passed s k h);
} where
  here : HasRank drivers (with_rank p sig rank) sig.0
  here = record {
    rank = get_or-set_same p.ranks sig.0 rank 0 (let size : length p.ranks ≡ length drivers = is.sound.ranks_size in let within : sig.0 < length drivers = is.within in omega arith)
        ∙ is.rank_is ∙ rank_stays drivers p sig rank sig.0 is.marked is.pins;
    pins = λ gate k h. unmarked-set p.unranked sig.0 (pin_at (pins_at drivers sig.0) k).0 (is.pins gate k h);
  }

  known : (s : ℕ) → IsUnmarked (set p.unranked sig.0 false) s → HasRank drivers (with_rank p sig rank) s
  known s h =
      elim (cases_eq s sig.0) [
        | inl same ↦ subst (HasRank drivers (with_rank p sig rank)) (sym same) here
        | inr other ↦
            let old : HasRank drivers p s = is.sound.known s (sym (get_or-set_other p.unranked sig.0 s false false other) ∙ h) in
            record {
              rank = get_or-set_other p.ranks sig.0 s rank 0 other ∙ old.rank ∙ rank_stays drivers p sig rank s is.marked old.pins;
              pins = λ gate k below. unmarked-set p.unranked sig.0 (pin_at (pins_at drivers s) k).0 (old.pins gate k below);
            }
      ]

pub Settles-known : (drivers : List Driver) (p : Progress) (sig : Sig) → IsSound drivers p → IsUnmarked p.unranked sig.0 → Settles drivers p p sig
Settles-known drivers p sig sound unmarked = record {
  sound = sound;
  settled = inl unmarked;
  others_passed = λ s other. refl;
  others_ranked = λ s other h. h;
  stays_known = λ s h. h;
  fresh = λ s h. h;
  newly_known = λ h. inl h;
  work = refl;
}

Settles-rank : (drivers : List Driver) (p : Progress) (sig : Sig) (rank : ℕ) → IsRanked drivers p sig rank → Settles drivers p (with_rank p sig rank) sig
Settles-rank drivers p sig rank is =
    let size : length p.unranked ≡ length drivers = is.sound.unranked_size in
    let within : sig.0 < length drivers = is.within in
    let below : sig.0 < length p.unranked = omega arith in
    record {
      sound = sound_with_rank drivers p sig rank is;
      settled = inl (get_or-set_same p.unranked sig.0 false false below);
      others_passed = λ s other. refl;
      others_ranked = λ s other h. sym (get_or-set_other p.unranked sig.0 s false false other) ∙ h;
      stays_known = λ s h. unmarked-set p.unranked sig.0 s h;
      fresh = λ s h. Contains-append_left p.fresh (sig ∷ []) s h;
      newly_known = λ _. inr (Contains-push p.fresh sig);
      work = let falls : count_by (λ b. b) (set p.unranked sig.0 false) + 1 ≡ count_by (λ b. b) p.unranked = count-set p.unranked sig.0 below is.marked in
          let more : length (p.fresh ++ sig ∷ []) ≡ length p.fresh + 1 = length_push p.fresh sig in omega arith;
    }

Settles-after_passed : (drivers : List Driver) (p new : Progress) (sig : Sig) (n : ℕ) → Settles drivers (with_passed p sig n) new sig → Settles drivers p new sig
Settles-after_passed drivers p new sig n settles = record {
  sound = settles.sound;
  settled = settles.settled;
  others_passed = λ s other. settles.others_passed s other ∙ get_or-set_other p.passed sig.0 s n 0 other;
  others_ranked = settles.others_ranked;
  stays_known = settles.stays_known;
  fresh = settles.fresh;
  newly_known = settles.newly_known;
  work = settles.work;
}

-- the signal waits for a pin that has no rank
pub Settles-waits : (drivers : List Driver) (p : Progress) (sig : Sig) (n : ℕ) → IsSound drivers p → sig.0 < length drivers → IsTrue (is_gate (driver_at drivers sig.0))
    → n < length (pins_at drivers sig.0) → AreUnmarked p.unranked (pins_at drivers sig.0) n → get_or p.unranked (pin_at (pins_at drivers sig.0) n).0 false ≡ true
    → Settles drivers p (with_passed p sig n) sig
Settles-waits drivers p sig n sound within gate more unmarked marked =
    let size : length p.passed ≡ length drivers = sound.passed_size in
    let at : get_or (set p.passed sig.0 n) sig.0 0 ≡ n = get_or-set_same p.passed sig.0 n 0 (omega arith) in
    record {
      sound = sound_with_passed drivers p sig n sound (omega arith) unmarked;
      settled = inr (record {
        gate = gate;
        more = omega arith;
        fresh_pin = λ h. absurd (both_ways (get_or p.unranked (pin_at (pins_at drivers sig.0) n).0 false) (subst (λ v. IsUnmarked p.unranked (pin_at (pins_at drivers sig.0) v).0) at h) marked);
      });
      others_passed = λ s other. get_or-set_other p.passed sig.0 s n 0 other;
      others_ranked = λ s other h. h;
      stays_known = λ s h. h;
      fresh = λ s h. h;
      newly_known = λ h. inl h;
      work = refl;
    }

-- the rank of an input or a flip-flop
pub Settles-source : (drivers : List Driver) (p : Progress) (sig : Sig) → IsSound drivers p → sig.0 < length drivers → get_or p.unranked sig.0 false ≡ true → is_gate (driver_at drivers sig.0) ≡ false
    → Settles drivers p (with_rank p sig 0) sig
Settles-source drivers p sig sound within marked source =
    Settles-rank drivers p sig 0
    (record {
      sound = sound;
      within = within;
      marked = marked;
      rank_is = sym (cond-false (is_gate (driver_at drivers sig.0)) (greatest_rank p.ranks (pins_at drivers sig.0) + 1) 0 source);
      pins = λ gate. absurd (both_ways (is_gate (driver_at drivers sig.0)) source gate);
    })

-- the rank of a gate all of whose pins have ranks
pub Settles-gate : (drivers : List Driver) (p : Progress) (sig : Sig) (n rank : ℕ) → IsSound drivers p → sig.0 < length drivers → get_or p.unranked sig.0 false ≡ true → IsTrue (is_gate (driver_at drivers sig.0))
    → n ≤ length (pins_at drivers sig.0) → length (pins_at drivers sig.0) ≤ n → AreUnmarked p.unranked (pins_at drivers sig.0) n → rank ≡ greatest_rank p.ranks (pins_at drivers sig.0) + 1
    → Settles drivers p (with_rank (with_passed p sig n) sig rank) sig
Settles-gate drivers p sig n rank sound within marked gate few all unmarked rank_is =
    Settles-after_passed drivers p (with_rank (with_passed p sig n) sig rank) sig n
    (Settles-rank drivers (with_passed p sig n) sig rank
    (record {
      sound = sound_with_passed drivers p sig n sound few unmarked;
      within = within;
      marked = marked;
      rank_is = rank_is ∙ sym (cond-true (is_gate (driver_at drivers sig.0)) (greatest_rank p.ranks (pins_at drivers sig.0) + 1) 0 gate);
      pins = λ _ k h. unmarked k (omega arith);
    }))

-- a mark that was read
pub mark_read : (marks : List Bool) (i : ℕ) (mark : Bool) → mark ≡ get_or marks i mark → mark ≡ true → i < length marks → get_or marks i false ≡ true
mark_read marks i mark read set h = get_or_default marks i false mark h ∙ sym read ∙ set

-- a gate's next rank fits
pub rank_fits : (drivers : List Driver) (p : Progress) (pins : List Sig) → IsSound drivers p → greatest_rank p.ranks pins ≤ length drivers
rank_fits drivers p pins sound = greatest-le p.ranks (length drivers) (λ s. let low : get_or p.ranks s 0 + count_by (λ b. b) p.unranked ≤ length drivers = sound.low s in omega arith) pins

-- a signal stays settled while another is looked at
stays_settled : (drivers : List Driver) (old new : Progress) (sig : Sig) (before after : List Sig) → Settles drivers old new sig
    → ((s : Sig) → Contains before s → Contains after s) → (Contains new.fresh sig → Contains after sig)
    → (s : ℕ) → s ≢ sig.0 → IsSettled drivers old before s → IsSettled drivers new after s
stays_settled drivers old new sig before after settles kept added s other settled =
    elim settled [
      | inl known ↦ inl (settles.stays_known s known)
      | inr waits ↦
          let passed : get_or new.passed s 0 ≡ get_or old.passed s 0 = settles.others_passed s other in
          let more : get_or old.passed s 0 < length (pins_at drivers s) = waits.more in
          inr (record {
            gate = waits.gate;
            more = omega arith;
            fresh_pin = subst (λ v. IsUnmarked new.unranked (pin_at (pins_at drivers s) v).0 → Contains after (pin_at (pins_at drivers s) v)) (sym passed) (pin waits.fresh_pin);
          })
    ] where
      pin : (IsUnmarked old.unranked (awaited drivers old s).0 → Contains before (awaited drivers old s)) → IsUnmarked new.unranked (awaited drivers old s).0 → Contains after (awaited drivers old s)
      pin fresh unmarked =
          elim (cases_eq (awaited drivers old s).0 sig.0) [
            | inl same ↦
                let it : awaited drivers old s ≡ sig = ap number same in
                elim (settles.newly_known (subst (IsUnmarked new.unranked) same unmarked)) [
                  | inl known ↦ kept (awaited drivers old s) (fresh (subst (IsUnmarked old.unranked) (sym same) known))
                  | inr new_one ↦ subst (Contains after) (sym it) (added new_one)
                ]
            | inr apart ↦ kept (awaited drivers old s) (fresh (settles.others_ranked (awaited drivers old s).0 apart unmarked))
          ]

-- the signals below n stay settled, and the next one is
pub AreSettled-more : (drivers : List Driver) (old new : Progress) (sig : Sig) → Settles drivers old new sig → AreSettled drivers old old.fresh sig.0 → AreSettled drivers new new.fresh (sig.0 + 1)
AreSettled-more drivers old new sig settles before s h =
    elim (cases_eq s sig.0) [
      | inl same ↦ subst (IsSettled drivers new new.fresh) (sym same) settles.settled
      | inr other ↦ stays_settled drivers old new sig old.fresh new.fresh settles settles.fresh (λ c. c) s other (before s (omega arith))
    ]

-- the signals are settled; those of the list are if one more signal is taken for fresh
abbrev pub AreSettledBut : List Driver → Progress → Sig → List Sig → Type 0
AreSettledBut drivers p x rest = (s : ℕ) → s < length drivers → IsSettled drivers p p.fresh s ⊎ (Contains rest (number s) × IsSettled drivers p (p.fresh ++ x ∷ []) s)

pub AreSettledBut-readers : (drivers : List Driver) (p : Progress) (x : Sig) → AreSettled drivers p (p.fresh ++ x ∷ []) (length drivers) → AreSettledBut drivers p x (readers drivers x)
AreSettledBut-readers drivers p x settled s h =
    elim (cases_Bool (reads (driver_at drivers s) x)) [
      | inl reader ↦ inr (is_reader drivers x s h reader, settled s h)
      | inr apart ↦ inl (elim (settled s h) [
        | inl known ↦ inl known
        | inr waits ↦ inr (record {
          gate = waits.gate;
          more = waits.more;
          fresh_pin = λ unmarked. elim (Contains-push_cases p.fresh x (awaited drivers p s) (waits.fresh_pin unmarked)) [
            | inl fresh ↦ fresh
            | inr same ↦ absurd (both_ways (reads (driver_at drivers s) x) apart (reads_pin (pins_at drivers s) (get_or p.passed s 0) x waits.more (ap (λ t. t.0) (sym same))))
          ];
        })
      ])
    ]

pub AreSettledBut-more : (drivers : List Driver) (old new : Progress) (x sig : Sig) (rest : List Sig) → Settles drivers old new sig → AreSettledBut drivers old x (sig ∷ rest) → AreSettledBut drivers new x rest
AreSettledBut-more drivers old new x sig rest settles before s h =
    elim (cases_eq s sig.0) [
      | inl same ↦ inl (subst (IsSettled drivers new new.fresh) (sym same) settles.settled)
      | inr other ↦ elim (before s h) [
        | inl settled ↦ inl (stays_settled drivers old new sig old.fresh new.fresh settles settles.fresh (λ c. c) s other settled)
        | inr listed ↦ inr (later other listed.0, stays_settled drivers old new sig (old.fresh ++ x ∷ []) (new.fresh ++ x ∷ []) settles kept (Contains-append_left new.fresh (x ∷ []) sig) s other listed.1)
      ]
    ] where
      later : s ≢ sig.0 → Contains (sig ∷ rest) (number s) → Contains rest (number s)
      later other listed =
          elim (Contains-cons_cases sig (number s) rest listed) [
            | inl same ↦ absurd (other (ap (λ t. t.0) (sym same)))
            | inr there ↦ there
          ]

      kept : (t : Sig) → Contains (old.fresh ++ x ∷ []) t → Contains (new.fresh ++ x ∷ []) t
      kept t member =
          elim (Contains-append_cases old.fresh (x ∷ []) t member) [
            | inl fresh ↦ Contains-append_left new.fresh (x ∷ []) t (settles.fresh t fresh)
            | inr last ↦ Contains-append_right new.fresh (x ∷ []) t last
          ]

pub AreSettledBut-none : (drivers : List Driver) (p : Progress) (x : Sig) → AreSettledBut drivers p x [] → AreSettled drivers p p.fresh (length drivers)
AreSettledBut-none drivers p x before s h =
    elim (before s h) [ inl settled ↦ settled | inr listed ↦ absurd (Contains-none (number s) listed.0) ]

unmarked_none : (s n : ℕ) → get_or (replicate n true) s false ≡ false → n ≤ s
unmarked_none s zero h = omega arith
unmarked_none zero (suc n) h = absurd (false≢true (sym h))
unmarked_none (suc s) (suc n) h = let below : n ≤ s = unmarked_none s n h in omega arith

none_of : (s n : ℕ) → get_or {A = ℕ} (replicate n 0) s 0 ≡ 0
none_of s zero = refl
none_of zero (suc n) = refl
none_of (suc s) (suc n) = none_of s n

pub start_is_sound : (drivers : List Driver) → IsSound drivers (start_of (length drivers))
start_is_sound drivers = record {
  ranks_size = length-replicate n 0;
  unranked_size = length-replicate n true;
  passed_size = length-replicate n 0;
  fresh = All-nil (λ s. s.0 < n);
  low = λ s. let none : get_or {A = ℕ} (replicate n 0) s 0 ≡ 0 = none_of s n in let few : count_by (λ b. b) (replicate n true) ≤ length (replicate n true) = count_by-le-length (λ b. b) (replicate n true) in let size : length (replicate n true) ≡ n = length-replicate n true in omega arith;
  known = λ s h. past s (unmarked_none s n h);
  within_pins = λ s. let none : get_or {A = ℕ} (replicate n 0) s 0 ≡ 0 = none_of s n in omega arith;
  passed = λ s k h. let none : get_or {A = ℕ} (replicate n 0) s 0 ≡ 0 = none_of s n in absurd (omega arith);
} where
  n : ℕ
  n = length drivers

  past : (s : ℕ) → n ≤ s → HasRank drivers (start_of n) s
  past s h =
      let input : driver_at drivers s ≡ Input = get_or_past drivers s Input h in
      record { rank = none_of s n ∙ sym (ap (rank_by (replicate n 0)) input); pins = λ gate. absurd (false≢true (subst (λ d. is_gate d ≡ true) input gate)) }
