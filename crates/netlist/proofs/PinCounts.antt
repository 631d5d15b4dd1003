-- The drivers of a netlist have no more pins than its statements.
use Rattle.std.proofs.Common.{◌≡◌, ℕ, ◌+◌, ◌≤◌, cond, Bool, true, false, List, [], ◌∷◌, length, map, Option, Some, refl, sym, ap, ◌∙◌, inl, inr, arith}
use Rattle.std.specs.List.{find, flat_map, sum_by}
use Rattle.std.proofs.lemmas.Bool.{cases_Bool, cond-true, cond-false}
use Rattle.std.proofs.lemmas.List.{length-map}
use Rattle.std.proofs.lemmas.List.Concat.{length-flat_map}
use Rattle.std.proofs.lemmas.List.Sums.{sum_by-cons}
use Rattle.sr_model.specs.declared.cells.Sig.{Sig}
use Rattle.sr_model.specs.Declaration.{Declaration, InputNamed, OutputNamed, DriverNamed}
use Rattle.sr_model.specs.Netlist.{Driver}
use Rattle.netlist.specs.Numbering.{mentions, driven_name, pin_names, names_of, drives, sig_of, driver_by, driver_for, drivers_of}
use Rattle.netlist.specs.Wiring.{pins_of, pin_sum}
use Rattle.netlist.proofs.Once.{has, has-here, has-there, is_or_not, IsApart, once-apart}

-- the pins that a statement states, and those of the first statement that drives a name
abbrev pins_in : Declaration → ℕ
pins_in d = length (pin_names d)

abbrev pins_found : List Declaration → List ℕ → ℕ
pins_found [] n = 0
pins_found (d ∷ ds) n = cond (drives n d) (pins_in d) (pins_found ds n)

pins_of_found : (sig : List ℕ → Sig) (ds : List Declaration) (n : List ℕ) → length (pins_of (driver_by sig (find (drives n) ds))) ≡ pins_found ds n
pins_of_found sig [] n = refl
pins_of_found sig (d ∷ ds) n =
    elim (cases_Bool (drives n d)) [
      | inl passes ↦
          ap (λ (o : Option Declaration). length (pins_of (driver_by sig o))) (cond-true (drives n d) (Some d) (find (drives n) ds) passes)
          ∙ stated d ∙ sym (cond-true (drives n d) (pins_in d) (pins_found ds n) passes)
      | inr fails ↦
          ap (λ (o : Option Declaration). length (pins_of (driver_by sig o))) (cond-false (drives n d) (Some d) (find (drives n) ds) fails)
          ∙ pins_of_found sig ds n ∙ sym (cond-false (drives n d) (pins_in d) (pins_found ds n) fails)
    ]
  where
    stated : (e : Declaration) → length (pins_of (driver_by sig (Some e))) ≡ pins_in e
    stated (InputNamed name) = refl
    stated (OutputNamed name) = refl
    stated (DriverNamed target kind pins) = length-map pins sig

-- ---- names that differ share no statement

abbrev share : List (List ℕ) → ℕ → List ℕ → ℕ
share driven k n = cond (has driven n) k 0

share_none : (k : ℕ) (names : List (List ℕ)) → sum_by (share [] k) names ≡ 0
share_none k [] = refl
share_none k (n ∷ names) = omega (arith, sum_by-cons (share [] k) n names, share_none k names)

share_lacking : (t : List ℕ) (k : ℕ) (names : List (List ℕ)) → has names t ≡ false → sum_by (share (t ∷ []) k) names ≡ 0
share_lacking t k [] lacks = refl
share_lacking t k (n ∷ names) lacks =
    elim (is_or_not t n) [
      | inl same ↦ absurd (let here : has (n ∷ names) t ≡ true = has-here n names t same in cc)
      | inr other ↦
          let none : share (t ∷ []) k n ≡ 0 = cond-false (has (t ∷ []) n) k 0 (has-there t [] n (λ e. other (sym e))) in
          let rest : sum_by (share (t ∷ []) k) names ≡ 0 = share_lacking t k names (sym (has-there n names t other) ∙ lacks) in
          omega (arith, sum_by-cons (share (t ∷ []) k) n names)
    ]

share_one : (t : List ℕ) (k : ℕ) (names : List (List ℕ)) → IsApart names → sum_by (share (t ∷ []) k) names ≤ k
share_one t k [] apart = omega arith
share_one t k (n ∷ names) apart =
    elim (is_or_not n t) [
      | inl same ↦
          let own : share (t ∷ []) k n ≡ k = cond-true (has (t ∷ []) n) k 0 (has-here t [] n same) in
          let rest : sum_by (share (t ∷ []) k) names ≡ 0 = share_lacking t k names (ap (has names) (sym same) ∙ apart.0) in
          omega (arith, sum_by-cons (share (t ∷ []) k) n names)
      | inr other ↦
          let none : share (t ∷ []) k n ≡ 0 = cond-false (has (t ∷ []) n) k 0 (has-there t [] n other) in
          let rest : sum_by (share (t ∷ []) k) names ≤ k = share_one t k names apart.1 in
          omega (arith, sum_by-cons (share (t ∷ []) k) n names)
    ]

share_stated : (d : Declaration) (names : List (List ℕ)) → IsApart names → sum_by (share (driven_name d) (pins_in d)) names ≤ pins_in d
share_stated (InputNamed name) names apart = share_one name 0 names apart
share_stated (OutputNamed name) names apart = omega (arith, share_none 0 names)
share_stated (DriverNamed target kind pins) names apart = share_one target (length pins) names apart

-- ---- statement by statement

found_none : (names : List (List ℕ)) → sum_by (pins_found []) names ≡ 0
found_none [] = refl
found_none (n ∷ names) = omega (arith, sum_by-cons (pins_found []) n names, found_none names)

found_more : (d : Declaration) (ds : List Declaration) (names : List (List ℕ))
    → sum_by (pins_found (d ∷ ds)) names ≤ sum_by (share (driven_name d) (pins_in d)) names + sum_by (pins_found ds) names
found_more d ds [] = omega arith
found_more d ds (n ∷ names) =
    let all : sum_by (pins_found (d ∷ ds)) (n ∷ names) ≡ pins_found (d ∷ ds) n + sum_by (pins_found (d ∷ ds)) names = sum_by-cons (pins_found (d ∷ ds)) n names in
    let own : sum_by (share (driven_name d) (pins_in d)) (n ∷ names) ≡ share (driven_name d) (pins_in d) n + sum_by (share (driven_name d) (pins_in d)) names =
    sum_by-cons (share (driven_name d) (pins_in d)) n names in
    let others : sum_by (pins_found ds) (n ∷ names) ≡ pins_found ds n + sum_by (pins_found ds) names = sum_by-cons (pins_found ds) n names in
    let one : pins_found (d ∷ ds) n ≤ share (driven_name d) (pins_in d) n + pins_found ds n = either (drives n d) (pins_in d) (pins_found ds n) in
    omega (arith, found_more d ds names)
  where
    either : (b : Bool) (k m : ℕ) → cond b k m ≤ cond b k 0 + m
    either true k m = omega arith
    either false k m = omega arith

found_within : (ds : List Declaration) (names : List (List ℕ)) → IsApart names → sum_by (pins_found ds) names ≤ sum_by pins_in ds
found_within [] names apart = omega (arith, found_none names)
found_within (d ∷ ds) names apart =
    omega (arith, found_more d ds names, share_stated d names apart, found_within ds names apart, sum_by-cons pins_in d ds)

-- ---- the pins of all drivers

pins_of_drivers : (ds : List Declaration) (names : List (List ℕ)) → pin_sum (map (driver_for ds) names) ≡ sum_by (pins_found ds) names
pins_of_drivers ds [] = refl
pins_of_drivers ds (n ∷ names) =
    omega (
      arith,
      sum_by-cons (λ (driver : Driver). length (pins_of driver)) (driver_for ds n) (map (driver_for ds) names),
      sum_by-cons (pins_found ds) n names,
      pins_of_found (sig_of ds) ds n,
      pins_of_drivers ds names,
    )

pub pins_stated : (ds : List Declaration) → pin_sum (drivers_of ds) ≤ length (flat_map pin_names ds)
pins_stated ds =
    omega (arith, pins_of_drivers ds (names_of ds), found_within ds (names_of ds) (once-apart (flat_map mentions ds)), length-flat_map pin_names ds)
