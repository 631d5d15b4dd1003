-- A gate or flip-flop has at most 1,025 signals.
use Rattle.std.proofs.Common.{ℕ, zero, suc, ◌≡◌, ◌+◌, ◌<◌, ◌≤◌, ◌||◌, Bool, true, false, List, [], ◌∷◌, length, eqb, cond, arith, sym, ap, refl, subst, inl, inr, count_by}
use Rattle.std.proofs.lemmas.Bool.{cases_Bool, eqb-true}
use Rattle.std.proofs.lemmas.List.Elements.{All-get_or}
use Rattle.std.proofs.lemmas.List.FromFn.{sum_by-map-range_with_len_more}
use Rattle.std.proofs.lemmas.List.Sums.{length-filter, sum_by-cons}
use Rattle.std.specs.List.{list_any}
use Rattle.sr_model.specs.declared.cells.Sig.{Sig}
use Rattle.sr_model.specs.Netlist.{Driver, Input, Driven}
use Rattle.sr_model.specs.Limits.{max_gate_pins, max_gate_signals}
use Rattle.sr_model.proofs.lemmas.Laws.{some_pins}
use Rattle.netlist.specs.Wiring.{driver_at, has_signal, signals_below, signals_of, pins_of, HasPinCount, HasPinCounts}

abbrev sig : ℕ → Sig
sig s = record { 0 = s }

count-more : (test : Sig → Bool) (n : ℕ) → count_by test (signals_below (n + 1)) ≡ count_by test (signals_below n) + cond (test (sig n)) 1 0
count-more test n = sum_by-map-range_with_len_more (λ s. cond {A = ℕ} (test s) 1 0) sig 0 n n (omega arith)

next : (n : ℕ) → n + 1 ≡ suc n
next n = omega arith

-- what only signal k passes, no signal below it passes
count-none_below : (test : Sig → Bool) (k n : ℕ) → ((s : Sig) → test s ≡ true → s.0 ≡ k) → n ≤ k → count_by test (signals_below n) ≡ 0
count-none_below test k zero only h = refl
count-none_below test k (suc n) only h =
    let before : count_by test (signals_below n) ≡ 0 = count-none_below test k n only (omega arith) in
    let more : count_by test (signals_below (n + 1)) ≡ 0 = elim (cases_Bool (test (sig n))) [
      | inl passes ↦ let at : n ≡ k = only (sig n) passes in absurd (omega arith)
      | inr fails ↦ omega (arith, count-more test n, ap (λ b. cond {A = ℕ} b 1 0) fails, before)
    ] in
    subst (λ m. count_by test (signals_below m) ≡ 0) (next n) more

-- and one signal at most
count-one : (test : Sig → Bool) (k n : ℕ) → ((s : Sig) → test s ≡ true → s.0 ≡ k) → count_by test (signals_below n) ≤ 1
count-one test k zero only = omega arith
count-one test k (suc n) only =
    let more : count_by test (signals_below (n + 1)) ≤ 1 = elim (cases_Bool (test (sig n))) [
      | inl passes ↦
          let at : n ≡ k = only (sig n) passes in
          omega (arith, count-more test n, ap (λ b. cond {A = ℕ} b 1 0) passes, count-none_below test k n only (omega (arith, at)))
      | inr fails ↦ omega (arith, count-more test n, ap (λ b. cond {A = ℕ} b 1 0) fails, count-one test k n only)
    ] in
    subst (λ m. count_by test (signals_below m) ≤ 1) (next n) more

or-le : (a b : Bool) → cond {A = ℕ} (a || b) 1 0 ≤ cond a 1 0 + cond b 1 0
or-le true b = omega arith
or-le false b = omega arith

-- what passes one of two tests
count-or : (p q : Sig → Bool) (sigs : List Sig) → count_by (λ s. p s || q s) sigs ≤ count_by p sigs + count_by q sigs
count-or p q [] = omega arith
count-or p q (s ∷ sigs) =
    omega (
      arith,
      count-or p q sigs,
      or-le (p s) (q s),
      sum_by-cons (λ x. cond {A = ℕ} (p x || q x) 1 0) s sigs,
      sum_by-cons (λ x. cond {A = ℕ} (p x) 1 0) s sigs,
      sum_by-cons (λ x. cond {A = ℕ} (q x) 1 0) s sigs,
    )

count-nothing : (sigs : List Sig) → count_by (λ s. false) sigs ≡ 0
count-nothing [] = refl
count-nothing (s ∷ sigs) = omega (arith, count-nothing sigs, sum_by-cons (λ (x : Sig). cond {A = ℕ} false 1 0) s sigs)

-- no more signals are among some pins than there are pins
count-pins : (pins : List Sig) (n : ℕ) → count_by (λ s. list_any (λ pin. eqb pin.0 s.0) pins) (signals_below n) ≤ length pins
count-pins [] n = omega (arith, count-nothing (signals_below n))
count-pins (pin ∷ pins) n =
    omega (
      arith,
      count-or (λ s. eqb pin.0 s.0) (λ s. list_any (λ p. eqb p.0 s.0) pins) (signals_below n),
      count-pins pins n,
      count-one (λ s. eqb pin.0 s.0) pin.0 n (λ s e. sym (eqb-true pin.0 s.0 e)),
    )

count-signals : (driver : Driver) (t : Sig) (n : ℕ) → count_by (has_signal driver t) (signals_below n) ≤ length (pins_of driver) + 1
count-signals Input t n = omega (arith, count-nothing (signals_below n))
count-signals (Driven kind pins) t n =
    omega (
      arith,
      count-or (λ s. eqb s.0 t.0) (λ s. list_any (λ pin. eqb pin.0 s.0) pins) (signals_below n),
      count-pins pins n,
      count-one (λ s. eqb s.0 t.0) t.0 n (λ s e. eqb-true s.0 t.0 e),
    )

-- the target and its pins
pub signals-pins : (drivers : List Driver) (t : Sig) → length (signals_of drivers t) ≤ length (pins_of (driver_at drivers t.0)) + 1
signals-pins drivers t =
    omega (arith, length-filter (has_signal (driver_at drivers t.0) t) (signals_below (length drivers)), count-signals (driver_at drivers t.0) t (length drivers))

most-of-driver : (driver : Driver) → HasPinCount driver → length (pins_of driver) ≤ max_gate_pins
most-of-driver Input h = omega arith
most-of-driver (Driven kind pins) h = (some_pins kind (length pins) h).1

pub few_signals : (drivers : List Driver) (t : Sig) → t.0 < length drivers → HasPinCounts drivers → length (signals_of drivers t) ≤ max_gate_signals
few_signals drivers t h counts =
    omega (arith, signals-pins drivers t, most-of-driver (driver_at drivers t.0) (All-get_or HasPinCount drivers t.0 Input h counts))
