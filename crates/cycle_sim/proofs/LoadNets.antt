-- The statements of a load netlist stand for a netlist.
use Rattle.std.proofs.Common.{ℕ, zero, suc, ◌≡◌, ◌≢◌, ◌+◌, ◌-◌, ◌*◌, ◌<◌, ◌≤◌, Bool, true, false, not, Option, Some, None, List, [], ◌∷◌, length, get_or, map, inl, inr, refl, sym, ap, subst, ◌∙◌, arith}
use Rattle.std.specs.List.{All, AllPairs, Contains, find, flat_map, range_with_len}
use Rattle.std.proofs.lemmas.Bool.{cases_Bool, cases_lt, cond-true, cond-false, true≢false, false≢true}
use Rattle.std.proofs.lemmas.List.{length-append, get_or-map, get_or_past, length-map}
use Rattle.std.proofs.lemmas.List.Elements.{All-cons, All-contains, All-head, All-tail, All-weaker, Contains-get_or}
use Rattle.std.proofs.lemmas.List.FromFn.{length-map-range_with_len}
use Rattle.std.proofs.lemmas.List.Kept.{AllPairs-filter}
use Rattle.sr_model.specs.declared.cells.Sig.{Sig}
use Rattle.sr_model.specs.declared.gates.Kind.{Kind}
use Rattle.sr_model.specs.Declaration.{Declaration, InputNamed, OutputNamed, DriverNamed}
use Rattle.sr_model.specs.Netlist.{Driver, Input, Driven}
use Rattle.sr_model.proofs.lemmas.Members.{not_in_nil, All-from_Contains, All-one, Contains-cases, Contains-there, Contains-map, filter-has, filter-passes, map-member}
use Rattle.netlist.specs.Checks.{HasFewPins, IsDriven, IsDrivenOnce}
use Rattle.netlist.specs.Circuit.{IsNetlist}
use Rattle.netlist.specs.Loops.{EachHasPinWithin, HasNoLoop}
use Rattle.netlist.specs.Numbering.{driven_name, driver_by, driver_for, drivers_of, drives, mentions, names_of, pin_names, place_in, sig_of, IsSignalName, IsStatement}
use Rattle.netlist.specs.Wiring.{driver_at, flip_flops, is_flip_flop, is_gate, pins_of, signals_below}
use Rattle.netlist.proofs.lemmas.Signals.{signals_member}
use Rattle.netlist.proofs.lemmas.Names.{AllPairs-from_apart, Contains-from_has, has-from_Contains, once-apart, get_or-place_in, get_or-map_place, place_in-get_or, place_in-lt, found_member, Contains-from_once, Contains-once, all_mentioned, driven_mentioned}
use Rattle.unroll.proofs.lemmas.FlatMaps.{flat_map-found, flat_map-has, signals-ascend}
use Rattle.cycle_sim.specs.Laws.{LoadsAreNetlists}
use Rattle.cycle_sim.specs.Load.{IsLoadSize, load_name, input_count, flip_flop_count, first_gate, load_statements}
use Rattle.cycle_sim.proofs.Apart.{no-longer, apart-drawn, range-has, range-below}
use Rattle.cycle_sim.proofs.LoadNames.{load_name-same, load_name-stands}
use Rattle.cycle_sim.proofs.LoadShape.{IsBelow, IsDriver, IsFit, all-fit, all_names, all_names-length, driven-are, driven-apart, driven-has, statements-length}

-- ---- the first item that passes a test

found-passes : {X : Type 0} (test : X → Bool) (xs : List X) (x : X) → find test xs ≡ Some x → test x ≡ true
found-passes test [] x e = absurd cc
found-passes test (y ∷ ys) x e =
    elim (cases_Bool (test y)) [
      | inl passes ↦ let same : Some y ≡ Some x = sym (cond-true (test y) (Some y) (find test ys) passes) ∙ e in let is : y ≡ x = cc in subst (λ z. test z ≡ true) is passes
      | inr fails ↦ found-passes test ys x (sym (cond-false (test y) (Some y) (find test ys) fails) ∙ e)
    ]

none-passes : {X : Type 0} (test : X → Bool) (xs : List X) (x : X) → find test xs ≡ None → Contains xs x → test x ≡ true → ⊥
none-passes test [] x e h passes = not_in_nil x h
none-passes test (y ∷ ys) x e h passes =
    elim (cases_Bool (test y)) [
      | inl first ↦ let same : Some y ≡ None = sym (cond-true (test y) (Some y) (find test ys) first) ∙ e in absurd cc
      | inr fails ↦ elim (Contains-cases y ys x h) [
        | inl same ↦ true≢false (sym (subst (λ z. test z ≡ true) (sym same) passes) ∙ fails)
        | inr later ↦ none-passes test ys x (sym (cond-false (test y) (Some y) (find test ys) fails) ∙ e) later passes
      ]
    ]

-- a statement that drives a name has it as its target
target-is : (target n : List ℕ) (kind : Kind) (pins : List (List ℕ)) → drives n (DriverNamed target kind pins) ≡ true → target ≡ n
target-is target n kind pins passes =
    elim (Contains-cases target [] n (Contains-from_has (target ∷ []) n passes)) [ inl same ↦ same | inr none ↦ absurd (not_in_nil n none) ]

input-is : (name n : List ℕ) → drives n (InputNamed name) ≡ true → name ≡ n
input-is name n passes = elim (Contains-cases name [] n (Contains-from_has (name ∷ []) n passes)) [ inl same ↦ same | inr none ↦ absurd (not_in_nil n none) ]

-- ---- the statements as a text has them, and how many pins they have

is-named : (bound : ℕ) (name : List ℕ) → bound ≤ 65536 → IsBelow bound name → IsSignalName name
is-named bound name small h = subst IsSignalName (sym h.2) (load_name-stands h.0 (omega (arith, h.1)))

is-stated : (signals : ℕ) → IsLoadSize signals → (d : Declaration) → IsFit signals d → IsStatement d
is-stated signals size (InputNamed name) fit = (tt, All-one IsSignalName name (is-named (input_count signals) name (omega arith) fit))
is-stated signals size (OutputNamed name) fit = (tt, All-one IsSignalName name (is-named signals name (omega arith) fit))
is-stated signals size (DriverNamed target kind pins) fit = (
  fit.count,
  All-cons IsSignalName target pins (is-named signals target (omega arith) (fit.index, fit.within, fit.named))
      (All-weaker (IsBelow fit.bound) IsSignalName (λ n h. is-named fit.bound n (omega (arith, fit.low)) h) pins fit.drawn),
)

has-two : (signals : ℕ) (d : Declaration) → IsFit signals d → length (pin_names d) ≤ 2
has-two signals (InputNamed name) fit = omega arith
has-two signals (OutputNamed name) fit = omega arith
has-two signals (DriverNamed target kind pins) fit = fit.few

two-each : (ds : List Declaration) → All (λ d. length (pin_names d) ≤ 2) ds → length (flat_map pin_names ds) ≤ 2 * length ds
two-each [] all = omega arith
two-each (d ∷ ds) all =
    omega (arith, length-append (pin_names d) (flat_map pin_names ds), All-head (λ d. length (pin_names d) ≤ 2) d ds all, two-each ds (All-tail (λ d. length (pin_names d) ≤ 2) d ds all))

below-mentioned : (signals : ℕ) (d : Declaration) (n : List ℕ) → IsFit signals d → Contains (mentions d) n → IsBelow signals n
below-mentioned signals (InputNamed name) n fit h =
    elim (Contains-cases name [] n h) [ inl same ↦ (fit.0, omega (arith, fit.1), sym same ∙ fit.2) | inr none ↦ absurd (not_in_nil n none) ]
below-mentioned signals (OutputNamed name) n fit h =
    elim (Contains-cases name [] n h) [ inl same ↦ (fit.0, fit.1, sym same ∙ fit.2) | inr none ↦ absurd (not_in_nil n none) ]
below-mentioned signals (DriverNamed target kind pins) n fit h =
    elim (Contains-cases target pins n h) [
      | inl same ↦ (fit.index, fit.within, sym same ∙ fit.named)
      | inr pin ↦ let below : IsBelow fit.bound n = All-contains (IsBelow fit.bound) pins n fit.drawn pin in (below.0, omega (arith, below.1, fit.low), below.2)
    ]

module _ (number signals : ℕ) (size : IsLoadSize signals) where
  abbrev ds : List Declaration
  ds = load_statements number signals

  abbrev names : List (List ℕ)
  names = names_of ds

  fit-of : (d : Declaration) → Contains ds d → IsFit signals d
  fit-of d h = All-contains (IsFit signals) ds d (all-fit number signals size) h

  all-stated : All IsStatement ds
  all-stated = All-weaker (IsFit signals) IsStatement (is-stated signals size) ds (all-fit number signals size)

  few-pins : HasFewPins ds
  few-pins = omega (arith, two-each ds (All-weaker (IsFit signals) (λ d. length (pin_names d) ≤ 2) (has-two signals) ds (all-fit number signals size)), statements-length number signals size)

  once-driven : IsDrivenOnce ds
  once-driven = subst (AllPairs (λ a b. a ≢ b)) (sym (driven-are number signals)) (driven-apart signals size)

  mentioned-below : (n : List ℕ) → Contains names n → IsBelow signals n
  mentioned-below n h =
      let found : (d : Declaration) × Contains ds d × Contains (mentions d) n = flat_map-found mentions ds n (Contains-from_once (flat_map mentions ds) n h) in
      below-mentioned signals found.0 n (fit-of found.0 found.1) found.2

  below-driven : (n : List ℕ) → IsBelow signals n → Contains (flat_map driven_name ds) n
  below-driven n h = subst (λ ns. Contains ns n) (sym (driven-are number signals)) (subst (Contains (all_names signals)) (sym h.2) (driven-has signals size h.0 h.1))

  all-driven : IsDriven ds
  all-driven = All-from_Contains (Contains (flat_map driven_name ds)) names (λ n h. below-driven n (mentioned-below n h))

  below-named : (n : List ℕ) → IsBelow signals n → Contains names n
  below-named n h = Contains-once (flat_map mentions ds) n (all_mentioned driven_name driven_mentioned ds n (below-driven n h))

  names-length : length names ≡ signals
  names-length =
      let fewer : length names ≤ length (all_names signals) = no-longer names (all_names signals) (AllPairs-from_apart names (once-apart (flat_map mentions ds)))
      (λ n h. subst (λ ns. Contains ns n) (driven-are number signals) (below-driven n (mentioned-below n h))) in
      let more : length (all_names signals) ≤ length names = no-longer (all_names signals) names (driven-apart signals size)
      (λ n h. Contains-once (flat_map mentions ds) n (all_mentioned driven_name driven_mentioned ds n (subst (λ ns. Contains ns n) (sym (driven-are number signals)) h))) in
      omega (arith, all_names-length signals size)

  pub signals-are : length (drivers_of ds) ≡ signals
  signals-are = length-map names (driver_for ds) ∙ names-length

  -- ---- what drives a signal

  driver-is : (s : Sig) → s.0 < length names → driver_at (drivers_of ds) s.0 ≡ driver_for ds (get_or names s.0 [])
  driver-is s h = get_or-map (driver_for ds) names s.0 [] Input h

  -- a signal that is no input has a name
  driven-within : (test : Driver → Bool) (s : Sig) → test Input ≡ false → test (driver_at (drivers_of ds) s.0) ≡ true → s.0 < length names
  driven-within test s none h =
      elim (cases_lt s.0 (length names)) [
        | inl within ↦ within
        | inr past ↦ absurd (true≢false (sym h ∙ ap test (get_or_past (drivers_of ds) s.0 Input (omega (arith, length-map names (driver_for ds)))) ∙ none))
      ]

  pin-lower : (n : List ℕ) (i : ℕ) → i < signals → n ≡ load_name i → (o : Option Declaration) → find (drives n) ds ≡ o → is_gate (driver_by (sig_of ds) o) ≡ true
      → (pin : Sig) → Contains (pins_of (driver_by (sig_of ds) o)) pin → (j : ℕ) × (j < i) × (get_or names pin.0 [] ≡ load_name j)
  pin-lower n i h is None found gate pin member = absurd (false≢true gate)
  pin-lower n i h is (Some (InputNamed name)) found gate pin member = absurd (false≢true gate)
  pin-lower n i h is (Some (OutputNamed name)) found gate pin member = absurd (false≢true gate)
  pin-lower n i h is (Some (DriverNamed target kind pins)) found gate pin member =
      let within : Contains ds (DriverNamed target kind pins) = found_member (drives n) ds (DriverNamed target kind pins) found in
      let fit : IsDriver signals target kind pins = fit-of (DriverNamed target kind pins) within in
      let named : target ≡ n = target-is target n kind pins (found-passes (drives n) ds (DriverNamed target kind pins) found) in
      let same : i ≡ fit.index = load_name-same i fit.index (omega arith) (omega (arith, fit.within)) (sym is ∙ sym named ∙ fit.named) in
      let p : (p : List ℕ) × Contains pins p × (sig_of ds p ≡ pin) = map-member (sig_of ds) pins pin member in
      let below : IsBelow fit.bound p.0 = All-contains (IsBelow fit.bound) pins p.0 fit.drawn p.1 in
      let has : Contains names p.0 = Contains-once (flat_map mentions ds) p.0 (flat_map-has mentions ds (DriverNamed target kind pins) p.0 within (Contains-there target pins p.0 p.1)) in
      elim fit.role [
        | inl flip_flop ↦ absurd (true≢false (sym gate ∙ ap not flip_flop.0))
        | inr lower ↦ (
          below.0,
          omega (arith, below.1, lower.2),
          ap (λ (s : Sig). get_or names s.0 []) (sym p.2) ∙ get_or-place_in names p.0 [] (place_in-lt names p.0 has) ∙ below.2,
        )
      ]

  -- a signal of a loop has a pin in it with a lesser index
  next-lower : (loop : List Sig) → EachHasPinWithin (drivers_of ds) loop → (s : Sig) (i : ℕ) → i < signals → get_or names s.0 [] ≡ load_name i → Contains loop s
      → (pin : Sig) × Contains loop pin × ((j : ℕ) × (j < i) × (get_or names pin.0 [] ≡ load_name j))
  next-lower loop each s i h is member =
      let gate : is_gate (driver_at (drivers_of ds) s.0) ≡ true = (each s member).0 in
      let driver : driver_at (drivers_of ds) s.0 ≡ driver_for ds (get_or names s.0 []) = driver-is s (driven-within is_gate s refl gate) in
      let pin : (pin : Sig) × Contains (pins_of (driver_at (drivers_of ds) s.0)) pin × Contains loop pin = (each s member).1 in (
        pin.0,
        pin.2,
        pin-lower (get_or names s.0 []) i h is (find (drives (get_or names s.0 [])) ds) refl (ap is_gate (sym driver) ∙ gate) pin.0 (subst (λ d. Contains (pins_of d) pin.0) driver pin.1),
      )

  none-fed : (loop : List Sig) → EachHasPinWithin (drivers_of ds) loop → (n : ℕ) (s : Sig) (i : ℕ) → i ≤ n → i < signals → get_or names s.0 [] ≡ load_name i → Contains loop s → ⊥
  none-fed loop each zero s i low h is member = let next = next-lower loop each s i h is member in omega (arith, next.2.1)
  none-fed loop each (suc n) s i low h is member =
      let next = next-lower loop each s i h is member in
      none-fed loop each n next.0 next.2.0 (omega (arith, next.2.1)) (omega (arith, next.2.1)) next.2.2 next.1

  no-loop : HasNoLoop (drivers_of ds)
  no-loop s fed =
      let within : s.0 < length names = driven-within is_gate s refl (fed.each s fed.member).0 in
      let below : IsBelow signals (get_or names s.0 []) = mentioned-below (get_or names s.0 []) (Contains-get_or names s.0 [] within) in
      none-fed fed.signals fed.each below.0 s below.0 (omega arith) below.1 below.2 fed.member

  is-netlist : IsNetlist ds
  is-netlist = (record { few_signals = omega (arith, names-length); few_pins = few-pins; driven_once = once-driven; driven = all-driven }, no-loop)

  -- ---- the flip-flops

  flip_flop-index : (n : List ℕ) (o : Option Declaration) → find (drives n) ds ≡ o → is_flip_flop (driver_by (sig_of ds) o) ≡ true → (i : ℕ) × (input_count signals ≤ i) × (i < first_gate signals) × (n ≡ load_name i)
  flip_flop-index n None found h = absurd (false≢true h)
  flip_flop-index n (Some (InputNamed name)) found h = absurd (false≢true h)
  flip_flop-index n (Some (OutputNamed name)) found h = absurd (false≢true h)
  flip_flop-index n (Some (DriverNamed target kind pins)) found h =
      let fit : IsDriver signals target kind pins = fit-of (DriverNamed target kind pins) (found_member (drives n) ds (DriverNamed target kind pins) found) in
      let named : target ≡ n = target-is target n kind pins (found-passes (drives n) ds (DriverNamed target kind pins) found) in
      elim fit.role [
        | inl flip_flop ↦ (fit.index, flip_flop.1, flip_flop.2, sym named ∙ fit.named)
        | inr gate ↦ absurd (true≢false (sym h ∙ gate.0))
      ]

  index-flip_flop : (i : ℕ) → input_count signals ≤ i → i < first_gate signals → (o : Option Declaration) → find (drives (load_name i)) ds ≡ o → is_flip_flop (driver_by (sig_of ds) o) ≡ true
  index-flip_flop i low high None found =
      let driven : (d : Declaration) × Contains ds d × Contains (driven_name d) (load_name i) = flat_map-found driven_name ds (load_name i) (below-driven (load_name i) (i, omega arith, refl)) in
      absurd (none-passes (drives (load_name i)) ds driven.0 found driven.1 (has-from_Contains (driven_name driven.0) (load_name i) driven.2))
  index-flip_flop i low high (Some (InputNamed name)) found =
      let fit : IsBelow (input_count signals) name = fit-of (InputNamed name) (found_member (drives (load_name i)) ds (InputNamed name) found) in
      let named : name ≡ load_name i = input-is name (load_name i) (found-passes (drives (load_name i)) ds (InputNamed name) found) in
      let same : i ≡ fit.0 = load_name-same i fit.0 (omega arith) (omega (arith, fit.1)) (sym named ∙ fit.2) in
      absurd (omega (arith, fit.1))
  index-flip_flop i low high (Some (OutputNamed name)) found = absurd (false≢true (found-passes (drives (load_name i)) ds (OutputNamed name) found))
  index-flip_flop i low high (Some (DriverNamed target kind pins)) found =
      let fit : IsDriver signals target kind pins = fit-of (DriverNamed target kind pins) (found_member (drives (load_name i)) ds (DriverNamed target kind pins) found) in
      let named : target ≡ load_name i = target-is target (load_name i) kind pins (found-passes (drives (load_name i)) ds (DriverNamed target kind pins) found) in
      let same : i ≡ fit.index = load_name-same i fit.index (omega arith) (omega (arith, fit.within)) (sym named ∙ fit.named) in
      elim fit.role [
        | inl flip_flop ↦ flip_flop.0
        | inr gate ↦ absurd (omega (arith, gate.1))
      ]

  abbrev flip_flop_sig : ℕ → Sig
  flip_flop_sig i = sig_of ds (load_name (input_count signals + i))

  abbrev flip_flop_sigs : List Sig
  flip_flop_sigs = map flip_flop_sig (range_with_len 0 (flip_flop_count signals))

  placed : (i : ℕ) → i < signals → place_in names (load_name i) < length names
  placed i h = place_in-lt names (load_name i) (below-named (load_name i) (i, h, refl))

  name-at : (i : ℕ) → i < signals → get_or names (place_in names (load_name i)) [] ≡ load_name i
  name-at i h = get_or-place_in names (load_name i) [] (placed i h)

  sigs-apart : AllPairs (λ a b. a ≢ b) flip_flop_sigs
  sigs-apart = apart-drawn flip_flop_sig (flip_flop_count signals) (λ i j low high e.
      let same : input_count signals + i ≡ input_count signals + j = load_name-same (input_count signals + i) (input_count signals + j) (omega arith) (omega arith)
      (sym (name-at (input_count signals + i) (omega arith)) ∙ ap (λ (s : Sig). get_or names s.0 []) e ∙ name-at (input_count signals + j) (omega arith)) in
      omega arith)

  found-apart : AllPairs (λ a b. a ≢ b) (flip_flops (drivers_of ds))
  found-apart i j d less h e =
      let up : AllPairs (λ a b. a.0 < b.0) (flip_flops (drivers_of ds)) =
      AllPairs-filter (λ a b. a.0 < b.0) (λ s. is_flip_flop (driver_at (drivers_of ds) s.0)) (signals_below (length (drivers_of ds))) (signals-ascend (length (drivers_of ds))) in
      omega (arith, up i j d less h, ap (λ (s : Sig). s.0) e)

  found-among : (s : Sig) → Contains (flip_flops (drivers_of ds)) s → Contains flip_flop_sigs s
  found-among s h =
      let test : is_flip_flop (driver_at (drivers_of ds) s.0) ≡ true = filter-passes (λ (t : Sig). is_flip_flop (driver_at (drivers_of ds) t.0)) (signals_below (length (drivers_of ds))) s h in
      let within : s.0 < length names = driven-within is_flip_flop s refl test in
      let index : (i : ℕ) × (input_count signals ≤ i) × (i < first_gate signals) × (get_or names s.0 [] ≡ load_name i) =
      flip_flop-index (get_or names s.0 []) (find (drives (get_or names s.0 [])) ds) refl (ap is_flip_flop (sym (driver-is s within)) ∙ test) in
      let back : input_count signals + (index.0 - input_count signals) ≡ index.0 = omega (arith, index.1) in
      let place : place_in names (load_name index.0) ≡ s.0 = ap (place_in names) (sym index.3) ∙ place_in-get_or names s.0 [] (once-apart (flat_map mentions ds)) within in
      let is : flip_flop_sig (index.0 - input_count signals) ≡ s = ap (λ k. sig_of ds (load_name k)) back ∙ ap (λ (k : ℕ). let t : Sig = record { 0 = k } in t) place in
      subst (Contains flip_flop_sigs) is (Contains-map flip_flop_sig (range_with_len 0 (flip_flop_count signals)) (index.0 - input_count signals) (range-has (flip_flop_count signals) (index.0 - input_count signals) (omega (arith, index.1, index.2))))

  sigs-among : (s : Sig) → Contains flip_flop_sigs s → Contains (flip_flops (drivers_of ds)) s
  sigs-among s h =
      let from : (i : ℕ) × Contains (range_with_len 0 (flip_flop_count signals)) i × (flip_flop_sig i ≡ s) = map-member flip_flop_sig (range_with_len 0 (flip_flop_count signals)) s h in
      let below : from.0 < flip_flop_count signals = range-below (flip_flop_count signals) from.0 from.1 in
      let index : ℕ = input_count signals + from.0 in
      let has : Contains names (load_name index) = below-named (load_name index) (index, omega arith, refl) in
      let driver : driver_at (drivers_of ds) (flip_flop_sig from.0).0 ≡ driver_for ds (load_name index) = get_or-map_place (driver_for ds) names (load_name index) Input has in
      subst (Contains (flip_flops (drivers_of ds))) from.2
      (filter-has (λ (t : Sig). is_flip_flop (driver_at (drivers_of ds) t.0)) (signals_below (length (drivers_of ds))) (flip_flop_sig from.0)
      (signals_member (length (drivers_of ds)) (flip_flop_sig from.0).0 (omega (arith, placed index (omega arith), length-map names (driver_for ds))))
      (ap is_flip_flop driver ∙ index-flip_flop index (omega arith) (omega arith) (find (drives (load_name index)) ds) refl))

  pub flip_flops-are : length (flip_flops (drivers_of ds)) ≡ flip_flop_count signals
  flip_flops-are =
      let fewer : length (flip_flops (drivers_of ds)) ≤ length flip_flop_sigs = no-longer (flip_flops (drivers_of ds)) flip_flop_sigs found-apart found-among in
      let more : length flip_flop_sigs ≤ length (flip_flops (drivers_of ds)) = no-longer flip_flop_sigs (flip_flops (drivers_of ds)) sigs-apart sigs-among in
      omega (arith, length-map-range_with_len flip_flop_sig 0 (flip_flop_count signals))

pub loads_are_netlists : LoadsAreNetlists
loads_are_netlists number signals size = (all-stated number signals size, is-netlist number signals size)
