-- The netlist that a printed text states is the one that was printed.
use Rattle.std.proofs.Common.{◌≡◌, ◌≢◌, ◌↔◌, ℕ, ◌<◌, ◌≤◌, Bool, true, false, cond, IsTrue, List, [], ◌∷◌, ◌++◌, length, map, get_or, Some, refl, sym, ap, subst, ◌∙◌, arith, inl, inr}
use Rattle.std.specs.List.{All, Contains, filter, find, flat_map, range_with_len}
use Rattle.std.proofs.lemmas.Bool.{cases_Bool, cases_lt, cond-true, cond-false, false≢true}
use Rattle.std.proofs.lemmas.List.{append-nil, get_or_past, length-append, length-map}
use Rattle.std.proofs.lemmas.List.Concat.{flat_map-append, flat_map_single, length-flat_map}
use Rattle.std.proofs.lemmas.List.Elements.{Contains-append_left, Contains-append_right, Contains-append_cases, Contains-get_or, All-contains, All-filter}
use Rattle.std.proofs.lemmas.List.Folds.{flat_map-map}
use Rattle.std.proofs.lemmas.List.FromFn.{fill_by_all}
use Rattle.std.proofs.lemmas.List.Kept.{AllPairs-filter}
use Rattle.std.proofs.lemmas.Option.{slice_get-get_or}
use Rattle.sr_model.specs.declared.cells.Sig.{Sig}
use Rattle.sr_model.specs.declared.gates.Kind.{Kind}
use Rattle.sr_model.specs.Declaration.{Declaration, InputNamed, OutputNamed, DriverNamed}
use Rattle.sr_model.specs.Gate.{IsPinCount}
use Rattle.sr_model.specs.Netlist.{Driver, Input, Driven}
use Rattle.sr_model.proofs.lemmas.Members.{not_in_nil, Contains-here, Contains-cases, Contains-map, All-from_Contains, filter-passes}
use Rattle.netlist.specs.Circuit.{Circuit, IsCircuit, IsNetlist, circuit_of}
use Rattle.netlist.specs.Loops.{HasPinIn, EachHasPinWithin, HasNoLoop}
use Rattle.netlist.specs.Numbering.{mentions, input_name, output_name, driven_name, pin_names, names_of, once, place_in, sig_in, sig_of, drives, stated_driver, driver_for, driver_by, drivers_of, IsSignalName, IsStatement}
use Rattle.netlist.specs.Wiring.{driver_at, kind_of, pins_of, is_gate, signals_below, pin_sum, HasPinCount, IsWired}
use Rattle.netlist.proofs.lemmas.Signals.{signals_member, signal_within}
use Rattle.netlist.proofs.lemmas.Names.{IsApart, once-apart, apart_from_AllPairs, AllPairs-from_apart, lacks-from_has, Contains-from_has, has-from_Contains, place_in-lt, place_in-get_or, get_or-map_place, Contains-once, Contains-from_once, driven_mentioned}
use Rattle.bench_reader.specs.Printed.{name_in}
use Rattle.bench_reader.specs.PrintLaws.{driver_named, SameNetlist}
use Rattle.bench_reader.proofs.PrintedStatements.{driver_stated, inputs_stated, outputs_stated, drivers_stated, stated_by}
use Rattle.bench_reader.proofs.SignalNames.{map_found, flat_member, flat_found, flat_flat, flat_none, flat_agree, apart_both, once_of_apart, apart_fewer, number, name_of_sig, sig_of_name, names_back, names_apart, signals_once}

-- ---- drivers with other numbers

-- the driver, with the pins' signals by their names
abbrev renamed : (List ℕ → Sig) → List (List ℕ) → Driver → Driver
renamed sig names Input = Input
renamed sig names (Driven kind pins) = Driven kind (map sig (map (name_in names) pins))

kind_of-renamed : (sig : List ℕ → Sig) (names : List (List ℕ)) (driver : Driver) → kind_of (renamed sig names driver) ≡ kind_of driver
kind_of-renamed sig names Input = refl
kind_of-renamed sig names (Driven kind pins) = refl

is_gate-renamed : (sig : List ℕ → Sig) (names : List (List ℕ)) (driver : Driver) → is_gate (renamed sig names driver) ≡ is_gate driver
is_gate-renamed sig names Input = refl
is_gate-renamed sig names (Driven kind pins) = refl

pins_of-renamed : (sig : List ℕ → Sig) (names : List (List ℕ)) (driver : Driver) → pins_of (renamed sig names driver) ≡ map sig (map (name_in names) (pins_of driver))
pins_of-renamed sig names Input = refl
pins_of-renamed sig names (Driven kind pins) = refl

-- the pins of each signal are signals of the netlist
pins_within : (drivers : List Driver) → IsWired drivers → (s : ℕ) → s < length drivers → All (λ pin. pin.0 < length drivers) (pins_of (driver_at drivers s))
pins_within drivers wired s h = wired s Input h

signals_within : (n : ℕ) → All (λ s. s.0 < n) (signals_below n)
signals_within n = All-from_Contains (λ s. s.0 < n) (signals_below n) (signal_within n)

-- whether a gate or flip-flop drives the signal
abbrev is_driven : Driver → Bool
is_driven Input = false
is_driven (Driven kind pins) = true

-- ---- the statement that drives a name

never_both : (ns ms : List (List ℕ)) (name : List ℕ) → IsApart (ns ++ ms) → Contains ns name → Contains ms name → ⊥
never_both [] ms name apart here there = not_in_nil name here
never_both (n ∷ ns) ms name apart here there =
    elim (Contains-cases n ns name here) [
      | inl e ↦ lacks-from_has (ns ++ ms) n apart.0 (Contains-append_right ns ms n (subst (Contains ms) (sym e) there))
      | inr later ↦ never_both ns ms name apart.1 later there
    ]

apart_later : (ns ms : List (List ℕ)) → IsApart (ns ++ ms) → IsApart ms
apart_later [] ms apart = apart
apart_later (n ∷ ns) ms apart = apart_later ns ms apart.1

-- where no name is driven twice, it is the first that is found
found_once : (ds : List Declaration) (d : Declaration) (name : List ℕ) → IsApart (flat_map driven_name ds) → Contains ds d → Contains (driven_name d) name → find (drives name) ds ≡ Some d
found_once [] d name apart h driven = absurd (not_in_nil d h)
found_once (e ∷ ds) d name apart h driven =
    elim (Contains-cases e ds d h) [
      | inl same ↦
          let passes : drives name e ≡ true = has-from_Contains (driven_name e) name (subst (λ x. Contains (driven_name x) name) (sym same) driven) in
          cond-true (drives name e) (Some e) (find (drives name) ds) passes ∙ ap (λ x. Some x) same
      | inr later ↦
          let others : Contains (flat_map driven_name ds) name = flat_member driven_name ds d name later driven in
          let fails : drives name e ≡ false =
          elim (cases_Bool (drives name e)) [
            | inl passes ↦ absurd (never_both (driven_name e) (flat_map driven_name ds) name apart (Contains-from_has (driven_name e) name passes) others)
            | inr no_pass ↦ no_pass
          ] in
          cond-false (drives name e) (Some e) (find (drives name) ds) fails ∙ found_once ds d name (apart_later (driven_name e) (flat_map driven_name ds) apart) later driven
    ]

-- ---- what the statements of a driver name

no_inputs : (names : List (List ℕ)) (s : Sig) (driver : Driver) → flat_map input_name (driver_stated names s driver) ≡ []
no_inputs names s Input = refl
no_inputs names s (Driven kind pins) = refl

no_outputs : (names : List (List ℕ)) (s : Sig) (driver : Driver) → flat_map output_name (driver_stated names s driver) ≡ []
no_outputs names s Input = refl
no_outputs names s (Driven kind pins) = refl

its_pins : (names : List (List ℕ)) (s : Sig) (driver : Driver) → flat_map pin_names (driver_stated names s driver) ≡ map (name_in names) (pins_of driver)
its_pins names s Input = refl
its_pins names s (Driven kind pins) = append-nil (map (name_in names) pins)

its_target : (names : List (List ℕ)) (s : Sig) (driver : Driver) (rest : List Sig)
    → flat_map driven_name (driver_stated names s driver) ++ map (name_in names) rest ≡ map (name_in names) (cond (is_driven driver) (s ∷ rest) rest)
its_target names s Input rest = refl
its_target names s (Driven kind pins) rest = refl

pins_counted : (names : List (List ℕ)) (drivers : List Driver) → length (flat_map (λ d. map (name_in names) (pins_of d)) drivers) ≡ length (flat_map pins_of drivers)
pins_counted names [] = refl
pins_counted names (d ∷ drivers) =
    let a = length-append (map (name_in names) (pins_of d)) (flat_map (λ d. map (name_in names) (pins_of d)) drivers) in
    let b = length-append (pins_of d) (flat_map pins_of drivers) in
    let e = length-map (pins_of d) (name_in names) in
    let more = pins_counted names drivers in
    omega arith

module _ (c : Circuit) (is : IsCircuit c) where
  names_are_apart : IsApart c.names
  names_are_apart =
      apart_from_AllPairs c.names (λ i j d lt below e.
      let same : i ≡ j = is.distinct i j (get_or c.names j d) (slice_get-get_or c.names i d (omega arith) ∙ ap (λ (x : List ℕ). Some x) e) (slice_get-get_or c.names j d below) in
      omega arith)

  sized : length c.names ≡ length c.drivers
  sized = is.one_name_each

  within_names : (signals : List Sig) → All (λ s. s.0 < length c.drivers) signals → All (λ s. s.0 < length c.names) signals
  within_names signals all = subst (λ n. All (λ (s : Sig). s.0 < n) signals) (sym sized) all

  inputs_are : All (λ s. s.0 < length c.drivers) c.inputs
  inputs_are = All-from_Contains (λ s. s.0 < length c.drivers) c.inputs (λ s h. ((is.inputs s).0 h).0)

  name_is : (s : Sig) → s.0 < length c.drivers → Contains c.names (name_in c.names s)
  name_is s lt = Contains-get_or c.names s.0 [] (subst (λ n. s.0 < n) (sym sized) lt)

  signal_is : (s : Sig) → s.0 < length c.drivers → sig_in c.names (name_in c.names s) ≡ s
  signal_is s lt = sig_of_name c.names s names_are_apart (subst (λ n. s.0 < n) (sym sized) lt)

  place_is : (name : List ℕ) → Contains c.names name → place_in c.names name < length c.drivers
  place_is name h = subst (λ n. place_in c.names name < n) sized (place_in-lt c.names name h)

  -- what holds of the statements of each form
  each_stated : (P : Declaration → Type 0) → ((s : Sig) → s.0 < length c.drivers → P (InputNamed (name_in c.names s))) → ((s : Sig) → s.0 < length c.drivers → P (OutputNamed (name_in c.names s)))
      → ((s : Sig) (kind : Kind) (pins : List Sig) → s.0 < length c.drivers → driver_at c.drivers s.0 ≡ Driven kind pins → P (DriverNamed (name_in c.names s) kind (map (name_in c.names) pins)))
      → (d : Declaration) → Contains (stated_by c) d → P d
  each_stated P ins outs gates d h =
      elim (Contains-append_cases (inputs_stated c ++ outputs_stated c) (drivers_stated c (signals_below (length c.drivers))) d h) [
        | inl ports ↦ elim (Contains-append_cases (inputs_stated c) (outputs_stated c) d ports) [
          | inl here ↦
              let found = map_found (λ s. InputNamed (name_in c.names s)) c.inputs d here in
              subst P found.2 (ins found.0 ((is.inputs found.0).0 found.1).0)
          | inr here ↦
              let found = map_found (λ s. OutputNamed (name_in c.names s)) c.outputs d here in
              subst P found.2 (outs found.0 (All-contains (λ s. s.0 < length c.drivers) c.outputs found.0 is.outputs found.1))
        ]
        | inr driver ↦
            let found = flat_found (λ s. driver_stated c.names s (driver_at c.drivers s.0)) (signals_below (length c.drivers)) d driver in
            by_driver found.0 (signal_within (length c.drivers) found.0 found.1) (driver_at c.drivers (found.0).0) refl found.2
      ]
    where
      by_driver : (s : Sig) → s.0 < length c.drivers → (driver : Driver) → driver_at c.drivers s.0 ≡ driver → Contains (driver_stated c.names s driver) d → P d
      by_driver s lt Input e there = absurd (not_in_nil d there)
      by_driver s lt (Driven kind pins) e there =
          elim (Contains-cases (DriverNamed (name_in c.names s) kind (map (name_in c.names) pins)) [] d there) [
            | inl same ↦ subst P same (gates s kind pins lt e)
            | inr none ↦ absurd (not_in_nil d none)
          ]

  -- the statement that drives the signal
  is_stated : (s : Sig) → s.0 < length c.drivers
      → (d : Declaration) × Contains (stated_by c) d × Contains (driven_name d) (name_in c.names s) × ((sig : List ℕ → Sig) → stated_driver sig d ≡ renamed sig c.names (driver_at c.drivers s.0))
  is_stated s lt = by_driver (driver_at c.drivers s.0) refl
    where
      by_driver : (driver : Driver) → driver_at c.drivers s.0 ≡ driver
          → (d : Declaration) × Contains (stated_by c) d × Contains (driven_name d) (name_in c.names s) × ((sig : List ℕ → Sig) → stated_driver sig d ≡ renamed sig c.names driver)
      by_driver Input e =
          let d = InputNamed (name_in c.names s) in
          let here : Contains (inputs_stated c) d = Contains-map (λ s. InputNamed (name_in c.names s)) c.inputs s ((is.inputs s).1 (lt, e)) in (
            d,
            Contains-append_left (inputs_stated c ++ outputs_stated c) (drivers_stated c (signals_below (length c.drivers))) d (Contains-append_left (inputs_stated c) (outputs_stated c) d here),
            Contains-here (name_in c.names s) [],
            λ sig. refl,
          )
      by_driver (Driven kind pins) e =
          let d = DriverNamed (name_in c.names s) kind (map (name_in c.names) pins) in
          let there : Contains (driver_stated c.names s (driver_at c.drivers s.0)) d = subst (λ driver. Contains (driver_stated c.names s driver) d) (sym e) (Contains-here d []) in (
            d,
            Contains-append_right (inputs_stated c ++ outputs_stated c) (drivers_stated c (signals_below (length c.drivers))) d
                (flat_member (λ s. driver_stated c.names s (driver_at c.drivers s.0)) (signals_below (length c.drivers)) s d (signals_member (length c.drivers) s.0 lt) there),
            Contains-here (name_in c.names s) [],
            λ sig. refl,
          )

  pins_are : (s : Sig) → s.0 < length c.drivers → (name : List ℕ) → Contains (map (name_in c.names) (pins_of (driver_at c.drivers s.0))) name → Contains c.names name
  pins_are s lt name h =
      let found = map_found (name_in c.names) (pins_of (driver_at c.drivers s.0)) name h in
      subst (Contains c.names) found.2 (name_is found.0 (All-contains (λ (pin : Sig). pin.0 < length c.drivers) (pins_of (driver_at c.drivers s.0)) found.0 (pins_within c.drivers is.wired s.0 lt) found.1))

  gate_names : (s : Sig) (kind : Kind) (pins : List Sig) → s.0 < length c.drivers → driver_at c.drivers s.0 ≡ Driven kind pins
      → (name : List ℕ) → Contains (name_in c.names s ∷ map (name_in c.names) pins) name → Contains c.names name
  gate_names s kind pins lt e name h =
      elim (Contains-cases (name_in c.names s) (map (name_in c.names) pins) name h) [
        | inl same ↦ subst (Contains c.names) same (name_is s lt)
        | inr later ↦ pins_are s lt name (subst (λ driver. Contains (map (name_in c.names) (pins_of driver)) name) (sym e) later)
      ]

  one_name : (s : Sig) → s.0 < length c.drivers → (name : List ℕ) → Contains (name_in c.names s ∷ []) name → Contains c.names name
  one_name s lt name h =
      elim (Contains-cases (name_in c.names s) [] name h) [ inl same ↦ subst (Contains c.names) same (name_is s lt) | inr none ↦ absurd (not_in_nil name none) ]

  are_signal_names : (names : List (List ℕ)) → ((name : List ℕ) → Contains names name → Contains c.names name) → All IsSignalName names
  are_signal_names names within = All-from_Contains IsSignalName names (λ name h. All-contains IsSignalName c.names name is.are_names (within name h))

  pub stated_are : All IsStatement (stated_by c)
  stated_are =
      All-from_Contains IsStatement (stated_by c)
      (each_stated IsStatement (λ s lt. (tt, are_signal_names (name_in c.names s ∷ []) (one_name s lt))) (λ s lt. (tt, are_signal_names (name_in c.names s ∷ []) (one_name s lt)))
      (λ s kind pins lt e.
      let count : IsPinCount kind (length pins) = subst HasPinCount e (is.pin_counts s.0 Input lt) in
      (subst (IsPinCount kind) (sym (length-map pins (name_in c.names))) count, are_signal_names (name_in c.names s ∷ map (name_in c.names) pins) (gate_names s kind pins lt e))))

  mentioned_are : (name : List ℕ) → Contains (flat_map mentions (stated_by c)) name → Contains c.names name
  mentioned_are name h =
      let found = flat_found mentions (stated_by c) name h in
      each_stated (λ d. (name : List ℕ) → Contains (mentions d) name → Contains c.names name) one_name one_name gate_names found.0 found.1 name found.2

  -- the statement that drives the name
  driving : (name : List ℕ) → Contains c.names name
      → (d : Declaration) × Contains (stated_by c) d × Contains (driven_name d) name × ((sig : List ℕ → Sig) → stated_driver sig d ≡ renamed sig c.names (driver_named c name))
  driving name h =
      let stated = is_stated (sig_in c.names name) (place_is name h) in
      (stated.0, stated.1, subst (Contains (driven_name stated.0)) (name_of_sig c.names name h) stated.2, stated.3)

  same_names : (name : List ℕ) → Contains c.names name ↔ Contains (names_of (stated_by c)) name
  same_names name = (
    λ h. let stated = driving name h in
        Contains-once (flat_map mentions (stated_by c)) name (flat_member mentions (stated_by c) stated.0 name stated.1 (driven_mentioned stated.0 name stated.2)),
    λ h. mentioned_are name (Contains-from_once (flat_map mentions (stated_by c)) name h),
  )

  by_form : (f : Declaration → List (List ℕ))
      → flat_map f (stated_by c) ≡ flat_map f (inputs_stated c) ++ flat_map f (outputs_stated c) ++ flat_map f (drivers_stated c (signals_below (length c.drivers)))
  by_form f =
      flat_map-append f (inputs_stated c ++ outputs_stated c) (drivers_stated c (signals_below (length c.drivers)))
      ∙ ap (λ (t : List (List ℕ)). t ++ flat_map f (drivers_stated c (signals_below (length c.drivers)))) (flat_map-append f (inputs_stated c) (outputs_stated c))

  of_drivers : (f : Declaration → List (List ℕ)) (g : Driver → List (List ℕ)) → ((s : Sig) (driver : Driver) → flat_map f (driver_stated c.names s driver) ≡ g driver) → (signals : List Sig)
      → flat_map f (drivers_stated c signals) ≡ flat_map (λ s. g (driver_at c.drivers s.0)) signals
  of_drivers f g same signals =
      flat_flat f (λ s. driver_stated c.names s (driver_at c.drivers s.0)) signals
      ∙ flat_agree (λ s. flat_map f (driver_stated c.names s (driver_at c.drivers s.0))) (λ s. g (driver_at c.drivers s.0)) signals (λ s. same s (driver_at c.drivers s.0))

  of_inputs : (f : Declaration → List (List ℕ)) → ((name : List ℕ) → f (InputNamed name) ≡ name ∷ []) → flat_map f (inputs_stated c) ≡ map (name_in c.names) c.inputs
  of_inputs f one =
      flat_map-map f (λ s. InputNamed (name_in c.names s)) c.inputs ∙ flat_agree (λ s. f (InputNamed (name_in c.names s))) (λ s. name_in c.names s ∷ []) c.inputs (λ s. one (name_in c.names s))
      ∙ flat_map_single (name_in c.names) c.inputs

  no_input_names : (f : Declaration → List (List ℕ)) → ((name : List ℕ) → f (InputNamed name) ≡ []) → flat_map f (inputs_stated c) ≡ []
  no_input_names f none = flat_map-map f (λ s. InputNamed (name_in c.names s)) c.inputs ∙ flat_none (λ s. f (InputNamed (name_in c.names s))) c.inputs (λ s. none (name_in c.names s))

  no_output_names : (f : Declaration → List (List ℕ)) → ((name : List ℕ) → f (OutputNamed name) ≡ []) → flat_map f (outputs_stated c) ≡ []
  no_output_names f none = flat_map-map f (λ s. OutputNamed (name_in c.names s)) c.outputs ∙ flat_none (λ s. f (OutputNamed (name_in c.names s))) c.outputs (λ s. none (name_in c.names s))

  inputs_named : flat_map input_name (stated_by c) ≡ map (name_in c.names) c.inputs
  inputs_named =
      let signals = signals_below (length c.drivers) in
      let none : flat_map input_name (drivers_stated c signals) ≡ [] = of_drivers input_name (λ _. []) (no_inputs c.names) signals ∙ flat_none (λ _. []) signals (λ _. refl) in
      by_form input_name
      ∙ ap (λ (t : List (List ℕ)). flat_map input_name (inputs_stated c) ++ flat_map input_name (outputs_stated c) ++ t) none
      ∙ append-nil (flat_map input_name (inputs_stated c) ++ flat_map input_name (outputs_stated c))
      ∙ ap (λ (t : List (List ℕ)). flat_map input_name (inputs_stated c) ++ t) (no_output_names input_name (λ _. refl))
      ∙ append-nil (flat_map input_name (inputs_stated c)) ∙ of_inputs input_name (λ _. refl)

  outputs_named : flat_map output_name (stated_by c) ≡ map (name_in c.names) c.outputs
  outputs_named =
      let signals = signals_below (length c.drivers) in
      let none : flat_map output_name (drivers_stated c signals) ≡ [] = of_drivers output_name (λ _. []) (no_outputs c.names) signals ∙ flat_none (λ _. []) signals (λ _. refl) in
      by_form output_name
      ∙ ap (λ (t : List (List ℕ)). flat_map output_name (inputs_stated c) ++ flat_map output_name (outputs_stated c) ++ t) none
      ∙ append-nil (flat_map output_name (inputs_stated c) ++ flat_map output_name (outputs_stated c))
      ∙ ap (λ (t : List (List ℕ)). t ++ flat_map output_name (outputs_stated c)) (no_input_names output_name (λ _. refl))
      ∙ flat_map-map output_name (λ s. OutputNamed (name_in c.names s)) c.outputs ∙ flat_map_single (name_in c.names) c.outputs

  -- ---- each name is driven once

  abbrev its_gates : List Sig → List Sig
  its_gates signals = filter (λ s. is_driven (driver_at c.drivers s.0)) signals

  targets_named : (signals : List Sig) → flat_map driven_name (drivers_stated c signals) ≡ map (name_in c.names) (its_gates signals)
  targets_named [] = refl
  targets_named (s ∷ signals) =
      flat_map-append driven_name (driver_stated c.names s (driver_at c.drivers s.0)) (drivers_stated c signals)
      ∙ ap (λ (t : List (List ℕ)). flat_map driven_name (driver_stated c.names s (driver_at c.drivers s.0)) ++ t) (targets_named signals)
      ∙ its_target c.names s (driver_at c.drivers s.0) (its_gates signals)

  driven_named : flat_map driven_name (stated_by c) ≡ map (name_in c.names) c.inputs ++ map (name_in c.names) (its_gates (signals_below (length c.drivers)))
  driven_named =
      let signals = signals_below (length c.drivers) in
      by_form driven_name
      ∙ ap (λ (t : List (List ℕ)). flat_map driven_name (inputs_stated c) ++ flat_map driven_name (outputs_stated c) ++ t) (targets_named signals)
      ∙ ap (λ (t : List (List ℕ)). flat_map driven_name (inputs_stated c) ++ t ++ map (name_in c.names) (its_gates signals)) (no_output_names driven_name (λ _. refl))
      ∙ ap (λ (t : List (List ℕ)). t ++ map (name_in c.names) (its_gates signals)) (append-nil (flat_map driven_name (inputs_stated c)) ∙ of_inputs driven_name (λ _. refl))

  driven_apart : IsApart (flat_map driven_name (stated_by c))
  driven_apart =
      let signals = signals_below (length c.drivers) in
      let test : Sig → Bool = λ s. is_driven (driver_at c.drivers s.0) in
      let within : All (λ s. s.0 < length c.drivers) (its_gates signals) = All-filter test (λ s. s.0 < length c.drivers) signals (signals_within (length c.drivers)) in
      subst IsApart (sym driven_named)
      (apart_both (map (name_in c.names) c.inputs) (map (name_in c.names) (its_gates signals))
      (names_apart c.names c.inputs names_are_apart (within_names c.inputs inputs_are) is.inputs_once)
      (names_apart c.names (its_gates signals) names_are_apart (within_names (its_gates signals) within) (AllPairs-filter (λ a b. a ≢ b) test signals (signals_once (length c.drivers))))
      (λ name here there.
      let a = map_found (name_in c.names) c.inputs name here in
      let b = map_found (name_in c.names) (its_gates signals) name there in
      let input = (is.inputs a.0).0 a.1 in
      let same : a.0 ≡ b.0 =
      sym (signal_is a.0 input.0) ∙ ap (sig_in c.names) (a.2 ∙ sym b.2) ∙ signal_is b.0 (All-contains (λ s. s.0 < length c.drivers) (its_gates signals) b.0 within b.1) in
      false≢true (sym (ap is_driven input.1) ∙ subst (λ s. test s ≡ true) (sym same) (filter-passes test signals b.0 b.1))))

  -- ---- pins

  few_pins : length (flat_map pin_names (stated_by c)) ≡ pin_sum c.drivers
  few_pins =
      let n = length c.drivers in
      let signals = signals_below n in
      let named : Driver → List (List ℕ) = λ d. map (name_in c.names) (pins_of d) in
      let all : c.drivers ≡ map (driver_at c.drivers) (range_with_len 0 n) = fill_by_all (driver_at c.drivers) c.drivers n Input refl (λ k lt. refl) in
      ap length
      (by_form pin_names
      ∙ ap (λ (t : List (List ℕ)). flat_map pin_names (inputs_stated c) ++ t ++ flat_map pin_names (drivers_stated c signals)) (no_output_names pin_names (λ _. refl))
      ∙ ap (λ (t : List (List ℕ)). t ++ [] ++ flat_map pin_names (drivers_stated c signals)) (no_input_names pin_names (λ _. refl))
      ∙ of_drivers pin_names named (its_pins c.names) signals
      ∙ flat_map-map (λ s. named (driver_at c.drivers s.0)) number (range_with_len 0 n)
      ∙ sym (flat_map-map named (driver_at c.drivers) (range_with_len 0 n))
      ∙ ap (flat_map named) (sym all))
      ∙ pins_counted c.names c.drivers ∙ length-flat_map pins_of c.drivers

  -- ---- drivers

  same_driver : (name : List ℕ) → Contains c.names name → driver_named (circuit_of (stated_by c)) name ≡ renamed (sig_of (stated_by c)) c.names (driver_named c name)
  same_driver name h =
      let ds = stated_by c in
      let stated = driving name h in
      get_or-map_place (driver_for ds) (names_of ds) name Input ((same_names name).0 h)
      ∙ ap (driver_by (sig_of ds)) (found_once ds stated.0 name driven_apart stated.1 stated.2)
      ∙ stated.3 (sig_of ds)

  -- the signal that a signal of the new netlist was
  abbrev back : Sig → Sig
  back t = sig_in c.names (name_in (names_of (stated_by c)) t)

  gate_was : (t : Sig) → is_gate (driver_at (drivers_of (stated_by c)) t.0) ≡ true
      → ((back t).0 < length c.drivers) × (driver_at (drivers_of (stated_by c)) t.0 ≡ renamed (sig_of (stated_by c)) c.names (driver_at c.drivers (back t).0))
  gate_was t gate =
      let ds = stated_by c in
      let news = names_of ds in
      elim (cases_lt t.0 (length news)) [
        | inl lt ↦
            let name = name_in news t in
            let was : Contains c.names name = (same_names name).1 (Contains-get_or news t.0 [] lt) in
            let place : place_in news name ≡ t.0 = place_in-get_or news t.0 [] (once-apart (flat_map mentions ds)) lt in
            (place_is name was, ap (driver_at (drivers_of ds)) (sym place) ∙ same_driver name was)
        | inr past ↦
            let none : driver_at (drivers_of ds) t.0 ≡ Input = get_or_past (drivers_of ds) t.0 Input (subst (λ n. n ≤ t.0) (sym (length-map news (driver_for ds))) past) in
            absurd (false≢true (sym (ap is_gate none) ∙ gate))
      ]

  pin_was : (t p : Sig) → is_gate (driver_at (drivers_of (stated_by c)) t.0) ≡ true → Contains (pins_of (driver_at (drivers_of (stated_by c)) t.0)) p → Contains (pins_of (driver_at c.drivers (back t).0)) (back p)
  pin_was t p gate h =
      let ds = stated_by c in
      let was = gate_was t gate in
      let old = driver_at c.drivers (back t).0 in
      let pins = map (name_in c.names) (pins_of old) in
      let there : Contains (map (sig_of ds) pins) p = subst (λ ps. Contains ps p) (ap pins_of was.1 ∙ pins_of-renamed (sig_of ds) c.names old) h in
      let by_name = map_found (sig_of ds) pins p there in
      let by_pin = map_found (name_in c.names) (pins_of old) by_name.0 by_name.1 in
      let q = by_pin.0 in
      let q_within : q.0 < length c.drivers = All-contains (λ (pin : Sig). pin.0 < length c.drivers) (pins_of old) q (pins_within c.drivers is.wired (back t).0 was.0) by_pin.1 in
      let q_new : Contains (names_of ds) (name_in c.names q) = (same_names (name_in c.names q)).0 (name_is q q_within) in
      let back_is : back p ≡ q =
      ap back (sym by_name.2) ∙ ap (λ (name : List ℕ). back (sig_of ds name)) (sym by_pin.2) ∙ ap (sig_in c.names) (name_of_sig (names_of ds) (name_in c.names q) q_new) ∙ signal_is q q_within in
      subst (Contains (pins_of old)) (sym back_is) by_pin.1

  loop_was : (signals : List Sig) → EachHasPinWithin (drivers_of (stated_by c)) signals → EachHasPinWithin c.drivers (map back signals)
  loop_was signals each s h =
      let found = map_found back signals s h in
      let t = found.0 in
      let step = each t found.1 in
      let gate : is_gate (driver_at c.drivers (back t).0) ≡ true =
      sym (is_gate-renamed (sig_of (stated_by c)) c.names (driver_at c.drivers (back t).0)) ∙ ap is_gate (sym (gate_was t step.0).1) ∙ step.0 in
      subst (λ (x : Sig). IsTrue (is_gate (driver_at c.drivers x.0)) × HasPinIn c.drivers (map back signals) x) found.2
      (gate, (back (step.1).0, pin_was t (step.1).0 step.0 (step.1).1, Contains-map back signals (step.1).0 (step.1).2))

  no_loop : HasNoLoop (drivers_of (stated_by c))
  no_loop s fed = is.no_loop (back s) (record { signals = map back fed.signals; each = loop_was fed.signals fed.each; member = Contains-map back fed.signals s fed.member })

  -- ---- the netlist

  pub accepted : IsNetlist (stated_by c)
  accepted =
      let ds = stated_by c in
      let fewer : length (names_of ds) ≤ length c.names = apart_fewer (names_of ds) c.names (once-apart (flat_map mentions ds)) (λ name h. (same_names name).1 h) in
      let small = is.few_signals in
      let size = sized in (
        record {
          few_signals = omega arith;
          few_pins = subst (λ n. n ≤ 1048576) (sym few_pins) is.few_pins;
          driven_once = AllPairs-from_apart (flat_map driven_name ds) driven_apart;
          driven = All-from_Contains (Contains (flat_map driven_name ds)) (names_of ds) (λ name h.
              let stated = driving name ((same_names name).1 h) in flat_member driven_name ds stated.0 name stated.1 stated.2);
        },
        no_loop,
      )

  names_read : (signals : List Sig) → All (λ s. s.0 < length c.drivers) signals
      → map (name_in (names_of (stated_by c))) (map (sig_of (stated_by c)) (map (name_in c.names) signals)) ≡ map (name_in c.names) signals
  names_read signals within =
      names_back (names_of (stated_by c)) (map (name_in c.names) signals) (λ name h.
      let found = map_found (name_in c.names) signals name h in
      (same_names name).0 (subst (Contains c.names) found.2 (name_is found.0 (All-contains (λ s. s.0 < length c.drivers) signals found.0 within found.1))))

  pub same_netlist : SameNetlist c (circuit_of (stated_by c))
  same_netlist =
      let ds = stated_by c in
      let read : List (List ℕ) → List (List ℕ) = λ names. map (name_in (names_of ds)) (map (sig_of ds) names) in
      record {
        names = same_names;
        inputs = sym (ap read inputs_named ∙ names_read c.inputs inputs_are);
        outputs = sym
            (ap (λ (names : List (List ℕ)). read (once names)) outputs_named
            ∙ ap read (once_of_apart (map (name_in c.names) c.outputs) (names_apart c.names c.outputs names_are_apart (within_names c.outputs is.outputs) is.outputs_once))
            ∙ names_read c.outputs is.outputs);
        kinds = λ name h. sym (ap kind_of (same_driver name h) ∙ kind_of-renamed (sig_of ds) c.names (driver_named c name));
        pins = λ name h. sym
            (ap (λ driver. map (name_in (names_of ds)) (pins_of driver)) (same_driver name h) ∙ ap (map (name_in (names_of ds))) (pins_of-renamed (sig_of ds) c.names (driver_named c name))
            ∙ names_read (pins_of (driver_named c name)) (pins_within c.drivers is.wired (place_in c.names name) (place_is name h)));
      }
