-- The netlist that statements stand for keeps what every netlist keeps.
use Rattle.std.proofs.Common.{◌≡◌, ◌≢◌, ℕ, ◌<◌, ◌≤◌, ◌↔◌, List, [], ◌∷◌, ◌++◌, length, get_or, map, Option, Some, None, refl, sym, ap, subst, ◌∙◌, inl, inr, arith}
use Rattle.std.specs.List.{All, AllPairs, Contains, find, flat_map, slice_get}
use Rattle.std.proofs.lemmas.Bool.{cases_Bool, cond-true, cond-false}
use Rattle.std.proofs.lemmas.List.{length-map, get_or-map}
use Rattle.std.proofs.lemmas.List.Elements.{All-map, All-nil, All-contains, Contains-append_left, Contains-append_right, Contains-append_cases, Contains-get_or}
use Rattle.sr_model.specs.Limits.{max_pins, max_signals}
use Rattle.sr_model.specs.declared.cells.Sig.{Sig}
use Rattle.sr_model.specs.Declaration.{Declaration, InputNamed, OutputNamed, DriverNamed}
use Rattle.sr_model.specs.Netlist.{Driver, Input}
use Rattle.sr_model.proofs.lemmas.Members.{not_in_nil, All-from_Contains, Contains-here, Contains-there, Contains-cases, Contains-map}
use Rattle.netlist.specs.Numbering.{once, mentions, input_name, output_name, driven_name, pin_names, names_of, place_in, sig_of, inputs_of, outputs_of, drives, stated_driver, driver_by, driver_for, drivers_of, IsSignalName, HasPinCount, IsStatement}
use Rattle.netlist.specs.Wiring as wiring
use Rattle.netlist.specs.Wiring.{driver_at, IsWired}
use Rattle.netlist.specs.Checks.{IsAccepted}
use Rattle.netlist.specs.Circuit.{IsCircuit, IsNetlist}
use Rattle.netlist.specs.Laws.{StatementsGiveCircuits}
use Rattle.netlist.proofs.Once.{has, lacks-from_has, Contains-from_has, IsApart, apart_places, apart_from_AllPairs, once-apart}
use Rattle.netlist.proofs.PinCounts.{pins_stated}
use Rattle.netlist.proofs.Places.{place_in-lt, get_or-place_in, place_in-get_or, get_or-map_place}
use Rattle.netlist.proofs.Statements.{Contains-once, Contains-from_once, driven_mentioned, all_mentioned}
use Rattle.netlist.proofs.Settling.{found_member, names_have_numbers, drivers_have_pin_counts}

-- ---- members of what statements give

flat_member : {Y : Type 0} (f : Declaration → List Y) (ds : List Declaration) (y : Y) → Contains (flat_map f ds) y → (d : Declaration) × Contains ds d × Contains (f d) y
flat_member f [] y h = absurd (not_in_nil y h)
flat_member f (d ∷ ds) y h =
    elim (Contains-append_cases (f d) (flat_map f ds) y h) [
      | inl here ↦ (d, Contains-here d ds, here)
      | inr later ↦ let found : (e : Declaration) × Contains ds e × Contains (f e) y = flat_member f ds y later in (found.0, Contains-there d ds found.0 found.1, found.2)
    ]

flat_has : {Y : Type 0} (f : Declaration → List Y) (ds : List Declaration) (d : Declaration) (y : Y) → Contains ds d → Contains (f d) y → Contains (flat_map f ds) y
flat_has f [] d y member h = absurd (not_in_nil d member)
flat_has f (e ∷ ds) d y member h =
    elim (Contains-cases e ds d member) [
      | inl same ↦ Contains-append_left (f e) (flat_map f ds) y (subst (λ x. Contains (f x) y) (sym same) h)
      | inr later ↦ Contains-append_right (f e) (flat_map f ds) y (flat_has f ds d y later h)
    ]

map_member : {X Y : Type 0} (f : X → Y) (xs : List X) (y : Y) → Contains (map f xs) y → (x : X) × Contains xs x × (f x ≡ y)
map_member f [] y h = absurd (not_in_nil y h)
map_member f (x ∷ xs) y h =
    elim (Contains-cases (f x) (map f xs) y h) [
      | inl same ↦ (x, Contains-here x xs, same)
      | inr later ↦ let found : (z : _) × Contains xs z × (f z ≡ y) = map_member f xs y later in (found.0, Contains-there x xs found.0 found.1, found.2)
    ]

inputs_driven : (d : Declaration) (n : List ℕ) → Contains (input_name d) n → Contains (driven_name d) n
inputs_driven (InputNamed name) n h = h
inputs_driven (OutputNamed name) n h = h
inputs_driven (DriverNamed target kind pins) n h = absurd (not_in_nil n h)

inputs_mentioned : (d : Declaration) (n : List ℕ) → Contains (input_name d) n → Contains (mentions d) n
inputs_mentioned d n h = driven_mentioned d n (inputs_driven d n h)

outputs_mentioned : (d : Declaration) (n : List ℕ) → Contains (output_name d) n → Contains (mentions d) n
outputs_mentioned (InputNamed name) n h = absurd (not_in_nil n h)
outputs_mentioned (OutputNamed name) n h = h
outputs_mentioned (DriverNamed target kind pins) n h = absurd (not_in_nil n h)

-- ---- the first statement that drives a name is the one that does

apart_behind : (front back : List (List ℕ)) → IsApart (front ++ back) → IsApart back
apart_behind [] back apart = apart
apart_behind (n ∷ front) back apart = apart_behind front back apart.1

not_in_both : (front back : List (List ℕ)) (n : List ℕ) → IsApart (front ++ back) → Contains front n → Contains back n → ⊥
not_in_both [] back n apart here later = not_in_nil n here
not_in_both (m ∷ front) back n apart here later =
    elim (Contains-cases m front n here) [
      | inl same ↦ lacks-from_has (front ++ back) m apart.0 (subst (Contains (front ++ back)) (sym same) (Contains-append_right front back n later))
      | inr rest ↦ not_in_both front back n apart.1 rest later
    ]

first_driver : (ds : List Declaration) (d : Declaration) (n : List ℕ) → IsApart (flat_map driven_name ds) → Contains ds d → Contains (driven_name d) n → find (drives n) ds ≡ Some d
first_driver [] d n apart member h = absurd (not_in_nil d member)
first_driver (e ∷ ds) d n apart member h =
    elim (cases_Bool (drives n e)) [
      | inl passes ↦
          elim (Contains-cases e ds d member) [
            | inl same ↦ cond-true (drives n e) (Some e) (find (drives n) ds) passes ∙ ap (λ (x : Declaration). Some x) same
            | inr later ↦ absurd (not_in_both (driven_name e) (flat_map driven_name ds) n apart (Contains-from_has (driven_name e) n passes) (flat_has driven_name ds d n later h))
          ]
      | inr fails ↦
          elim (Contains-cases e ds d member) [
            | inl same ↦ absurd (lacks-from_has (driven_name e) n fails (subst (λ x. Contains (driven_name x) n) (sym same) h))
            | inr later ↦
                cond-false (drives n e) (Some e) (find (drives n) ds) fails
                ∙ first_driver ds d n (apart_behind (driven_name e) (flat_map driven_name ds) apart) later h
          ]
    ]

input_stated : (sig : List ℕ → Sig) (d : Declaration) (n : List ℕ) → Contains (input_name d) n → stated_driver sig d ≡ Input
input_stated sig (InputNamed name) n h = refl
input_stated sig (OutputNamed name) n h = refl
input_stated sig (DriverNamed target kind pins) n h = absurd (not_in_nil n h)

stated_input : (sig : List ℕ → Sig) (d : Declaration) (n : List ℕ) → Contains (driven_name d) n → stated_driver sig d ≡ Input → Contains (input_name d) n
stated_input sig (InputNamed name) n h e = h
stated_input sig (OutputNamed name) n h e = h
stated_input sig (DriverNamed target kind pins) n h e = absurd cc

-- ---- names that differ have signals that differ

inputs_apart : (ds : List Declaration) → IsApart (flat_map driven_name ds) → IsApart (flat_map input_name ds)
inputs_apart [] apart = apart
inputs_apart (InputNamed name ∷ ds) apart = (
  elim (cases_Bool (has (flat_map input_name ds) name)) [
    | inl here ↦
        let input : (d : Declaration) × Contains ds d × Contains (input_name d) name = flat_member input_name ds name (Contains-from_has (flat_map input_name ds) name here) in
        absurd (lacks-from_has (flat_map driven_name ds) name apart.0 (flat_has driven_name ds input.0 name input.1 (inputs_driven input.0 name input.2)))
    | inr fails ↦ fails
  ],
  inputs_apart ds apart.1,
)
inputs_apart (OutputNamed name ∷ ds) apart = inputs_apart ds apart
inputs_apart (DriverNamed target kind pins ∷ ds) apart = inputs_apart ds apart.1

sigs_differ : (ds : List Declaration) (ns : List (List ℕ)) → IsApart ns → ((n : List ℕ) → Contains ns n → Contains (flat_map mentions ds) n) → AllPairs (λ a b. a ≢ b) (map (sig_of ds) ns)
sigs_differ ds ns apart mentioned i j d less within e =
    let long : length (map (sig_of ds) ns) ≡ length ns = length-map ns (sig_of ds) in
    let a : List ℕ = get_or ns i [] in
    let b : List ℕ = get_or ns j [] in
    let signals : sig_of ds a ≡ sig_of ds b = sym (get_or-map (sig_of ds) ns i [] d (omega arith)) ∙ e ∙ get_or-map (sig_of ds) ns j [] d (omega arith) in
    let places : place_in (names_of ds) a ≡ place_in (names_of ds) b = ap (λ (s : Sig). s.0) signals in
    let a_within : place_in (names_of ds) a < length (names_of ds) = place_in-lt (names_of ds) a (Contains-once (flat_map mentions ds) a (mentioned a (Contains-get_or ns i [] (omega arith)))) in
    let b_within : place_in (names_of ds) b < length (names_of ds) = place_in-lt (names_of ds) b (Contains-once (flat_map mentions ds) b (mentioned b (Contains-get_or ns j [] (omega arith)))) in
    let same : a ≡ b =
    sym (get_or-place_in (names_of ds) a [] a_within) ∙ ap (λ k. get_or (names_of ds) k []) places ∙ get_or-place_in (names_of ds) b [] b_within in
    apart_places ns i j [] apart less (omega arith) same

-- ---- the drivers of names

module _ (ds : List Declaration) where
  all_long : length (drivers_of ds) ≡ length (names_of ds)
  all_long = length-map (names_of ds) (driver_for ds)

  sig_within : (n : List ℕ) → Contains (flat_map mentions ds) n → (sig_of ds n).0 < length (drivers_of ds)
  sig_within n h = let within : place_in (names_of ds) n < length (names_of ds) = place_in-lt (names_of ds) n (Contains-once (flat_map mentions ds) n h) in omega (arith, all_long)

  driver_of_name : (n : List ℕ) → Contains (flat_map mentions ds) n → driver_at (drivers_of ds) (sig_of ds n).0 ≡ driver_for ds n
  driver_of_name n h = get_or-map_place (driver_for ds) (names_of ds) n Input (Contains-once (flat_map mentions ds) n h)

  wired_by : (o : Option Declaration) → ((d : Declaration) → o ≡ Some d → Contains ds d) → All (λ (pin : Sig). pin.0 < length (drivers_of ds)) (wiring.pins_of (driver_by (sig_of ds) o))
  wired_by None stands = All-nil (λ (pin : Sig). pin.0 < length (drivers_of ds))
  wired_by (Some (InputNamed name)) stands = All-nil (λ (pin : Sig). pin.0 < length (drivers_of ds))
  wired_by (Some (OutputNamed name)) stands = All-nil (λ (pin : Sig). pin.0 < length (drivers_of ds))
  wired_by (Some (DriverNamed target kind pins)) stands =
      All-map (λ (pin : Sig). pin.0 < length (drivers_of ds)) (sig_of ds) pins
      (All-from_Contains (λ n. (sig_of ds n).0 < length (drivers_of ds)) pins
      (λ n h. sig_within n (flat_has mentions ds (DriverNamed target kind pins) n (stands (DriverNamed target kind pins) refl) (Contains-there target pins n h))))

  all_wired : IsWired (drivers_of ds)
  all_wired =
      All-from_Contains (λ driver. All (λ (pin : Sig). pin.0 < length (drivers_of ds)) (wiring.pins_of driver)) (drivers_of ds)
      (λ driver h.
      let name : (n : List ℕ) × Contains (names_of ds) n × (driver_for ds n ≡ driver) = map_member (driver_for ds) (names_of ds) driver h in
      subst (λ x. All (λ (pin : Sig). pin.0 < length (drivers_of ds)) (wiring.pins_of x)) name.2
      (wired_by (find (drives name.0) ds) (λ d e. found_member (drives name.0) ds d e)))

  all_names : All IsStatement ds → All IsSignalName (names_of ds)
  all_names all =
      All-from_Contains IsSignalName (names_of ds)
      (λ n h.
      let found : (d : Declaration) × Contains ds d × Contains (mentions d) n = flat_member mentions ds n (Contains-from_once (flat_map mentions ds) n h) in
      All-contains IsSignalName (mentions found.0) n ((All-contains IsStatement ds found.0 all found.1).1) found.2)

  all_pin_counts : All IsStatement ds → wiring.HasPinCounts (drivers_of ds)
  all_pin_counts all =
      drivers_have_pin_counts ds (All-from_Contains HasPinCount ds (λ d h. (All-contains IsStatement ds d all h).0))

  one_number : (i j : ℕ) (name : List ℕ) → slice_get (names_of ds) i ≡ Some name → slice_get (names_of ds) j ≡ Some name → i ≡ j
  one_number i j name at_i at_j = ap (λ (s : Sig). s.0) (sym (names_have_numbers ds i name at_i) ∙ names_have_numbers ds j name at_j)

  all_outputs : All (λ (s : Sig). s.0 < length (drivers_of ds)) (outputs_of ds)
  all_outputs =
      All-map (λ (s : Sig). s.0 < length (drivers_of ds)) (sig_of ds) (once (flat_map output_name ds))
      (All-from_Contains (λ n. (sig_of ds n).0 < length (drivers_of ds)) (once (flat_map output_name ds))
      (λ n h. sig_within n (output_mentioned n h)))
    where
      output_mentioned : (n : List ℕ) → Contains (once (flat_map output_name ds)) n → Contains (flat_map mentions ds) n
      output_mentioned n h = all_mentioned output_name outputs_mentioned ds n (Contains-from_once (flat_map output_name ds) n h)

  outputs_differ : AllPairs (λ a b. a ≢ b) (outputs_of ds)
  outputs_differ =
      sigs_differ ds (once (flat_map output_name ds)) (once-apart (flat_map output_name ds))
      (λ n h. all_mentioned output_name outputs_mentioned ds n (Contains-from_once (flat_map output_name ds) n h))

  module _ (accepted : IsAccepted ds) where
    drivers_apart : IsApart (flat_map driven_name ds)
    drivers_apart = apart_from_AllPairs (flat_map driven_name ds) accepted.driven_once

    inputs_differ : AllPairs (λ a b. a ≢ b) (inputs_of ds)
    inputs_differ = sigs_differ ds (flat_map input_name ds) (inputs_apart ds drivers_apart) (all_mentioned input_name inputs_mentioned ds)

    -- a statement that drives a name says what drives its signal
    driver_stated : (d : Declaration) (n : List ℕ) → Contains ds d → Contains (driven_name d) n → driver_at (drivers_of ds) (sig_of ds n).0 ≡ stated_driver (sig_of ds) d
    driver_stated d n member h =
        driver_of_name n (flat_has mentions ds d n member (driven_mentioned d n h)) ∙ ap (driver_by (sig_of ds)) (first_driver ds d n drivers_apart member h)

    inputs_are : (s : Sig) → Contains (inputs_of ds) s ↔ ((s.0 < length (drivers_of ds)) × (driver_at (drivers_of ds) s.0 ≡ Input))
    inputs_are s = (to, from) where
      to : Contains (inputs_of ds) s → (s.0 < length (drivers_of ds)) × (driver_at (drivers_of ds) s.0 ≡ Input)
      to h =
          let name : (n : List ℕ) × Contains (flat_map input_name ds) n × (sig_of ds n ≡ s) = map_member (sig_of ds) (flat_map input_name ds) s h in
          let found : (d : Declaration) × Contains ds d × Contains (input_name d) name.0 = flat_member input_name ds name.0 name.1 in
          subst (λ (t : Sig). (t.0 < length (drivers_of ds)) × (driver_at (drivers_of ds) t.0 ≡ Input)) name.2 (
            sig_within name.0 (all_mentioned input_name inputs_mentioned ds name.0 name.1),
            driver_stated found.0 name.0 found.1 (inputs_driven found.0 name.0 found.2) ∙ input_stated (sig_of ds) found.0 name.0 found.2,
          )

      from : (s.0 < length (drivers_of ds)) × (driver_at (drivers_of ds) s.0 ≡ Input) → Contains (inputs_of ds) s
      from h =
          let within : s.0 < length (names_of ds) = omega (arith, h.0, all_long) in
          let n : List ℕ = get_or (names_of ds) s.0 [] in
          let place : place_in (names_of ds) n ≡ s.0 = place_in-get_or (names_of ds) s.0 [] (once-apart (flat_map mentions ds)) within in
          let same : sig_of ds n ≡ s = ap (λ (k : ℕ). let t : Sig = record { 0 = k } in t) place in
          let driven : Contains (flat_map driven_name ds) n =
          All-contains (Contains (flat_map driven_name ds)) (names_of ds) n accepted.driven (Contains-get_or (names_of ds) s.0 [] within) in
          let found : (d : Declaration) × Contains ds d × Contains (driven_name d) n = flat_member driven_name ds n driven in
          let input : stated_driver (sig_of ds) found.0 ≡ Input =
          sym (driver_stated found.0 n found.1 found.2) ∙ ap (driver_at (drivers_of ds)) place ∙ h.1 in
          subst (Contains (inputs_of ds)) same
          (Contains-map (sig_of ds) (flat_map input_name ds) n
          (flat_has input_name ds found.0 n found.1 (stated_input (sig_of ds) found.0 n found.2 input)))

pub statements_give_circuits : StatementsGiveCircuits
statements_give_circuits ds all netlist = record {
  one_name_each = sym (all_long ds);
  are_names = all_names ds all;
  distinct = one_number ds;
  few_signals = let few : length (names_of ds) ≤ max_signals = netlist.0.few_signals in omega (arith, all_long ds);
  few_pins = let few : length (flat_map pin_names ds) ≤ max_pins = netlist.0.few_pins in omega (arith, pins_stated ds);
  wired = all_wired ds;
  pin_counts = all_pin_counts ds all;
  no_loop = netlist.1;
  inputs = inputs_are ds netlist.0;
  inputs_once = inputs_differ ds netlist.0;
  outputs = all_outputs ds;
  outputs_once = outputs_differ ds;
}

-- the netlist that was made of them
pub circuit_made : (ds : List Declaration) (names : List (List ℕ)) (drivers : List Driver) (inputs outputs : List Sig) → All IsStatement ds → IsNetlist ds
    → names ≡ names_of ds → drivers ≡ drivers_of ds → inputs ≡ inputs_of ds → outputs ≡ outputs_of ds
    → IsCircuit (record { names = names; drivers = drivers; inputs = inputs; outputs = outputs })
circuit_made ds names drivers inputs outputs all netlist names_are drivers_are inputs_are outputs_are =
    subst (λ xs. IsCircuit (record { names = xs; drivers = drivers; inputs = inputs; outputs = outputs })) (sym names_are)
    (subst (λ xs. IsCircuit (record { names = names_of ds; drivers = xs; inputs = inputs; outputs = outputs })) (sym drivers_are)
    (subst (λ xs. IsCircuit (record { names = names_of ds; drivers = drivers_of ds; inputs = xs; outputs = outputs })) (sym inputs_are)
    (subst (λ xs. IsCircuit (record { names = names_of ds; drivers = drivers_of ds; inputs = inputs_of ds; outputs = xs })) (sym outputs_are)
    (statements_give_circuits ds all netlist))))
