-- What stands where every signal has a node, and where one has none.
use Rattle.std.proofs.Common.{◌≡◌, ℕ, ◌<◌, ◌≤◌, Bool, false, List, [], ◌∷◌, length, get_or, take, map, Option, Some, None, is_some, refl, sym, ap, subst, ◌∙◌, inl, inr, arith}
use Rattle.std.specs.Prelude.{option_map, IfSome}
use Rattle.std.specs.List.{Contains, All, find, flat_map, slice_get}
use Rattle.std.proofs.lemmas.Bool.{cases_lt, cases_Bool, cond-true, cond-false}
use Rattle.std.proofs.lemmas.List.{length-map, get_or-map, get_or-take, length-take, take_all}
use Rattle.std.proofs.lemmas.List.Elements.{All-map, All-contains}
use Rattle.std.proofs.lemmas.Option.{slice_get-get_or, slice_get_within, get_or_from_slice_get, slice_get_cases, same_Some}
use Rattle.sr_model.specs.declared.cells.Sig.{Sig}
use Rattle.sr_model.specs.Declaration.{Declaration, InputNamed, OutputNamed, DriverNamed}
use Rattle.sr_model.specs.Gate.{IsPinCount}
use Rattle.sr_model.specs.Netlist.{Driver, Input}
use Rattle.sr_model.proofs.lemmas.Members.{All-from_Contains, Contains-here, Contains-there}
use Rattle.netlist.specs.declared.checks.NetRefusal.{NetRefusal}
use Rattle.netlist.specs.declared.checks.NetRefusal.TheVariants.{TooManySignals, TooManyPins, TwoDrivers, NoDriver, Loop, NoMemory}
use Rattle.netlist.specs.declared.wiring.Node.{Node}
use Rattle.netlist.specs.Numbering.{driven_name, drives, driver_by, driver_for, drivers_of, mentions, names_of, pin_names, all_pins, place_in, sig_in, sig_of, stated_driver, HasPinCount}
use Rattle.netlist.specs.Laws.{NamesHaveNumbers, MentionsHaveNumbers, NamesAreMentioned, NamesDiffer, DriversHavePinCounts}
use Rattle.netlist.specs.Wiring as wiring
use Rattle.netlist.specs.Nodes.{driver_of, drivers_from, IsNodeWithin}
use Rattle.netlist.specs.Checks.{without_lines, HasFewSignals, HasFewPins, IsDrivenOnce, IsDriven, IsFirstUndriven, IsRefusal}
use Rattle.netlist.specs.Driving.{driver_among, HoldsDrivers, AreWithin, IsFirstWithout, IsLack}
use Rattle.netlist.proofs.Driving.{node_driven}
use Rattle.netlist.proofs.Once.{has, Contains-from_has, lacks-from_has, IsApart, once-apart, AllPairs-from_apart}
use Rattle.netlist.proofs.Places.{place_in-lt, place_in-get_or, get_or-place_in}
use Rattle.netlist.proofs.Statements.{Contains-once, Contains-from_once, all_mentioned, pins_mentioned}

-- ---- the nodes so far

some_node : (all : List Node) (nodes : List (Option Node)) (n k : ℕ) → map Some all ≡ take n nodes → n ≤ length nodes → k < n → (node : Node) × (slice_get nodes k ≡ Some (Some node))
some_node all nodes n k same within lt =
    elim ((slice_get_cases all k).1) [
      | inl here ↦
          let read : get_or nodes k None ≡ Some (get_or all k here.0) = sym (get_or-take n nodes k None lt) ∙ ap (λ xs. get_or xs k None) (sym same) ∙ get_or-map Some all k here.0 None here.1 in
          (get_or all k here.0, slice_get-get_or nodes k None (omega (arith, lt, within)) ∙ ap (λ (x : Option Node). Some x) read)
      | inr past ↦ absurd (omega (arith, past.0, ap length same, length-map all (λ (x : Node). Some x), length-take n nodes))
    ]

pub first_without : (all : List Node) (nodes : List (Option Node)) (names : List (List ℕ)) (n : ℕ) (name : List ℕ) → map Some all ≡ take n nodes → n < length nodes → get_or nodes n None ≡ None → slice_get names n ≡ Some name → IsFirstWithout nodes names name
first_without all nodes names n name same lt none named =
    record {
      number = n;
      named = named;
      without = slice_get-get_or nodes n None lt ∙ ap (λ (x : Option Node). Some x) none;
      before = λ k below. some_node all nodes n k same (omega arith) below;
    }

-- ---- drivers of nodes and of names

input_or : Option Driver → Driver
input_or None = Input
input_or (Some d) = d

from_nodes : (pins : List Sig) (all : List Node) → map input_or (map (option_map (driver_of pins)) (map Some all)) ≡ drivers_from pins all
unfolding input_or
from_nodes pins [] = refl
from_nodes pins (node ∷ all) = ap (λ (ds : List Driver). driver_of pins node ∷ ds) (from_nodes pins all)

from_stated : (sig : List ℕ → Sig) (o : Option Declaration) → input_or (option_map (stated_driver sig) o) ≡ driver_by sig o
unfolding input_or
from_stated sig None = refl
from_stated sig (Some d) = refl

from_names : (sig : List ℕ → Sig) (ds : List Declaration) (names : List (List ℕ)) → map input_or (map (driver_among sig ds) names) ≡ map (λ name. driver_by sig (find (drives name) ds)) names
from_names sig ds [] = refl
from_names sig ds (n ∷ names) =
    ap (λ d. d ∷ map input_or (map (driver_among sig ds) names)) (from_stated sig (find (drives n) ds)) ∙ ap (λ (rest : List Driver). driver_by sig (find (drives n) ds) ∷ rest) (from_names sig ds names)

-- ---- all nodes

module _ (ds : List Declaration) (names : List (List ℕ)) (nodes : List (Option Node)) (is : names ≡ names_of ds) (holds : HoldsDrivers (all_pins ds) (sig_in names) names ds nodes) where
  apart : IsApart names
  apart = subst IsApart (sym is) (once-apart (flat_map mentions ds))

  at_name : (t : List ℕ) (node : Option Node) → Contains names t → slice_get nodes (place_in names t) ≡ Some node → is_some node ≡ has (flat_map driven_name ds) t
  at_name t node member read = node_driven (all_pins ds) (sig_in names) names ds nodes t node holds member (sym (get_or_from_slice_get nodes (place_in names t) node node read))

  pub first_undriven : (name : List ℕ) → IsFirstWithout nodes names name → IsFirstUndriven ds name
  first_undriven name h =
      let lt : h.number < length names = slice_get_within names h.number name h.named in
      let read : get_or names h.number name ≡ name = get_or_from_slice_get names h.number name name h.named in
      let member : Contains names name = (h.number, lt, read) in
      let place : place_in names name ≡ h.number = ap (place_in names) (sym read) ∙ place_in-get_or names h.number name apart lt in
      let fails : false ≡ has (flat_map driven_name ds) name = at_name name None member (ap (slice_get nodes) place ∙ h.without) in
      let least : (other : List ℕ) → Contains names other → ¬ Contains (flat_map driven_name ds) other → place_in names name ≤ place_in names other =
      λ other there undriven.
      elim (cases_lt (place_in names other) h.number) [
        | inl below ↦ let node = h.before (place_in names other) below in absurd (undriven (Contains-from_has (flat_map driven_name ds) other (sym (at_name other (Some node.0) there node.1))))
        | inr past ↦ omega (arith, past, place)
      ] in
      subst (λ (ns : List (List ℕ)). Contains ns name → ((other : List ℕ) → Contains ns other → ¬ Contains (flat_map driven_name ds) other → place_in ns name ≤ place_in ns other) → IsFirstUndriven ds name) (sym is)
      (λ m l. record { mentioned = m; undriven = lacks-from_has (flat_map driven_name ds) name (sym fails); least = l }) member least

  module _ (all : List Node) (settled : map Some all ≡ nodes) where
    pub all_driven : IsDriven ds
    all_driven =
        subst (All (Contains (flat_map driven_name ds))) is
        (All-from_Contains (Contains (flat_map driven_name ds)) names
        (λ n member.
        let node = some_node all nodes (length nodes) (place_in names n) (settled ∙ sym (take_all (length nodes) nodes (omega arith))) (omega arith)
        (omega (arith, place_in-lt names n member, nodes_long)) in
        Contains-from_has (flat_map driven_name ds) n (sym (at_name n (Some node.0) member node.1))))
      where
        nodes_long : length nodes ≡ length names
        nodes_long = sym (length-map nodes (option_map (driver_of (all_pins ds)))) ∙ ap length holds ∙ length-map names (driver_among (sig_in names) ds)

    pub all_long : length all ≡ length names
    all_long =
        sym (length-map all (λ (x : Node). Some x)) ∙ ap length settled ∙ sym (length-map nodes (option_map (driver_of (all_pins ds)))) ∙ ap length holds ∙ length-map names (driver_among (sig_in names) ds)

    pub all_drivers : drivers_from (all_pins ds) all ≡ drivers_of ds
    all_drivers =
        sym (from_nodes (all_pins ds) all) ∙ ap (λ ns. map input_or (map (option_map (driver_of (all_pins ds))) ns)) settled ∙ ap (map input_or) holds ∙ from_names (sig_in names) ds names
        ∙ ap (λ (ns : List (List ℕ)). map (λ name. driver_by (sig_in ns) (find (drives name) ds)) ns) is

    pub all_within : (n : ℕ) → AreWithin n nodes → All (IsNodeWithin n) all
    all_within n within k d lt =
        subst (λ (x : Option Node). IfSome x (IsNodeWithin n)) (ap (λ xs. get_or xs k (Some d)) (sym settled) ∙ get_or-map Some all k d (Some d) lt)
        (within k (Some d) (omega (arith, lt, ap length settled, length-map all (λ (x : Node). Some x))))

-- every pin is a signal
pub pins_below : (ds : List Declaration) (names : List (List ℕ)) → names ≡ names_of ds → All (λ (pin : Sig). pin.0 < length names) (all_pins ds)
pins_below ds names is =
    subst (λ (ns : List (List ℕ)). All (λ (pin : Sig). pin.0 < length ns) (all_pins ds)) (sym is)
    (All-map (λ (pin : Sig). pin.0 < length (names_of ds)) (sig_of ds) (flat_map pin_names ds)
    (All-from_Contains (λ n. place_in (names_of ds) n < length (names_of ds)) (flat_map pin_names ds)
    (λ n h. place_in-lt (names_of ds) n (Contains-once (flat_map mentions ds) n (all_mentioned pin_names pins_mentioned ds n h)))))

-- a refusal for want of a node is that of the rule
pub lack_refused : (ds : List (ℕ × Declaration)) (names : List (List ℕ)) (nodes : List (Option Node)) (r : NetRefusal) → names ≡ names_of (without_lines ds)
    → HoldsDrivers (all_pins (without_lines ds)) (sig_in names) names (without_lines ds) nodes → HasFewSignals (without_lines ds) → HasFewPins (without_lines ds) → IsDrivenOnce (without_lines ds) → IsLack nodes names r → IsRefusal ds r
lack_refused ds names nodes (TooManySignals line) is holds few_signals few_pins once lack = absurd lack
lack_refused ds names nodes (TooManyPins line) is holds few_signals few_pins once lack = absurd lack
lack_refused ds names nodes (TwoDrivers line) is holds few_signals few_pins once lack = absurd lack
lack_refused ds names nodes (NoDriver name) is holds few_signals few_pins once lack = (few_signals, few_pins, once, first_undriven (without_lines ds) names nodes is holds name.items lack)
lack_refused ds names nodes (Loop name length) is holds few_signals few_pins once lack = absurd lack
lack_refused ds names nodes NoMemory is holds few_signals few_pins once lack = tt

-- ---- the laws

pub names_have_numbers : NamesHaveNumbers
names_have_numbers ds i name e =
    let lt : i < length (names_of ds) = slice_get_within (names_of ds) i name e in
    ap (λ (n : ℕ). let s : Sig = record { 0 = n } in s)
    (ap (place_in (names_of ds)) (sym (get_or_from_slice_get (names_of ds) i name name e)) ∙ place_in-get_or (names_of ds) i name (once-apart (flat_map mentions ds)) lt)

pub mentions_have_numbers : MentionsHaveNumbers
mentions_have_numbers ds name h =
    let lt : place_in (names_of ds) name < length (names_of ds) = place_in-lt (names_of ds) name (Contains-once (flat_map mentions ds) name h) in
    slice_get-get_or (names_of ds) (place_in (names_of ds) name) name lt ∙ ap (λ (n : List ℕ). Some n) (get_or-place_in (names_of ds) name name lt)

pub names_are_mentioned : NamesAreMentioned
names_are_mentioned ds name = (Contains-from_once (flat_map mentions ds) name, Contains-once (flat_map mentions ds) name)

pub names_differ : NamesDiffer
names_differ ds = AllPairs-from_apart (names_of ds) (once-apart (flat_map mentions ds))

pub found_member : {X : Type 0} (test : X → Bool) (xs : List X) (x : X) → find test xs ≡ Some x → Contains xs x
found_member test [] x e = absurd cc
found_member test (y ∷ ys) x e =
    elim (cases_Bool (test y)) [
      | inl passes ↦ subst (Contains (y ∷ ys)) (same_Some y x (sym (cond-true (test y) (Some y) (find test ys) passes) ∙ e)) (Contains-here y ys)
      | inr fails ↦ Contains-there y ys x (found_member test ys x (sym (cond-false (test y) (Some y) (find test ys) fails) ∙ e))
    ]

stated_pins : (sig : List ℕ → Sig) (d : Declaration) → HasPinCount d → wiring.HasPinCount (stated_driver sig d)
stated_pins sig (InputNamed name) h = tt
stated_pins sig (OutputNamed name) h = tt
stated_pins sig (DriverNamed target kind pins) h = subst (IsPinCount kind) (sym (length-map pins sig)) h

found_pins : (sig : List ℕ → Sig) (o : Option Declaration) → ((d : Declaration) → o ≡ Some d → HasPinCount d) → wiring.HasPinCount (driver_by sig o)
found_pins sig None f = tt
found_pins sig (Some d) f = stated_pins sig d (f d refl)

pub drivers_have_pin_counts : DriversHavePinCounts
drivers_have_pin_counts ds all =
    All-map wiring.HasPinCount (driver_for ds) (names_of ds)
    (λ k d lt. found_pins (sig_of ds) (find (drives (get_or (names_of ds) k d)) ds) (λ x e. All-contains HasPinCount ds x all (found_member (drives (get_or (names_of ds) k d)) ds x e)))
