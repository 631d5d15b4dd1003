-- Statements stand for a netlist, or one of the rules is broken.
use Rattle.std.proofs.Common.{◌≡◌, ◌≢◌, ◌⊎◌, ℕ, zero, suc, ◌<◌, List, [], ◌∷◌, ◌++◌, length, get_or, refl, sym, ap, subst, ◌∙◌, inl, inr, append_assoc, arith}
use Rattle.std.specs.List.{Contains, All, AllPairs, flat_map}
use Rattle.std.proofs.lemmas.Bool.{cases_Bool, cases_lt}
use Rattle.std.proofs.lemmas.List.{append-nil, length-map}
use Rattle.std.proofs.lemmas.List.Elements.{All-nil, All-cons}
use Rattle.std.proofs.lemmas.Option.{slice_get-get_or}
use Rattle.sr_model.specs.Limits.{max_pins, max_signals}
use Rattle.sr_model.specs.declared.cells.Sig.{Sig}
use Rattle.sr_model.specs.Declaration.{Declaration}
use Rattle.sr_model.specs.Room.{WithRoom}
use Rattle.netlist.specs.declared.checks.NetRefusal.{NetRefusal}
use Rattle.netlist.specs.declared.checks.NetRefusal.TheVariants.{TooManySignals, TooManyPins, TwoDrivers, NoDriver, Loop, NoMemory}
use Rattle.netlist.specs.Numbering.{driven_name, pin_names, mentions, names_of, drivers_of, driver_for, place_in}
use Rattle.netlist.specs.Checks.{without_lines, HasFewSignals, HasFewPins, IsDrivenOnce, IsDriven, FirstBreaksAt, IsFirstUndriven, IsAccepted, IsRefusal}
use Rattle.netlist.specs.Loops.{IsLoop}
use Rattle.netlist.specs.Laws.{IsNetlistOrRefused}
use Rattle.netlist.proofs.Once.{has, Contains-from_has, lacks-from_has, IsApart, once-apart, AllPairs-from_apart}
use Rattle.netlist.proofs.Places.{place_in-lt, place_in-get_or, get_or-place_in}
use Rattle.netlist.proofs.LoopFound.{loop_or_none}
use Rattle.netlist.proofs.Walks.{loop_within}

-- a rule that is kept or broken, and is kept by no statements, is first broken at some line where it is broken
abbrev IsTested : (List Declaration → Type 0) → Type 0
IsTested Rule = (ds : List Declaration) → Rule ds ⊎ (¬ Rule ds)

first_broken : (Rule : List Declaration → Type 0) → IsTested Rule → (before after : List (ℕ × Declaration)) → Rule (without_lines before)
    → Rule (without_lines (before ++ after)) ⊎ ((line : ℕ) × FirstBreaksAt Rule (before ++ after) line)
first_broken Rule test before [] keeps = inl (subst (λ ds. Rule (without_lines ds)) (sym (append-nil before)) keeps)
first_broken Rule test before (d ∷ after) keeps =
    elim (test (without_lines (before ++ d ∷ []))) [
      | inr breaks ↦ inr (d.0, record { before = before; here = d.1; after = after; split = refl; keeps = keeps; breaks = breaks })
      | inl more ↦
          subst (λ ds. Rule (without_lines ds) ⊎ ((line : ℕ) × FirstBreaksAt Rule ds line)) (append_assoc before (d ∷ []) after) (first_broken Rule test (before ++ d ∷ []) after more)
    ]

test_signals : IsTested HasFewSignals
test_signals ds = elim (cases_lt max_signals (length (names_of ds))) [ inl many ↦ inr (λ few. omega arith) | inr few ↦ inl few ]

test_pins : IsTested HasFewPins
test_pins ds = elim (cases_lt max_pins (length (flat_map pin_names ds))) [ inl many ↦ inr (λ few. omega arith) | inr few ↦ inl few ]

apart_or_not : (names : List (List ℕ)) → IsApart names ⊎ (AllPairs (λ a b. a ≢ b) names → ⊥)
apart_or_not [] = inl tt
apart_or_not (name ∷ names) =
    elim (cases_Bool (has names name)) [
      | inl again ↦
          let place = Contains-from_has names name again in
          inr (λ apart. let within : place.0 < length names = place.1 in apart 0 (suc place.0) name (omega arith) (omega arith) (sym place.2))
      | inr new ↦ elim (apart_or_not names) [
        | inl rest ↦ inl (new, rest)
        | inr twice ↦ inr (λ apart. twice (λ i j d less within. apart (suc i) (suc j) d (omega arith) (omega arith)))
      ]
    ]

test_once : IsTested IsDrivenOnce
test_once ds = elim (apart_or_not (flat_map driven_name ds)) [ inl apart ↦ inl (AllPairs-from_apart (flat_map driven_name ds) apart) | inr twice ↦ inr twice ]

-- the first name that is not driven
record IsFirstLacking (driven names : List (List ℕ)) (i : ℕ) (name : List ℕ) : Type 0 where
  within : i < length names
  at : get_or names i name ≡ name
  lacks : ¬ Contains driven name
  before : (k : ℕ) (d : List ℕ) → k < i → Contains driven (get_or names k d)

some_lack : (driven names : List (List ℕ)) → All (Contains driven) names ⊎ ((i : ℕ) × (name : List ℕ) × IsFirstLacking driven names i name)
some_lack driven [] = inl (All-nil (Contains driven))
some_lack driven (name ∷ names) =
    elim (cases_Bool (has driven name)) [
      | inr fails ↦ inr (0, name, record { within = omega arith; at = refl; lacks = lacks-from_has driven name fails; before = λ k d h. absurd (omega arith) })
      | inl here ↦ elim (some_lack driven names) [
        | inl all ↦ inl (All-cons (Contains driven) name names (Contains-from_has driven name here) all)
        | inr later ↦ inr (suc later.0, later.1, next (Contains-from_has driven name here) later.0 later.1 later.2)
      ]
    ] where
      front : Contains driven name → (i : ℕ) (other : List ℕ) → IsFirstLacking driven names i other → (k : ℕ) (d : List ℕ) → k < suc i → Contains driven (get_or (name ∷ names) k d)
      front here i other is zero d h = here
      front here i other is (suc k) d h = is.before k d (omega arith)

      next : Contains driven name → (i : ℕ) (other : List ℕ) → IsFirstLacking driven names i other → IsFirstLacking driven (name ∷ names) (suc i) other
      next here i other is = let lt : i < length names = is.within in record { within = omega arith; at = is.at; lacks = is.lacks; before = front here i other is }

first_undriven : (ds : List Declaration) (i : ℕ) (name : List ℕ) → IsFirstLacking (flat_map driven_name ds) (names_of ds) i name → IsFirstUndriven ds name
first_undriven ds i name is =
    let names : List (List ℕ) = names_of ds in
    let place : place_in names name ≡ i = ap (place_in names) (sym is.at) ∙ place_in-get_or names i name (once-apart (flat_map mentions ds)) is.within in
    record {
      mentioned = (i, is.within, is.at);
      undriven = is.lacks;
      least = λ other there undriven. elim (cases_lt (place_in names other) i) [
        | inr past ↦ omega (arith, place)
        | inl below ↦ absurd (undriven (subst (Contains (flat_map driven_name ds)) (get_or-place_in names other other (place_in-lt names other there)) (is.before (place_in names other) other below)))
      ];
    }

test_driven : (ds : List Declaration) → IsDriven ds ⊎ ((name : List ℕ) × IsFirstUndriven ds name)
test_driven ds = elim (some_lack (flat_map driven_name ds) (names_of ds)) [ inl all ↦ inl all | inr lack ↦ inr (lack.1, first_undriven ds lack.0 lack.1 lack.2) ]

-- the bytes of a name
bytes_of : List ℕ → WithRoom ℕ
bytes_of name = record { items = name; room = length name }

-- a refusal that is not want of memory
abbrev IsRefused : List (ℕ × Declaration) → Type 0
IsRefused ds = (r : NetRefusal) × IsRefusal ds r × (r ≢ NoMemory)

loop_refused : (ds : List (ℕ × Declaration)) → IsAccepted (without_lines ds) → (sig : Sig) (steps : ℕ) → IsLoop (drivers_of (without_lines ds)) sig steps → IsRefused ds
unfolding bytes_of
loop_refused ds accepted sig steps is =
    let names : List (List ℕ) = names_of (without_lines ds) in
    let within : sig.0 < length (drivers_of (without_lines ds)) = loop_within (drivers_of (without_lines ds)) sig steps is in
    let size : length (drivers_of (without_lines ds)) ≡ length names = length-map names (driver_for (without_lines ds)) in
    let name : List ℕ = get_or names sig.0 [] in
    (Loop (bytes_of name) steps, (accepted, (sig, slice_get-get_or names sig.0 [] (omega arith), is)), λ e. cc)

undriven_refused : (ds : List (ℕ × Declaration)) → HasFewSignals (without_lines ds) → HasFewPins (without_lines ds) → IsDrivenOnce (without_lines ds) → (name : List ℕ) → IsFirstUndriven (without_lines ds) name → IsRefused ds
unfolding bytes_of
undriven_refused ds few_signals few_pins once name is = (NoDriver (bytes_of name), (few_signals, few_pins, once, is), λ e. cc)

pub netlist_or_refused : IsNetlistOrRefused
netlist_or_refused ds =
    elim (first_broken HasFewSignals test_signals [] ds (omega arith)) [
      | inr broken ↦ inr (TooManySignals broken.0, broken.1, λ e. cc)
      | inl few_signals ↦ elim (first_broken HasFewPins test_pins [] ds (omega arith)) [
        | inr broken ↦ inr (TooManyPins broken.0, (few_signals, broken.1), λ e. cc)
        | inl few_pins ↦ elim (first_broken IsDrivenOnce test_once [] ds (λ i j d less within. absurd (omega arith))) [
          | inr broken ↦ inr (TwoDrivers broken.0, (few_signals, few_pins, broken.1), λ e. cc)
          | inl once ↦ elim (test_driven (without_lines ds)) [
            | inr lack ↦ inr (undriven_refused ds few_signals few_pins once lack.0 lack.1)
            | inl driven ↦
                let accepted : IsAccepted (without_lines ds) = record { few_signals = few_signals; few_pins = few_pins; driven_once = once; driven = driven } in
                elim (loop_or_none (drivers_of (without_lines ds))) [
                  | inl none ↦ inl (accepted, none)
                  | inr found ↦ inr (loop_refused ds accepted found.0 found.1 found.2)
                ]
          ]
        ]
      ]
    ]
