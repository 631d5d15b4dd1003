-- Words have one meaning at most.
use Rattle.std.proofs.Common.{◌≡◌, ◌<◌, ◌+◌, ◌-◌, ◌^◌, ◌⊎◌, ℕ, Bool, true, false, List, [], zero, suc, length, get_or, Some, Result, Ok, Err, refl, sym, ap, subst, ◌∙◌, ⊎_elim, lit<, arith}
use Rattle.std.specs.Prelude.{Contains, IsTrue}
use Rattle.std.specs.List.{slice_get}
use Rattle.std.proofs.lemmas.Bool.{cases_order}
use Rattle.std.proofs.lemmas.Fmt.{decimal_injective}
use Rattle.std.proofs.lemmas.List.{get_or-drop, length-drop}
use Rattle.std.proofs.lemmas.Option.{slice_get_within, get_or_from_slice_get, same_Some}
use Rattle.sr_model.specs.Limits.{max_cycles, max_signals}
use Rattle.restore_program.specs.declared.words.Settings.{Settings}
use Rattle.restore_program.specs.declared.words.Settings.TheVariants as settings
use Rattle.report.specs.declared.refusal.WordRefusal.{WordRefusal}
use Rattle.report.specs.declared.refusal.WordRefusal.TheVariants as refusals
use Rattle.restore_program.specs.Words.{CommandRule, command_rules, Gives, GivesAt, IsBad, IsBadAt, IsBadNumber, IsCommand, IsFirstBad, IsFor, IsGiven, IsGivenRight, IsNumber, IsCertify, IsCheck, IsPrint, IsShaped, KeyRule, Loads, Restores, Simulates, Takes, choice, certify_rule, check_rule, cycles_rule, later, load_rule, names, number, number_rule, print_rule, restore_rule, seed_rule, select_rule, Selects, signals_rule, simulate_rule, trace_rule, width_rule}
use Rattle.restore_program.specs.WordMeaning.{Means}
use Rattle.restore_program.proofs.GivenValues.{same_gift}
use Rattle.std.specs.Str.{bytes_eq}
use Rattle.restore_program.proofs.CommandShapes.{certify_is_one, check_is_one, load_is_one, not_both, one_command, print_is_one, restore_is_one, select_is_one, shaped_command, simulate_is_one}

-- ---- a key is given in one place

-- a word behind the files, by its place among those
pub read_behind : (rule : CommandRule) (words : List (List ℕ)) (place : ℕ) (word d : List ℕ) → rule.files < place → slice_get words place ≡ Some word → get_or (later rule words) (place - (1 + rule.files)) d ≡ word
read_behind rule words place word d behind at =
    let is : 1 + rule.files + (place - (1 + rule.files)) ≡ place = omega arith in
    get_or-drop (1 + rule.files) words (place - (1 + rule.files)) d ∙ ap (λ k. get_or words k d) is ∙ get_or_from_slice_get words place word d at

not_before : (rule : CommandRule) (words : List (List ℕ)) (key : KeyRule) (place next : ℕ) (value more : List ℕ) → IsGivenRight (later rule words) key → GivesAt rule words place key value → GivesAt rule words next key more
    → ¬ (place < next)
not_before rule words key place next value more right first second less =
    let within : next < length words = slice_get_within words next second.word second.at in
    let start : ℕ = 1 + rule.files in
    let behind : rule.files < place = first.behind in
    let inside : next - start < length (later rule words) = rw length-drop (omega arith) in
    right.once (place - start) (next - start) [] (omega arith) inside (
      subst (IsFor key) (sym (read_behind rule words place first.word [] first.behind first.at)) (value, first.gives),
      subst (IsFor key) (sym (read_behind rule words next second.word [] second.behind second.at)) (more, second.gives),
    )

pub same_place : (rule : CommandRule) (words : List (List ℕ)) (key : KeyRule) (place next : ℕ) (value more : List ℕ) → IsGivenRight (later rule words) key → GivesAt rule words place key value → GivesAt rule words next key more → place ≡ next
same_place rule words key place next value more right first second =
    ⊎_elim
    (λ (same : place ≡ next). same)
    (λ (apart : (place < next) ⊎ (next < place)).
    ⊎_elim
    (λ (less : place < next). absurd (not_before rule words key place next value more right first second less))
    (λ (less : next < place). absurd (not_before rule words key next place more value right second first less))
    apart)
    (cases_order place next)

pub same_value : (rule : CommandRule) (words : List (List ℕ)) (key : KeyRule) (place next : ℕ) (value more : List ℕ) → IsGivenRight (later rule words) key → GivesAt rule words place key value → GivesAt rule words next key more → value ≡ more
same_value rule words key place next value more right first second =
    let places = same_place rule words key place next value more right first second in
    let word : first.word ≡ second.word = same_Some first.word second.word (sym first.at ∙ ap (slice_get words) places ∙ second.at) in
    (same_gift second.word key.name value key.name more (subst (λ w. Gives w key.name value) word first.gives) second.gives).1

-- ---- numbers

same_number : (least most : ℕ) (value more : List ℕ) (n m : ℕ) → most < 2 ^ 64 → value ≡ more → IsNumber (number least most) value n → IsNumber (number least most) more m → n ≡ m
same_number least most value more n m fits e is other = decimal_injective n m (omega (arith, is.2)) (omega (arith, other.2)) (sym is.0 ∙ e ∙ other.0)

pub one_number : (rule : CommandRule) (words : List (List ℕ)) (key : KeyRule) (least most n m : ℕ) → IsGivenRight (later rule words) key → key.takes ≡ number least most → most < 2 ^ 64 → IsGiven rule words key n → IsGiven rule words key m
    → n ≡ m
one_number rule words key least most n m right takes fits (place, value, gives, is) (next, more, again, other) =
    let values = same_value rule words key place next value more right gives again in
    same_number least most value more n m fits values (subst (λ t. IsNumber t value n) takes is) (subst (λ t. IsNumber t more m) takes other)

-- a number that its key may have is not bad
not_bad : (takes : Takes) (value : List ℕ) (n : ℕ) → IsNumber takes value n → ¬ IsBad takes value
not_bad (number least most) value n is bad = bad n is
not_bad names value n is bad = bad
not_bad choice value n is bad = bad

pub good_number : (rule : CommandRule) (words : List (List ℕ)) (key : KeyRule) (n place : ℕ) (value : List ℕ) → IsGivenRight (later rule words) key → IsGiven rule words key n → GivesAt rule words place key value → ¬ IsBad key.takes value
good_number rule words key n place value right (next, more, gives, is) here bad =
    not_bad key.takes more n is (subst (IsBad key.takes) (same_value rule words key place next value more right here gives) bad)

-- ---- one first bad number

pub same_first : (rule : CommandRule) (words : List (List ℕ)) (place next : ℕ) → IsFirstBad rule words place → IsFirstBad rule words next → place ≡ next
same_first rule words place next first second =
    ⊎_elim
    (λ (same : place ≡ next). same)
    (λ (apart : (place < next) ⊎ (next < place)). ⊎_elim (λ (less : place < next). absurd (second.1 place less first.0)) (λ (less : next < place). absurd (first.1 next less second.0)) apart)
    (cases_order place next)

-- the first bad number of words with the shape of this command
pub bad_of : (rule : CommandRule) (words : List (List ℕ)) (place : ℕ) → Contains command_rules rule → IsShaped rule words → IsBadNumber words place → IsFirstBad rule words place
bad_of rule words place is shaped (k, other, h, e, (again, first)) = subst (λ r. IsFirstBad r words place) (one_command other rule words (k, h, e) is again shaped) first

pub bad_command : (words : List (List ℕ)) (place : ℕ) → IsBadNumber words place → IsCommand words
bad_command words place (k, rule, h, e, (shaped, first)) = (k, rule, h, e, shaped)

pub one_bad : (words : List (List ℕ)) (place next : ℕ) → IsBadNumber words place → IsBadNumber words next → place ≡ next
one_bad words place next (k, rule, h, e, (shaped, first)) other = same_first rule words place next first (bad_of rule words next (k, h, e) shaped other)

-- `restore`, `print`, `certify` and `check` have no numbers
pub restore_never_bad : (words : List (List ℕ)) (place : ℕ) → ¬ IsBadAt restore_rule words place
restore_never_bad words place (zero, key, h, e, (value, gives, bad)) = subst (λ k. IsBad k.takes value) (sym e) bad
restore_never_bad words place (suc k, key, h, e, more) = absurd (omega arith)

pub print_never_bad : (words : List (List ℕ)) (place : ℕ) → ¬ IsBadAt print_rule words place
print_never_bad words place bad = let few : bad.0 < 0 = bad.2 in omega arith

pub certify_never_bad : (words : List (List ℕ)) (place : ℕ) → ¬ IsBadAt certify_rule words place
certify_never_bad words place bad = let few : bad.0 < 0 = bad.2 in omega arith

pub check_never_bad : (words : List (List ℕ)) (place : ℕ) → ¬ IsBadAt check_rule words place
check_never_bad words place bad = let few : bad.0 < 0 = bad.2 in omega arith

-- ---- the key of `restore`

same_choice : (b d : Bool) → (IsTrue b → IsTrue d) → (IsTrue d → IsTrue b) → b ≡ d
same_choice true d there back = sym (there refl)
same_choice false true there back = back refl
same_choice false false there back = refl

pub one_restore : (words : List (List ℕ)) (a b c d : List ℕ) (all other : Bool) → Restores words a b all → Restores words c d other → (a ≡ c) × (b ≡ d) × (all ≡ other)
one_restore words a b c d all other is again = (
  same_Some a c (sym is.is_netlist ∙ again.is_netlist),
  same_Some b d (sym is.is_dump ∙ again.is_dump),
  same_choice all other (λ t. again.has_all.1 (is.has_all.0 t)) (λ t. is.has_all.1 (again.has_all.0 t)),
)

-- ---- the keys of `simulate`

pub given_cycles : (words : List (List ℕ)) → IsShaped simulate_rule words → IsGivenRight (later simulate_rule words) cycles_rule
given_cycles words shaped = shaped.given 0 cycles_rule (lit< tt)

pub given_seed : (words : List (List ℕ)) → IsShaped simulate_rule words → IsGivenRight (later simulate_rule words) seed_rule
given_seed words shaped = shaped.given 1 seed_rule (lit< tt)

pub given_trace : (words : List (List ℕ)) → IsShaped simulate_rule words → IsGivenRight (later simulate_rule words) trace_rule
given_trace words shaped = shaped.given 2 trace_rule (lit< tt)

pub simulate_or_bad : (words : List (List ℕ)) (netlist : List ℕ) (cycles seed trace place : ℕ) → Simulates words netlist cycles seed trace → ¬ IsBadAt simulate_rule words place
simulate_or_bad words netlist cycles seed trace place is (zero, key, h, e, (value, gives, bad)) =
    let bad_there = subst (λ k. GivesAt simulate_rule words place k value × IsBad k.takes value) (sym e) (gives, bad) in
    good_number simulate_rule words cycles_rule cycles place value (given_cycles words is.shaped) is.has_cycles bad_there.0 bad_there.1
simulate_or_bad words netlist cycles seed trace place is (suc zero, key, h, e, (value, gives, bad)) =
    let bad_there = subst (λ k. GivesAt simulate_rule words place k value × IsBad k.takes value) (sym e) (gives, bad) in
    good_number simulate_rule words seed_rule seed place value (given_seed words is.shaped) is.has_seed bad_there.0 bad_there.1
simulate_or_bad words netlist cycles seed trace place is (suc (suc zero), key, h, e, (value, gives, bad)) = subst (λ k. IsBad k.takes value) (sym e) bad
simulate_or_bad words netlist cycles seed trace place is (suc (suc (suc k)), key, h, e, more) = absurd (omega arith)

pub one_simulation : (words : List (List ℕ)) (netlist more : List ℕ) (cycles seed trace cycles' seed' trace' : ℕ) → Simulates words netlist cycles seed trace → Simulates words more cycles' seed' trace'
    → (cycles ≡ cycles') × (seed ≡ seed') × (trace ≡ trace')
one_simulation words netlist more cycles seed trace cycles' seed' trace' is other = (
  one_number simulate_rule words cycles_rule 1 max_cycles cycles cycles' (given_cycles words is.shaped) refl (lit< tt) is.has_cycles other.has_cycles,
  one_number simulate_rule words seed_rule 0 (2 ^ 64 - 1) seed seed' (given_seed words is.shaped) refl (lit< tt) is.has_seed other.has_seed,
  same_place simulate_rule words trace_rule trace trace' is.has_trace.0 other.has_trace.0 (given_trace words is.shaped) is.has_trace.1 other.has_trace.1,
)

-- ---- the keys of `select`

module _ (words : List (List ℕ)) (shaped : IsShaped select_rule words) where
  pub given_width : IsGivenRight (later select_rule words) width_rule
  given_width = shaped.given 0 width_rule (lit< tt)

  pub given_run : IsGivenRight (later select_rule words) cycles_rule × IsGivenRight (later select_rule words) seed_rule
  given_run = (shaped.given 1 cycles_rule (lit< tt), shaped.given 2 seed_rule (lit< tt))

pub select_or_bad : (words : List (List ℕ)) (netlist : List ℕ) (width cycles seed place : ℕ) → Selects words netlist width cycles seed → ¬ IsBadAt select_rule words place
select_or_bad words netlist width cycles seed place is (zero, key, h, e, (value, gives, bad)) =
    let bad_there = subst (λ k. GivesAt select_rule words place k value × IsBad k.takes value) (sym e) (gives, bad) in
    good_number select_rule words width_rule width place value (given_width words is.shaped) is.has_width bad_there.0 bad_there.1
select_or_bad words netlist width cycles seed place is (suc zero, key, h, e, (value, gives, bad)) =
    let bad_there = subst (λ k. GivesAt select_rule words place k value × IsBad k.takes value) (sym e) (gives, bad) in
    good_number select_rule words cycles_rule cycles place value (given_run words is.shaped).0 is.has_cycles bad_there.0 bad_there.1
select_or_bad words netlist width cycles seed place is (suc (suc zero), key, h, e, (value, gives, bad)) =
    let bad_there = subst (λ k. GivesAt select_rule words place k value × IsBad k.takes value) (sym e) (gives, bad) in
    good_number select_rule words seed_rule seed place value (given_run words is.shaped).1 is.has_seed bad_there.0 bad_there.1
select_or_bad words netlist width cycles seed place is (suc (suc (suc k)), key, h, e, more) = absurd (omega arith)

pub one_selection : (words : List (List ℕ)) (netlist more : List ℕ) (width cycles seed width' cycles' seed' : ℕ) → Selects words netlist width cycles seed → Selects words more width' cycles' seed'
    → (netlist ≡ more) × (width ≡ width') × (cycles ≡ cycles') × (seed ≡ seed')
one_selection words netlist more width cycles seed width' cycles' seed' is other = (
  same_Some netlist more (sym is.is_netlist ∙ other.is_netlist),
  one_number select_rule words width_rule 1 max_signals width width' (given_width words is.shaped) refl (lit< tt) is.has_width other.has_width,
  one_number select_rule words cycles_rule 1 max_cycles cycles cycles' (given_run words is.shaped).0 refl (lit< tt) is.has_cycles other.has_cycles,
  one_number select_rule words seed_rule 0 (2 ^ 64 - 1) seed seed' (given_run words is.shaped).1 refl (lit< tt) is.has_seed other.has_seed,
)

-- ---- the keys of `load`

given_number_key : (words : List (List ℕ)) → IsShaped load_rule words → IsGivenRight (later load_rule words) number_rule
given_number_key words shaped = shaped.given 0 number_rule (lit< tt)

given_signals : (words : List (List ℕ)) → IsShaped load_rule words → IsGivenRight (later load_rule words) signals_rule
given_signals words shaped = shaped.given 1 signals_rule (lit< tt)

pub load_never_bad : (words : List (List ℕ)) (number signals place : ℕ) → Loads words number signals → ¬ IsBadAt load_rule words place
load_never_bad words n signals place is (zero, key, h, e, (value, gives, bad)) =
    let bad_there = subst (λ k. GivesAt load_rule words place k value × IsBad k.takes value) (sym e) (gives, bad) in
    good_number load_rule words number_rule n place value (given_number_key words is.shaped) is.has_number bad_there.0 bad_there.1
load_never_bad words n signals place is (suc zero, key, h, e, (value, gives, bad)) =
    let bad_there = subst (λ k. GivesAt load_rule words place k value × IsBad k.takes value) (sym e) (gives, bad) in
    good_number load_rule words signals_rule signals place value (given_signals words is.shaped) is.has_signals bad_there.0 bad_there.1
load_never_bad words n signals place is (suc (suc k), key, h, e, more) = absurd (omega arith)

pub one_load : (words : List (List ℕ)) (number signals number' signals' : ℕ) → Loads words number signals → Loads words number' signals' → (number ≡ number') × (signals ≡ signals')
one_load words n signals n' signals' is other = (
  one_number load_rule words number_rule 0 (2 ^ 64 - 1) n n' (given_number_key words is.shaped) refl (lit< tt) is.has_number other.has_number,
  one_number load_rule words signals_rule 16 max_signals signals signals' (given_signals words is.shaped) refl (lit< tt) is.has_signals other.has_signals,
)

-- ---- the settings of words

abbrev settings_rule : Settings → CommandRule
settings_rule (settings.Restore all) = restore_rule
settings_rule (settings.Select width cycles seed) = select_rule
settings_rule (settings.Simulate cycles seed trace) = simulate_rule
settings_rule settings.Print = print_rule
settings_rule (settings.Load n signals) = load_rule
settings_rule settings.Certify = certify_rule
settings_rule settings.Check = check_rule

settings_is_one : (s : Settings) → Contains command_rules (settings_rule s)
settings_is_one (settings.Restore all) = restore_is_one
settings_is_one (settings.Select width cycles seed) = select_is_one
settings_is_one (settings.Simulate cycles seed trace) = simulate_is_one
settings_is_one settings.Print = print_is_one
settings_is_one (settings.Load n signals) = load_is_one
settings_is_one settings.Certify = certify_is_one
settings_is_one settings.Check = check_is_one

settings_shape : (words : List (List ℕ)) (s : Settings) → Means words (Ok s) → IsShaped (settings_rule s) words
settings_shape words (settings.Restore all) is = is.2.shaped
settings_shape words (settings.Select width cycles seed) is = is.1.shaped
settings_shape words (settings.Simulate cycles seed trace) is = is.1.shaped
settings_shape words settings.Print is = is.1.shaped
settings_shape words (settings.Load n signals) is = is.shaped
settings_shape words settings.Certify is = is.2.shaped
settings_shape words settings.Check is = is.3.shaped

settings_command : (words : List (List ℕ)) (s : Settings) → Means words (Ok s) → IsCommand words
settings_command words s is = shaped_command (settings_rule s) words (settings_is_one s) (settings_shape words s is)

-- and no number of them is bad
never_bad : (words : List (List ℕ)) (s : Settings) (place : ℕ) → Means words (Ok s) → ¬ IsBadAt (settings_rule s) words place
never_bad words (settings.Restore all) place is = restore_never_bad words place
never_bad words (settings.Select width cycles seed) place is = select_or_bad words is.0 width cycles seed place is.1
never_bad words (settings.Simulate cycles seed trace) place is = simulate_or_bad words is.0 cycles seed trace place is.1
never_bad words settings.Print place is = print_never_bad words place
never_bad words (settings.Load n signals) place is = load_never_bad words n signals place is
never_bad words settings.Certify place is = certify_never_bad words place
never_bad words settings.Check place is = check_never_bad words place

good_settings : (words : List (List ℕ)) (s : Settings) (place : ℕ) → Means words (Ok s) → ¬ IsBadNumber words place
good_settings words s place is bad = never_bad words s place is (bad_of (settings_rule s) words place (settings_is_one s) (settings_shape words s is) bad).0

same_restore : (all other : Bool) → all ≡ other → settings.Restore all ≡ settings.Restore other
same_restore all other e = ap settings.Restore e

same_select : (width cycles seed width' cycles' seed' : ℕ) → (width ≡ width') × (cycles ≡ cycles') × (seed ≡ seed') → settings.Select width cycles seed ≡ settings.Select width' cycles' seed'
same_select width cycles seed width' cycles' seed' e = let a = e.0 in let b = e.1 in let d = e.2 in cc

same_simulate : (cycles seed trace cycles' seed' trace' : ℕ) → (cycles ≡ cycles') × (seed ≡ seed') × (trace ≡ trace') → settings.Simulate cycles seed trace ≡ settings.Simulate cycles' seed' trace'
same_simulate cycles seed trace cycles' seed' trace' e = let a = e.0 in let b = e.1 in let d = e.2 in cc

same_load : (n signals n' signals' : ℕ) → (n ≡ n') × (signals ≡ signals') → settings.Load n signals ≡ settings.Load n' signals'
same_load n signals n' signals' e = let a = e.0 in let b = e.1 in cc

never_both : (words : List (List ℕ)) (s t : Settings) → bytes_eq (settings_rule s).name (settings_rule t).name ≡ false → Means words (Ok s) → ¬ Means words (Ok t)
never_both words s t apart is other = not_both (settings_rule s) (settings_rule t) words apart (settings_shape words s is) (settings_shape words t other)

one_settings : (words : List (List ℕ)) (s t : Settings) → Means words (Ok s) → Means words (Ok t) → s ≡ t
one_settings words (settings.Restore all) (settings.Restore more) is other = same_restore all more (one_restore words is.0 is.1 other.0 other.1 all more is.2 other.2).2
one_settings words (settings.Select width cycles seed) (settings.Select width' cycles' seed') is other =
    let same = one_selection words is.0 other.0 width cycles seed width' cycles' seed' is.1 other.1 in same_select width cycles seed width' cycles' seed' (same.1, same.2, same.3)
one_settings words (settings.Simulate cycles seed trace) (settings.Simulate cycles' seed' trace') is other =
    same_simulate cycles seed trace cycles' seed' trace' (one_simulation words is.0 other.0 cycles seed trace cycles' seed' trace' is.1 other.1)
one_settings words settings.Print settings.Print is other = refl
one_settings words (settings.Load n signals) (settings.Load n' signals') is other = same_load n signals n' signals' (one_load words n signals n' signals' is other)
one_settings words settings.Certify settings.Certify is other = refl
one_settings words settings.Check settings.Check is other = refl
one_settings words (settings.Restore all) (settings.Select width' cycles' seed') is other = absurd (never_both words (settings.Restore all) (settings.Select width' cycles' seed') refl is other)
one_settings words (settings.Restore all) (settings.Simulate cycles' seed' trace') is other = absurd (never_both words (settings.Restore all) (settings.Simulate cycles' seed' trace') refl is other)
one_settings words (settings.Restore all) settings.Print is other = absurd (never_both words (settings.Restore all) settings.Print refl is other)
one_settings words (settings.Restore all) (settings.Load n' signals') is other = absurd (never_both words (settings.Restore all) (settings.Load n' signals') refl is other)
one_settings words (settings.Select width cycles seed) (settings.Restore all') is other = absurd (never_both words (settings.Select width cycles seed) (settings.Restore all') refl is other)
one_settings words (settings.Select width cycles seed) (settings.Simulate cycles' seed' trace') is other = absurd (never_both words (settings.Select width cycles seed) (settings.Simulate cycles' seed' trace') refl is other)
one_settings words (settings.Select width cycles seed) settings.Print is other = absurd (never_both words (settings.Select width cycles seed) settings.Print refl is other)
one_settings words (settings.Select width cycles seed) (settings.Load n' signals') is other = absurd (never_both words (settings.Select width cycles seed) (settings.Load n' signals') refl is other)
one_settings words (settings.Simulate cycles seed trace) (settings.Restore all') is other = absurd (never_both words (settings.Simulate cycles seed trace) (settings.Restore all') refl is other)
one_settings words (settings.Simulate cycles seed trace) (settings.Select width' cycles' seed') is other = absurd (never_both words (settings.Simulate cycles seed trace) (settings.Select width' cycles' seed') refl is other)
one_settings words (settings.Simulate cycles seed trace) settings.Print is other = absurd (never_both words (settings.Simulate cycles seed trace) settings.Print refl is other)
one_settings words (settings.Simulate cycles seed trace) (settings.Load n' signals') is other = absurd (never_both words (settings.Simulate cycles seed trace) (settings.Load n' signals') refl is other)
one_settings words settings.Print (settings.Restore all') is other = absurd (never_both words settings.Print (settings.Restore all') refl is other)
one_settings words settings.Print (settings.Select width' cycles' seed') is other = absurd (never_both words settings.Print (settings.Select width' cycles' seed') refl is other)
one_settings words settings.Print (settings.Simulate cycles' seed' trace') is other = absurd (never_both words settings.Print (settings.Simulate cycles' seed' trace') refl is other)
one_settings words settings.Print (settings.Load n' signals') is other = absurd (never_both words settings.Print (settings.Load n' signals') refl is other)
one_settings words (settings.Load n signals) (settings.Restore all') is other = absurd (never_both words (settings.Load n signals) (settings.Restore all') refl is other)
one_settings words (settings.Load n signals) (settings.Select width' cycles' seed') is other = absurd (never_both words (settings.Load n signals) (settings.Select width' cycles' seed') refl is other)
one_settings words (settings.Load n signals) (settings.Simulate cycles' seed' trace') is other = absurd (never_both words (settings.Load n signals) (settings.Simulate cycles' seed' trace') refl is other)
one_settings words (settings.Load n signals) settings.Print is other = absurd (never_both words (settings.Load n signals) settings.Print refl is other)
one_settings words (settings.Restore all) settings.Certify is other = absurd (never_both words (settings.Restore all) settings.Certify refl is other)
one_settings words (settings.Restore all) settings.Check is other = absurd (never_both words (settings.Restore all) settings.Check refl is other)
one_settings words (settings.Select width cycles seed) settings.Certify is other = absurd (never_both words (settings.Select width cycles seed) settings.Certify refl is other)
one_settings words (settings.Select width cycles seed) settings.Check is other = absurd (never_both words (settings.Select width cycles seed) settings.Check refl is other)
one_settings words (settings.Simulate cycles seed trace) settings.Certify is other = absurd (never_both words (settings.Simulate cycles seed trace) settings.Certify refl is other)
one_settings words (settings.Simulate cycles seed trace) settings.Check is other = absurd (never_both words (settings.Simulate cycles seed trace) settings.Check refl is other)
one_settings words settings.Print settings.Certify is other = absurd (never_both words settings.Print settings.Certify refl is other)
one_settings words settings.Print settings.Check is other = absurd (never_both words settings.Print settings.Check refl is other)
one_settings words (settings.Load n signals) settings.Certify is other = absurd (never_both words (settings.Load n signals) settings.Certify refl is other)
one_settings words (settings.Load n signals) settings.Check is other = absurd (never_both words (settings.Load n signals) settings.Check refl is other)
one_settings words settings.Certify (settings.Restore all') is other = absurd (never_both words settings.Certify (settings.Restore all') refl is other)
one_settings words settings.Certify (settings.Select width' cycles' seed') is other = absurd (never_both words settings.Certify (settings.Select width' cycles' seed') refl is other)
one_settings words settings.Certify (settings.Simulate cycles' seed' trace') is other = absurd (never_both words settings.Certify (settings.Simulate cycles' seed' trace') refl is other)
one_settings words settings.Certify settings.Print is other = absurd (never_both words settings.Certify settings.Print refl is other)
one_settings words settings.Certify (settings.Load n' signals') is other = absurd (never_both words settings.Certify (settings.Load n' signals') refl is other)
one_settings words settings.Certify settings.Check is other = absurd (never_both words settings.Certify settings.Check refl is other)
one_settings words settings.Check (settings.Restore all') is other = absurd (never_both words settings.Check (settings.Restore all') refl is other)
one_settings words settings.Check (settings.Select width' cycles' seed') is other = absurd (never_both words settings.Check (settings.Select width' cycles' seed') refl is other)
one_settings words settings.Check (settings.Simulate cycles' seed' trace') is other = absurd (never_both words settings.Check (settings.Simulate cycles' seed' trace') refl is other)
one_settings words settings.Check settings.Print is other = absurd (never_both words settings.Check settings.Print refl is other)
one_settings words settings.Check (settings.Load n' signals') is other = absurd (never_both words settings.Check (settings.Load n' signals') refl is other)
one_settings words settings.Check settings.Certify is other = absurd (never_both words settings.Check settings.Certify refl is other)

-- words have one meaning at most
pub one_meaning : (words : List (List ℕ)) (r s : Result Settings WordRefusal) → Means words r → Means words s → r ≡ s
one_meaning words (Ok s) (Ok t) is other = ap Ok (one_settings words s t is other)
one_meaning words (Ok s) (Err refusals.Usage) is other = absurd (other (settings_command words s is))
one_meaning words (Ok s) (Err (refusals.Number place)) is other = absurd (good_settings words s place is other)
one_meaning words (Err refusals.Usage) (Ok s) is other = absurd (is (settings_command words s other))
one_meaning words (Err refusals.Usage) (Err refusals.Usage) is other = refl
one_meaning words (Err refusals.Usage) (Err (refusals.Number place)) is other = absurd (is (bad_command words place other))
one_meaning words (Err (refusals.Number place)) (Ok s) is other = absurd (good_settings words s place other is)
one_meaning words (Err (refusals.Number place)) (Err refusals.Usage) is other = absurd (other (bad_command words place is))
one_meaning words (Err (refusals.Number place)) (Err (refusals.Number next)) is other =
    ap (λ p. Err (refusals.Number p)) (one_bad words place next is other)

-- ---- each answer has its cause

abbrev pub ComesWith : Result Settings WordRefusal → Result Settings WordRefusal → Type 0 → Type 0
ComesWith r s P = (r ≡ s → P) × (P → r ≡ s)

-- what the contract says of an answer
abbrev pub IsExact : List (List ℕ) → Result Settings WordRefusal → Type 0
IsExact words r = record {
  restore : (all : Bool) → ComesWith r (Ok (settings.Restore all)) ((netlist dump : List ℕ) × Restores words netlist dump all);
  select : (width cycles seed : ℕ) → ComesWith r (Ok (settings.Select width cycles seed)) ((netlist : List ℕ) × Selects words netlist width cycles seed);
  simulate : (cycles seed trace : ℕ) → ComesWith r (Ok (settings.Simulate cycles seed trace)) ((netlist : List ℕ) × Simulates words netlist cycles seed trace);
  print : ComesWith r (Ok settings.Print) (IsPrint words);
  load : (number signals : ℕ) → ComesWith r (Ok (settings.Load number signals)) (Loads words number signals);
  certify : ComesWith r (Ok settings.Certify) (IsCertify words);
  check : ComesWith r (Ok settings.Check) (IsCheck words);
  usage : ComesWith r (Err refusals.Usage) (¬ IsCommand words);
  number : (place : ℕ) → ComesWith r (Err (refusals.Number place)) (IsBadNumber words place);
}

exactly : (words : List (List ℕ)) (r s : Result Settings WordRefusal) → Means words r → ComesWith r s (Means words s)
exactly words r s is = (λ e. subst (Means words) e is, λ other. one_meaning words r s is other)

pub exact_answer : (words : List (List ℕ)) (r : Result Settings WordRefusal) → Means words r → IsExact words r
exact_answer words r is = record {
  restore = λ all. exactly words r (Ok (settings.Restore all)) is;
  select = λ width cycles seed. exactly words r (Ok (settings.Select width cycles seed)) is;
  simulate = λ cycles seed trace. exactly words r (Ok (settings.Simulate cycles seed trace)) is;
  print = exactly words r (Ok settings.Print) is;
  load = λ n signals. exactly words r (Ok (settings.Load n signals)) is;
  certify = exactly words r (Ok settings.Certify) is;
  check = exactly words r (Ok settings.Check) is;
  usage = exactly words r (Err refusals.Usage) is;
  number = λ place. exactly words r (Err (refusals.Number place)) is;
}
