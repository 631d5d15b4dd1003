-- What words ask for.
use Rattle.std.proofs.Common.{◌≡◌, ℕ, List, false, refl, sym, ap, ◌∙◌, ⊎_elim}
use Rattle.std.specs.Prelude.{Contains}
use Rattle.std.specs.Str.{bytes_eq}
use Rattle.std.proofs.lemmas.Option.{same_Some}
use Rattle.restore_program.specs.Faults.{AreRefused}
use Rattle.restore_program.specs.Requests.{Request, Asks, Traces, certification, checking, restoration, selection, simulation, printing, loading, rule_of}
use Rattle.restore_program.specs.Words.{IsBadAt, IsBadNumber, IsCommand, IsShaped, command_rules, simulate_rule, trace_rule}
use Rattle.restore_program.proofs.CommandShapes.{certify_is_one, check_is_one, load_is_one, not_both, print_is_one, restore_is_one, select_is_one, shaped_command, simulate_is_one}
use Rattle.restore_program.proofs.OneMeaning.{bad_of, certify_never_bad, check_never_bad, given_trace, load_never_bad, one_load, one_restore, one_selection, one_simulation, print_never_bad, restore_never_bad, same_value, select_or_bad, simulate_or_bad}

-- ---- by the table

is_one : (request : Request) → Contains command_rules (rule_of request)
is_one (restoration n d all) = restore_is_one
is_one (selection n width cycles seed) = select_is_one
is_one (simulation n cycles seed list) = simulate_is_one
is_one (printing n) = print_is_one
is_one (loading number signals) = load_is_one
is_one (certification n d) = certify_is_one
is_one (checking n d certificate) = check_is_one

-- the words have the shape of its command
asked_shape : (words : List (List ℕ)) (request : Request) → Asks words request → IsShaped (rule_of request) words
asked_shape words (restoration n d all) asks = asks.shaped
asked_shape words (selection n width cycles seed) asks = asks.shaped
asked_shape words (simulation n cycles seed list) (place, run, gives) = run.shaped
asked_shape words (printing n) asks = asks.shaped
asked_shape words (loading number signals) asks = asks.shaped
asked_shape words (certification n d) asks = asks.shaped
asked_shape words (checking n d certificate) asks = asks.shaped

pub asked_command : (words : List (List ℕ)) (request : Request) → Asks words request → IsCommand words
asked_command words request asks = shaped_command (rule_of request) words (is_one request) (asked_shape words request asks)

-- and no number of them is bad
never_bad : (words : List (List ℕ)) (request : Request) (place : ℕ) → Asks words request → ¬ IsBadAt (rule_of request) words place
never_bad words (restoration n d all) place asks = restore_never_bad words place
never_bad words (selection n width cycles seed) place asks = select_or_bad words n width cycles seed place asks
never_bad words (simulation n cycles seed list) place (own, run, gives) = simulate_or_bad words n cycles seed own place run
never_bad words (printing n) place asks = print_never_bad words place
never_bad words (loading number signals) place asks = load_never_bad words number signals place asks
never_bad words (certification n d) place asks = certify_never_bad words place
never_bad words (checking n d certificate) place asks = check_never_bad words place

pub asked_good : (words : List (List ℕ)) (request : Request) (place : ℕ) → Asks words request → ¬ IsBadNumber words place
asked_good words request place asks bad = never_bad words request place asks (bad_of (rule_of request) words place (is_one request) (asked_shape words request asks) bad).0

-- so they are not refused
pub asked_refused : (words : List (List ℕ)) (request : Request) → Asks words request → ¬ AreRefused words
asked_refused words request asks refused = ⊎_elim (λ none. none (asked_command words request asks)) (λ bad. asked_good words request bad.0 asks bad.1) refused

-- ---- one thing at most

-- the netlist, the numbers and the list of a `simulate`
same_run : (words : List (List ℕ)) (a b : List ℕ) (cycles seed cycles' seed' : ℕ) (list list' : List ℕ) → Traces words a cycles seed list → Traces words b cycles' seed' list'
    → (a ≡ b) × (cycles ≡ cycles') × (seed ≡ seed') × (list ≡ list')
same_run words a b cycles seed cycles' seed' list list' (place, run, gives) (next, again, gives_again) =
    let numbers : (cycles ≡ cycles') × (seed ≡ seed') × (place ≡ next) = one_simulation words a b cycles seed place cycles' seed' next run again in (
      same_Some a b (sym run.is_netlist ∙ again.is_netlist),
      numbers.0,
      numbers.1,
      same_value simulate_rule words trace_rule place next list list' (given_trace words run.shaped) gives gives_again,
    )

never_both : (words : List (List ℕ)) (a b : Request) → bytes_eq (rule_of a).name (rule_of b).name ≡ false → Asks words a → ¬ Asks words b
never_both words a b apart asks other = not_both (rule_of a) (rule_of b) words apart (asked_shape words a asks) (asked_shape words b other)

pub one_request : (words : List (List ℕ)) (a b : Request) → Asks words a → Asks words b → a ≡ b
one_request words (restoration n d all) (restoration n' d' all') a b =
    let same = one_restore words n d n' d' all all' a b in
    ap (λ x. restoration x d all) same.0 ∙ ap (λ x. restoration n' x all) same.1 ∙ ap (λ x. restoration n' d' x) same.2
one_request words (selection n width cycles seed) (selection n' width' cycles' seed') a b =
    let same = one_selection words n n' width cycles seed width' cycles' seed' a b in
    ap (λ x. selection x width cycles seed) same.0 ∙ ap (λ x. selection n' x cycles seed) same.1 ∙ ap (λ x. selection n' width' x seed) same.2 ∙ ap (λ x. selection n' width' cycles' x) same.3
one_request words (simulation n cycles seed list) (simulation n' cycles' seed' list') a b =
    let same = same_run words n n' cycles seed cycles' seed' list list' a b in
    ap (λ x. simulation x cycles seed list) same.0 ∙ ap (λ x. simulation n' x seed list) same.1 ∙ ap (λ x. simulation n' cycles' x list) same.2 ∙ ap (λ x. simulation n' cycles' seed' x) same.3
one_request words (printing n) (printing n') a b = ap printing (same_Some n n' (sym a.is_netlist ∙ b.is_netlist))
one_request words (loading number signals) (loading number' signals') a b =
    let same = one_load words number signals number' signals' a b in ap (λ x. loading x signals) same.0 ∙ ap (λ x. loading number' x) same.1
one_request words (certification n d) (certification n' d') a b =
    ap (λ x. certification x d) (same_Some n n' (sym a.is_netlist ∙ b.is_netlist)) ∙ ap (λ x. certification n' x) (same_Some d d' (sym a.is_dump ∙ b.is_dump))
one_request words (checking n d certificate) (checking n' d' certificate') a b =
    ap (λ x. checking x d certificate) (same_Some n n' (sym a.is_netlist ∙ b.is_netlist)) ∙ ap (λ x. checking n' x certificate) (same_Some d d' (sym a.is_dump ∙ b.is_dump))
    ∙ ap (λ x. checking n' d' x) (same_Some certificate certificate' (sym a.is_certificate ∙ b.is_certificate))
one_request words (restoration n d all) (selection n' width' cycles' seed') a b = absurd (never_both words (restoration n d all) (selection n' width' cycles' seed') refl a b)
one_request words (restoration n d all) (simulation n' cycles' seed' list') a b = absurd (never_both words (restoration n d all) (simulation n' cycles' seed' list') refl a b)
one_request words (restoration n d all) (printing n') a b = absurd (never_both words (restoration n d all) (printing n') refl a b)
one_request words (restoration n d all) (loading number' signals') a b = absurd (never_both words (restoration n d all) (loading number' signals') refl a b)
one_request words (selection n width cycles seed) (restoration n' d' all') a b = absurd (never_both words (selection n width cycles seed) (restoration n' d' all') refl a b)
one_request words (selection n width cycles seed) (simulation n' cycles' seed' list') a b = absurd (never_both words (selection n width cycles seed) (simulation n' cycles' seed' list') refl a b)
one_request words (selection n width cycles seed) (printing n') a b = absurd (never_both words (selection n width cycles seed) (printing n') refl a b)
one_request words (selection n width cycles seed) (loading number' signals') a b = absurd (never_both words (selection n width cycles seed) (loading number' signals') refl a b)
one_request words (simulation n cycles seed list) (restoration n' d' all') a b = absurd (never_both words (simulation n cycles seed list) (restoration n' d' all') refl a b)
one_request words (simulation n cycles seed list) (selection n' width' cycles' seed') a b = absurd (never_both words (simulation n cycles seed list) (selection n' width' cycles' seed') refl a b)
one_request words (simulation n cycles seed list) (printing n') a b = absurd (never_both words (simulation n cycles seed list) (printing n') refl a b)
one_request words (simulation n cycles seed list) (loading number' signals') a b = absurd (never_both words (simulation n cycles seed list) (loading number' signals') refl a b)
one_request words (printing n) (restoration n' d' all') a b = absurd (never_both words (printing n) (restoration n' d' all') refl a b)
one_request words (printing n) (selection n' width' cycles' seed') a b = absurd (never_both words (printing n) (selection n' width' cycles' seed') refl a b)
one_request words (printing n) (simulation n' cycles' seed' list') a b = absurd (never_both words (printing n) (simulation n' cycles' seed' list') refl a b)
one_request words (printing n) (loading number' signals') a b = absurd (never_both words (printing n) (loading number' signals') refl a b)
one_request words (loading number signals) (restoration n' d' all') a b = absurd (never_both words (loading number signals) (restoration n' d' all') refl a b)
one_request words (loading number signals) (selection n' width' cycles' seed') a b = absurd (never_both words (loading number signals) (selection n' width' cycles' seed') refl a b)
one_request words (loading number signals) (simulation n' cycles' seed' list') a b = absurd (never_both words (loading number signals) (simulation n' cycles' seed' list') refl a b)
one_request words (loading number signals) (printing n') a b = absurd (never_both words (loading number signals) (printing n') refl a b)
one_request words (restoration n d all) (certification n' d') a b = absurd (never_both words (restoration n d all) (certification n' d') refl a b)
one_request words (restoration n d all) (checking n' d' certificate') a b = absurd (never_both words (restoration n d all) (checking n' d' certificate') refl a b)
one_request words (selection n width cycles seed) (certification n' d') a b = absurd (never_both words (selection n width cycles seed) (certification n' d') refl a b)
one_request words (selection n width cycles seed) (checking n' d' certificate') a b = absurd (never_both words (selection n width cycles seed) (checking n' d' certificate') refl a b)
one_request words (simulation n cycles seed list) (certification n' d') a b = absurd (never_both words (simulation n cycles seed list) (certification n' d') refl a b)
one_request words (simulation n cycles seed list) (checking n' d' certificate') a b = absurd (never_both words (simulation n cycles seed list) (checking n' d' certificate') refl a b)
one_request words (printing n) (certification n' d') a b = absurd (never_both words (printing n) (certification n' d') refl a b)
one_request words (printing n) (checking n' d' certificate') a b = absurd (never_both words (printing n) (checking n' d' certificate') refl a b)
one_request words (loading number signals) (certification n' d') a b = absurd (never_both words (loading number signals) (certification n' d') refl a b)
one_request words (loading number signals) (checking n' d' certificate') a b = absurd (never_both words (loading number signals) (checking n' d' certificate') refl a b)
one_request words (certification n d) (restoration n' d' all') a b = absurd (never_both words (certification n d) (restoration n' d' all') refl a b)
one_request words (certification n d) (selection n' width' cycles' seed') a b = absurd (never_both words (certification n d) (selection n' width' cycles' seed') refl a b)
one_request words (certification n d) (simulation n' cycles' seed' list') a b = absurd (never_both words (certification n d) (simulation n' cycles' seed' list') refl a b)
one_request words (certification n d) (printing n') a b = absurd (never_both words (certification n d) (printing n') refl a b)
one_request words (certification n d) (loading number' signals') a b = absurd (never_both words (certification n d) (loading number' signals') refl a b)
one_request words (certification n d) (checking n' d' certificate') a b = absurd (never_both words (certification n d) (checking n' d' certificate') refl a b)
one_request words (checking n d certificate) (restoration n' d' all') a b = absurd (never_both words (checking n d certificate) (restoration n' d' all') refl a b)
one_request words (checking n d certificate) (selection n' width' cycles' seed') a b = absurd (never_both words (checking n d certificate) (selection n' width' cycles' seed') refl a b)
one_request words (checking n d certificate) (simulation n' cycles' seed' list') a b = absurd (never_both words (checking n d certificate) (simulation n' cycles' seed' list') refl a b)
one_request words (checking n d certificate) (printing n') a b = absurd (never_both words (checking n d certificate) (printing n') refl a b)
one_request words (checking n d certificate) (loading number' signals') a b = absurd (never_both words (checking n d certificate) (loading number' signals') refl a b)
one_request words (checking n d certificate) (certification n' d') a b = absurd (never_both words (checking n d certificate) (certification n' d') refl a b)
