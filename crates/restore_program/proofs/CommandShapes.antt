-- Whether words have the shape of a command.
use Rattle.std.proofs.Common.{◌≡◌, ◌<◌, ◌+◌, ℕ, Bool, false, List, Option, zero, suc, length, drop, get_or, map, Some, refl, sym, ap, subst, ◌∙◌, lit<, arith}
use Rattle.std.specs.Prelude.{All, Any, Contains, IsTrue, find, option_map}
use Rattle.std.specs.List.{slice_get}
use Rattle.std.specs.Str.{bytes_eq}
use Rattle.std.proofs.lemmas.Bool.{false≢true}
use Rattle.std.proofs.lemmas.Option.{same_Some, slice_get-map, slice_get_read}
use Rattle.std.proofs.lemmas.Slice.Eq.{bytes_eq-Decides}
use Rattle.restore_program.specs.Words.{CommandRule, command_rules, certify_rule, check_rule, IsCommand, IsGivenRight, IsShaped, Suits, later, load_rule, print_rule, restore_rule, select_rule, simulate_rule}

abbrev SuitsAll : CommandRule → List (List ℕ) → Type 0
SuitsAll rule words = All (λ word. Any (Suits word) rule.keys) words × All (IsGivenRight words) rule.keys

pub shaped_by : (rule : CommandRule) (words rest : List (List ℕ)) (b : Bool) → (slice_get words 0 ≡ Some rule.name) × (rule.files < length words) → rest ≡ drop (rule.files + 1) words
    → (IsTrue b → SuitsAll rule rest) × (SuitsAll rule rest → IsTrue b) → (IsTrue b → IsShaped rule words) × (IsShaped rule words → IsTrue b)
shaped_by rule words rest b front is test =
    let start : rule.files + 1 ≡ 1 + rule.files = omega arith in
    let same : rest ≡ later rule words = is ∙ ap (λ n. drop n words) start in (
      λ t. let suited = subst (SuitsAll rule) same (test.0 t) in record { named = front.0; files = front.1; known = suited.0; given = suited.1 },
      λ shaped. test.1 (subst (SuitsAll rule) (sym same) (shaped.known, shaped.given)),
    )

-- the first word is the name
pub named_by : {A : Type 0} (text : A → List ℕ) (xs : List A) (w : A) (seen name : List ℕ) (files : ℕ) (b : Bool) → files < length xs → w ≡ get_or xs 0 w → seen ≡ text w → b ≡ bytes_eq seen name
    → (IsTrue b → (slice_get (map text xs) 0 ≡ Some name) × (files < length xs)) × ((slice_get (map text xs) 0 ≡ Some name) × (files < length xs) → IsTrue b)
named_by text xs w seen name files b few at is test =
    let some : 0 < length xs = omega arith in
    let first : slice_get (map text xs) 0 ≡ Some seen = slice_get-map text xs 0 ∙ ap (option_map text) (slice_get_read xs (length xs) 0 w refl some at) ∙ ap Some (sym is) in (
      λ t. (first ∙ ap Some ((bytes_eq-Decides seen name).0 (sym test ∙ t)), few),
      λ named. test ∙ (bytes_eq-Decides seen name).1 (same_Some seen name (sym first ∙ named.0)),
    )

-- ---- the words have one name

pub one_name : (rule other : CommandRule) (words : List (List ℕ)) → IsShaped rule words → IsShaped other words → rule.name ≡ other.name
one_name rule other words shaped again = same_Some rule.name other.name (sym shaped.named ∙ again.named)

-- so they have the shape of one of two commands with different names
pub not_both : (rule other : CommandRule) (words : List (List ℕ)) → bytes_eq rule.name other.name ≡ false → IsShaped rule words → ¬ IsShaped other words
not_both rule other words apart shaped again = false≢true (sym apart ∙ (bytes_eq-Decides rule.name other.name).1 (one_name rule other words shaped again))

-- ---- a rule of the table

-- the shape of a command is that of one of the seven
pub no_shape : (words : List (List ℕ)) → ¬ IsShaped restore_rule words → ¬ IsShaped select_rule words → ¬ IsShaped simulate_rule words → ¬ IsShaped print_rule words → ¬ IsShaped load_rule words → ¬ IsShaped certify_rule words → ¬ IsShaped check_rule words → ¬ IsCommand words
no_shape words no_restore no_select no_simulate no_print no_load no_certify no_check (zero, rule, h, e, shaped) = no_restore (subst (λ r. IsShaped r words) (sym e) shaped)
no_shape words no_restore no_select no_simulate no_print no_load no_certify no_check (suc zero, rule, h, e, shaped) = no_select (subst (λ r. IsShaped r words) (sym e) shaped)
no_shape words no_restore no_select no_simulate no_print no_load no_certify no_check (suc (suc zero), rule, h, e, shaped) = no_simulate (subst (λ r. IsShaped r words) (sym e) shaped)
no_shape words no_restore no_select no_simulate no_print no_load no_certify no_check (suc (suc (suc zero)), rule, h, e, shaped) = no_print (subst (λ r. IsShaped r words) (sym e) shaped)
no_shape words no_restore no_select no_simulate no_print no_load no_certify no_check (suc (suc (suc (suc zero))), rule, h, e, shaped) = no_load (subst (λ r. IsShaped r words) (sym e) shaped)
no_shape words no_restore no_select no_simulate no_print no_load no_certify no_check (suc (suc (suc (suc (suc zero)))), rule, h, e, shaped) = no_certify (subst (λ r. IsShaped r words) (sym e) shaped)
no_shape words no_restore no_select no_simulate no_print no_load no_certify no_check (suc (suc (suc (suc (suc (suc zero))))), rule, h, e, shaped) = no_check (subst (λ r. IsShaped r words) (sym e) shaped)
no_shape words no_restore no_select no_simulate no_print no_load no_certify no_check (suc (suc (suc (suc (suc (suc (suc k)))))), rule, h, e, shaped) = absurd (omega arith)

pub restore_is_one : Contains command_rules restore_rule
restore_is_one = (0, lit< tt, refl)

pub select_is_one : Contains command_rules select_rule
select_is_one = (1, lit< tt, refl)

pub simulate_is_one : Contains command_rules simulate_rule
simulate_is_one = (2, lit< tt, refl)

pub print_is_one : Contains command_rules print_rule
print_is_one = (3, lit< tt, refl)

pub load_is_one : Contains command_rules load_rule
load_is_one = (4, lit< tt, refl)

pub certify_is_one : Contains command_rules certify_rule
certify_is_one = (5, lit< tt, refl)

pub check_is_one : Contains command_rules check_rule
check_is_one = (6, lit< tt, refl)

pub shaped_command : (rule : CommandRule) (words : List (List ℕ)) → Contains command_rules rule → IsShaped rule words → IsCommand words
shaped_command rule words (k, h, e) shaped = (k, rule, h, e, shaped)

-- words with its shape are few
pub small_rule : (rule : CommandRule) → Contains command_rules rule → 1 + rule.files + length rule.keys < 16
small_rule rule (zero, h, e) = subst (λ r. 1 + r.files + length r.keys < 16) e (lit< tt)
small_rule rule (suc zero, h, e) = subst (λ r. 1 + r.files + length r.keys < 16) e (lit< tt)
small_rule rule (suc (suc zero), h, e) = subst (λ r. 1 + r.files + length r.keys < 16) e (lit< tt)
small_rule rule (suc (suc (suc zero)), h, e) = subst (λ r. 1 + r.files + length r.keys < 16) e (lit< tt)
small_rule rule (suc (suc (suc (suc zero))), h, e) = subst (λ r. 1 + r.files + length r.keys < 16) e (lit< tt)
small_rule rule (suc (suc (suc (suc (suc zero)))), h, e) = subst (λ r. 1 + r.files + length r.keys < 16) e (lit< tt)
small_rule rule (suc (suc (suc (suc (suc (suc zero))))), h, e) = subst (λ r. 1 + r.files + length r.keys < 16) e (lit< tt)
small_rule rule (suc (suc (suc (suc (suc (suc (suc k)))))), h, e) = absurd (omega arith)

-- the first rule of the table with this name
by_name : List ℕ → Option CommandRule
by_name name = find (λ (rule : CommandRule). bytes_eq rule.name name) command_rules

-- is the one, since the names differ
is_by_name : (rule : CommandRule) → Contains command_rules rule → by_name rule.name ≡ Some rule
unfolding by_name
is_by_name rule (zero, h, e) = subst (λ r. by_name r.name ≡ Some r) e refl
is_by_name rule (suc zero, h, e) = subst (λ r. by_name r.name ≡ Some r) e refl
is_by_name rule (suc (suc zero), h, e) = subst (λ r. by_name r.name ≡ Some r) e refl
is_by_name rule (suc (suc (suc zero)), h, e) = subst (λ r. by_name r.name ≡ Some r) e refl
is_by_name rule (suc (suc (suc (suc zero))), h, e) = subst (λ r. by_name r.name ≡ Some r) e refl
is_by_name rule (suc (suc (suc (suc (suc zero)))), h, e) = subst (λ r. by_name r.name ≡ Some r) e refl
is_by_name rule (suc (suc (suc (suc (suc (suc zero))))), h, e) = subst (λ r. by_name r.name ≡ Some r) e refl
is_by_name rule (suc (suc (suc (suc (suc (suc (suc k)))))), h, e) = absurd (omega arith)

-- so words have the shape of one command at most
pub one_command : (rule other : CommandRule) (words : List (List ℕ)) → Contains command_rules rule → Contains command_rules other → IsShaped rule words → IsShaped other words → rule ≡ other
one_command rule other words is is_other shaped again = same_Some rule other (sym (is_by_name rule is) ∙ ap by_name (one_name rule other words shaped again) ∙ is_by_name other is_other)
