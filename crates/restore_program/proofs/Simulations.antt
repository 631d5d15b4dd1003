-- What is found behind the files, by its place among all words.
use Rattle.std.proofs.Common.{◌≡◌, ◌<◌, ◌+◌, ℕ, Bool, List, [], ◌-◌, length, drop, get_or, Option, Some, None, refl, sym, ap, subst, ◌∙◌, inl, inr, lit<, arith, rules}
use Rattle.std.specs.Prelude.{All, Any, Contains, IsSome, IsTrue, codes, ◌↔◌}
use Rattle.std.specs.List.{slice_get}
use Rattle.std.proofs.lemmas.List.{length-drop}
use Rattle.std.proofs.lemmas.Option.{slice_get_within, slice_get-get_or}
use Rattle.restore_program.specs.Words.{CommandRule, Gives, GivesAt, IsBad, IsBadNumber, IsChosen, IsFirstBad, IsFor, IsGiven, IsNumber, IsShaped, KeyRule, Restores, Simulates, all_rule, command_rules, cycles_rule, later, number, restore_rule, seed_rule, simulate_rule, trace_rule}
use Rattle.restore_program.specs.WordRules.{FindsNumber, FirstPlace, GivesNumber, IsBadFor}
use Rattle.restore_program.proofs.OneMeaning.{read_behind}
use Rattle.restore_program.proofs.WordPlaces.{not_any, slice_get-drop}

-- a word behind the files
place_behind : (rule : CommandRule) (words : List (List ℕ)) (place : ℕ) (word : List ℕ) → slice_get (later rule words) place ≡ Some word → slice_get words (1 + rule.files + place) ≡ Some word
place_behind rule words place word at = sym (slice_get-drop (1 + rule.files) words place) ∙ at

gift_behind : (rule : CommandRule) (words : List (List ℕ)) (place : ℕ) (word value : List ℕ) (key : KeyRule) → slice_get (later rule words) place ≡ Some word → Gives word key.name value
    → GivesAt rule words (1 + rule.files + place) key value
gift_behind rule words place word value key at gives = record { behind = omega arith; word = word; at = place_behind rule words place word at; gives = gives }

-- the first bad number
first_bad : (rule : CommandRule) (words : List (List ℕ)) (place : ℕ) → FirstPlace (λ word. Any (IsBadFor word) rule.keys) (later rule words) (Some place) → IsFirstBad rule words (1 + rule.files + place)
first_bad rule words place (word, at, (k, key, h, e, (value, gives, bad)), before) = (
  (k, key, h, e, (value, gift_behind rule words place word value key at gives, bad)),
  λ earlier less (k', key', h', e', (value', gift, bad')).
      let behind : rule.files < earlier = gift.behind in
      let inside : ℕ = earlier - (1 + rule.files) in
      let is : 1 + rule.files + inside ≡ earlier = omega arith in
      let there : slice_get (later rule words) inside ≡ Some gift.word = slice_get-drop (1 + rule.files) words inside ∙ ap (slice_get words) is ∙ gift.at in
      before inside gift.word (omega arith) there (k', key', h', e', (value', gift.gives, bad')),
)

pub bad_is_first : (rule : CommandRule) (words rest : List (List ℕ)) (place : ℕ) → Contains command_rules rule → IsShaped rule words → rest ≡ later rule words → FirstPlace (λ word. Any (IsBadFor word) rule.keys) rest (Some place)
    → IsBadNumber words (1 + rule.files + place)
bad_is_first rule words rest place (k, h, e) shaped is first = (k, rule, h, e, (shaped, first_bad rule words place (subst (λ r. FirstPlace (λ word. Any (IsBadFor word) rule.keys) r (Some place)) is first)))

-- a number is found where the key is given and no number is bad
pub number_found : (keys : List KeyRule) (k : ℕ) (key : KeyRule) (least most : ℕ) (rest : List (List ℕ)) (r : Option ℕ) → k < length keys → get_or keys k key ≡ key → key.takes ≡ number least most → Any (IsFor key) rest
    → All (λ word. ¬ Any (IsBadFor word) keys) rest → FindsNumber key rest r → IsSome r
number_found keys k key least most rest (Some n) h e takes given good finds = search rules
number_found keys k key least most rest None h e takes given good (inl none) = absurd (not_any (IsFor key) rest none given)
number_found keys k key least most rest None h e takes given good (inr (i, word, within, at, (value, gives, none))) =
    let bad : IsBad key.takes value = subst (λ t. ((n : ℕ) → ¬ IsNumber t value n) → IsBad t value) (sym takes) (λ h. h) none in
    absurd (good i word within (k, key, h, e, (value, subst (λ w. Gives w key.name value) (sym at) gives, bad)))

pub place_found : (key : KeyRule) (rest : List (List ℕ)) (r : Option ℕ) → Any (IsFor key) rest → FirstPlace (IsFor key) rest r → IsSome r
place_found key rest (Some n) given finds = search rules
place_found key rest None given none = absurd (not_any (IsFor key) rest none given)

pub given_number : (rule : CommandRule) (words rest : List (List ℕ)) (key : KeyRule) (r : Option ℕ) (n : ℕ) → rest ≡ later rule words → FindsNumber key rest r → r ≡ Some n → IsGiven rule words key n
given_number rule words rest key r n is finds found =
    let there = subst (λ ws. Any (GivesNumber key n) ws) is (subst (FindsNumber key rest) found finds) in
    number_there there
  where
    number_there : Any (GivesNumber key n) (later rule words) → IsGiven rule words key n
    number_there (k, word, h, e, (value, gives, number_is)) =
        (1 + rule.files + k, value, gift_behind rule words k word value key (slice_get-get_or (later rule words) k word h ∙ ap Some e) gives, number_is)

pub given_text : (rule : CommandRule) (words rest : List (List ℕ)) (key : KeyRule) (r : Option ℕ) (place : ℕ) → rest ≡ later rule words → FirstPlace (IsFor key) rest r → r ≡ Some place
    → (value : List ℕ) × GivesAt rule words (1 + rule.files + place) key value
given_text rule words rest key r place is first found =
    let there : FirstPlace (IsFor key) (later rule words) (Some place) = subst (λ ws. FirstPlace (IsFor key) ws (Some place)) is (subst (FirstPlace (IsFor key) rest) found first) in
    (there.2.0, gift_behind rule words place there.0 there.2.0 key there.1 there.2.1)

-- the place is among the words
pub place_within : (P : List ℕ → Type 0) (words rest : List (List ℕ)) (n place : ℕ) (r : Option ℕ) → rest ≡ drop n words → FirstPlace P rest r → r ≡ Some place → n + place < length words
place_within P words rest n place r is first found =
    let there : FirstPlace P (drop n words) (Some place) = subst (λ ws. FirstPlace P ws (Some place)) is (subst (FirstPlace P rest) found first) in
    let inside : place < length (drop n words) = slice_get_within (drop n words) place there.0 there.1 in
    omega (arith, inside, length-drop n words)

-- the keys of `simulate` are given
pub cycles_given : (words rest : List (List ℕ)) → IsShaped simulate_rule words → rest ≡ later simulate_rule words → Any (IsFor cycles_rule) rest
cycles_given words rest shaped is = subst (λ ws. Any (IsFor cycles_rule) ws) (sym is) ((shaped.given 0 cycles_rule (lit< tt)).given refl)

pub seed_given : (words rest : List (List ℕ)) → IsShaped simulate_rule words → rest ≡ later simulate_rule words → Any (IsFor seed_rule) rest
seed_given words rest shaped is = subst (λ ws. Any (IsFor seed_rule) ws) (sym is) ((shaped.given 1 seed_rule (lit< tt)).given refl)

pub trace_given : (words rest : List (List ℕ)) → IsShaped simulate_rule words → rest ≡ later simulate_rule words → Any (IsFor trace_rule) rest
trace_given words rest shaped is = subst (λ ws. Any (IsFor trace_rule) ws) (sym is) ((shaped.given 2 trace_rule (lit< tt)).given refl)

-- what was read
pub simulates : (words : List (List ℕ)) (cycles seed trace : ℕ) → IsShaped simulate_rule words → IsGiven simulate_rule words cycles_rule cycles → IsGiven simulate_rule words seed_rule seed
    → (value : List ℕ) × GivesAt simulate_rule words trace trace_rule value → (netlist : List ℕ) × Simulates words netlist cycles seed trace
simulates words cycles seed trace shaped has_cycles has_seed has_trace =
    let there : 1 < length words = shaped.files in
    (get_or words 1 [], record { shaped = shaped; is_netlist = slice_get-get_or words 1 [] there; has_cycles = has_cycles; has_seed = has_seed; has_trace = has_trace })

-- the key is given `yes` behind the files, or it is not
chosen_behind : (rule : CommandRule) (words rest : List (List ℕ)) (key : KeyRule) (b : Bool) → rest ≡ later rule words → (IsTrue b ↔ Any (λ word. Gives word key.name (codes "yes")) rest) → IsChosen rule words key b
chosen_behind rule words rest key b is test = (
  λ t. there (subst (Any (λ word. Gives word key.name (codes "yes"))) is (test.0 t)),
  λ (place, gift). test.1 (subst (Any (λ word. Gives word key.name (codes "yes"))) (sym is) (back place gift)),
)
  where
    there : Any (λ word. Gives word key.name (codes "yes")) (later rule words) → (place : ℕ) × GivesAt rule words place key (codes "yes")
    there (k, word, h, e, gives) = (1 + rule.files + k, gift_behind rule words k word (codes "yes") key (slice_get-get_or (later rule words) k word h ∙ ap Some e) gives)

    back : (place : ℕ) → GivesAt rule words place key (codes "yes") → Any (λ word. Gives word key.name (codes "yes")) (later rule words)
    back place gift =
        let within : place < length words = slice_get_within words place gift.word gift.at in
        let behind : rule.files < place = gift.behind in
        let inside : place - (1 + rule.files) < length (later rule words) = rw length-drop (omega arith) in
        (place - (1 + rule.files), gift.word, inside, read_behind rule words place gift.word gift.word gift.behind gift.at, gift.gives)

pub restores : (words rest : List (List ℕ)) (all : Bool) → IsShaped restore_rule words → rest ≡ later restore_rule words → (IsTrue all ↔ Any (λ word. Gives word all_rule.name (codes "yes")) rest)
    → (netlist dump : List ℕ) × Restores words netlist dump all
restores words rest all shaped is test =
    let there : 2 < length words = shaped.files in
    let before : 1 < length words = omega arith in (
      get_or words 1 [],
      get_or words 2 [],
      record {
        shaped = shaped;
        is_netlist = slice_get-get_or words 1 [] before;
        is_dump = slice_get-get_or words 2 [] there;
        has_all = chosen_behind restore_rule words rest all_rule all is test;
      },
    )
