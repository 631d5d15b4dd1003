-- What the words of the command line ask for.
use Rattle.std.specs.Prelude.{ℕ, ◌≡◌, ◌≢◌, ◌+◌, ◌-◌, ◌^◌, ◌<◌, ◌≤◌, ◌==◌, ◌⊎◌, ◌↔◌, ⊤, Bool, true, false, List, [], ◌∷◌, ◌++◌, length, drop, codes, All, AllPairs, Any, IsTrue, Some}
use Rattle.std.specs.List.{slice_get, slice_split}
use Rattle.std.specs.Fmt.{decimal}
use Rattle.sr_model.specs.Limits.{max_cycles, max_signals}

-- ---- the table of the commands

-- what a key takes: a number from least to most, names that are parted by commas, or `yes` or `no`
pub data Takes : Type 0 where
  number : (least most : ℕ) → Takes
  names : Takes
  choice : Takes

-- a key, whether it has to be given, and what it takes
pub record KeyRule : Type 0 where
  pub name : List ℕ
  pub required : Bool
  pub takes : Takes

-- a command, how many files follow it, and the keys of the words behind them
pub record CommandRule : Type 0 where
  pub name : List ℕ
  pub files : ℕ
  pub keys : List KeyRule

abbrev pub all_rule : KeyRule
all_rule = record { name = codes "all"; required = false; takes = choice }

abbrev pub restore_rule : CommandRule
restore_rule = record { name = codes "restore"; files = 2; keys = all_rule ∷ [] }

abbrev pub cycles_rule : KeyRule
cycles_rule = record { name = codes "cycles"; required = true; takes = number 1 max_cycles }

abbrev pub seed_rule : KeyRule
seed_rule = record { name = codes "seed"; required = true; takes = number 0 (2 ^ 64 - 1) }

abbrev pub trace_rule : KeyRule
trace_rule = record { name = codes "trace"; required = true; takes = names }

abbrev pub simulate_rule : CommandRule
simulate_rule = record { name = codes "simulate"; files = 1; keys = cycles_rule ∷ seed_rule ∷ trace_rule ∷ [] }

abbrev pub width_rule : KeyRule
width_rule = record { name = codes "width"; required = true; takes = number 1 max_signals }

abbrev pub select_rule : CommandRule
select_rule = record { name = codes "select"; files = 1; keys = width_rule ∷ cycles_rule ∷ seed_rule ∷ [] }

abbrev pub print_rule : CommandRule
print_rule = record { name = codes "print"; files = 1; keys = [] }

abbrev pub number_rule : KeyRule
number_rule = record { name = codes "number"; required = true; takes = number 0 (2 ^ 64 - 1) }

abbrev pub signals_rule : KeyRule
signals_rule = record { name = codes "signals"; required = true; takes = number 16 max_signals }

abbrev pub load_rule : CommandRule
load_rule = record { name = codes "load"; files = 0; keys = number_rule ∷ signals_rule ∷ [] }

abbrev pub certify_rule : CommandRule
certify_rule = record { name = codes "certify"; files = 2; keys = [] }

abbrev pub check_rule : CommandRule
check_rule = record { name = codes "check"; files = 3; keys = [] }

abbrev pub command_rules : List CommandRule
command_rules = restore_rule ∷ select_rule ∷ simulate_rule ∷ print_rule ∷ load_rule ∷ certify_rule ∷ check_rule ∷ []

-- ---- words

-- the word is `key=value`, and the key ends at its first `=`
pub record Gives (word key value : List ℕ) : Type 0 where
  pub spelled : word ≡ key ++ 61 ∷ value
  pub first : All (λ b. b ≢ 61) key

-- the word gives the key a value
abbrev pub IsFor : KeyRule → List ℕ → Type 0
IsFor key word = (value : List ℕ) × Gives word key.name value

-- parted at its commas, a list of names has no empty name; any text has the shape of a number
abbrev pub HasShape : Takes → List ℕ → Type 0
HasShape (number least most) value = ⊤
HasShape names value = All (λ item. item ≢ []) (slice_split (λ b. b == 44) value)
HasShape choice value = (value ≡ codes "yes") ⊎ (value ≡ codes "no")

-- the word gives the key a value of its shape
abbrev pub Suits : List ℕ → KeyRule → Type 0
Suits word key = (value : List ℕ) × Gives word key.name value × HasShape key.takes value

-- ---- the shape of a command

-- these words give the key at most once, and once where it has to be given
pub record IsGivenRight (words : List (List ℕ)) (key : KeyRule) : Type 0 where
  pub once : AllPairs (λ first second. ¬ (IsFor key first × IsFor key second)) words
  pub given : IsTrue key.required → Any (IsFor key) words

-- the words behind the files
abbrev pub later : CommandRule → List (List ℕ) → List (List ℕ)
later rule words = drop (1 + rule.files) words

-- the words have the shape of this command: its name, its files, and then words that each suit one of its keys, with the keys given right
pub record IsShaped (rule : CommandRule) (words : List (List ℕ)) : Type 0 where
  pub named : slice_get words 0 ≡ Some rule.name
  pub files : rule.files < length words
  pub known : All (λ word. Any (Suits word) rule.keys) (later rule words)
  pub given : All (IsGivenRight (later rule words)) rule.keys

-- the words have the shape of some command
abbrev pub IsCommand : List (List ℕ) → Type 0
IsCommand words = Any (λ rule. IsShaped rule words) command_rules

-- ---- numbers

-- the value is the decimal form of a number that the key may have
abbrev pub IsNumber : Takes → List ℕ → ℕ → Type 0
IsNumber (number least most) value n = (value ≡ decimal n) × (least ≤ n) × (n ≤ most)
IsNumber names value n = ⊥
IsNumber choice value n = ⊥

-- the key takes a number, and the value is none that it may have
abbrev pub IsBad : Takes → List ℕ → Type 0
IsBad (number least most) value = (n : ℕ) → ¬ IsNumber (number least most) value n
IsBad names value = ⊥
IsBad choice value = ⊥

-- behind the files, the word at this place gives the key this value
pub record GivesAt (rule : CommandRule) (words : List (List ℕ)) (place : ℕ) (key : KeyRule) (value : List ℕ) : Type 0 where
  pub behind : rule.files < place
  pub word : List ℕ
  pub at : slice_get words place ≡ Some word
  pub gives : Gives word key.name value

-- the key is given this number
abbrev pub IsGiven : CommandRule → List (List ℕ) → KeyRule → ℕ → Type 0
IsGiven rule words key n = (place : ℕ) × (value : List ℕ) × GivesAt rule words place key value × IsNumber key.takes value n

-- the key is given `yes`, or it is not
abbrev pub IsChosen : CommandRule → List (List ℕ) → KeyRule → Bool → Type 0
IsChosen rule words key chosen = IsTrue chosen ↔ ((place : ℕ) × GivesAt rule words place key (codes "yes"))

-- the word at this place gives a number that its key may not have
abbrev pub IsBadAt : CommandRule → List (List ℕ) → ℕ → Type 0
IsBadAt rule words place = Any (λ key. (value : List ℕ) × GivesAt rule words place key value × IsBad key.takes value) rule.keys

-- and no word before it does
abbrev pub IsFirstBad : CommandRule → List (List ℕ) → ℕ → Type 0
IsFirstBad rule words place = IsBadAt rule words place × ((earlier : ℕ) → earlier < place → ¬ IsBadAt rule words earlier)

-- the words have the shape of a command, and this is the place of their first bad number
abbrev pub IsBadNumber : List (List ℕ) → ℕ → Type 0
IsBadNumber words place = Any (λ rule. IsShaped rule words × IsFirstBad rule words place) command_rules

-- ---- the commands

-- the words ask for the restoration of this netlist and this dump, and for the rows of all signals or not
pub record Restores (words : List (List ℕ)) (netlist dump : List ℕ) (all : Bool) : Type 0 where
  pub shaped : IsShaped restore_rule words
  pub is_netlist : slice_get words 1 ≡ Some netlist
  pub is_dump : slice_get words 2 ≡ Some dump
  pub has_all : IsChosen restore_rule words all_rule all

-- the words ask for the text of this netlist
pub record Prints (words : List (List ℕ)) (netlist : List ℕ) : Type 0 where
  pub shaped : IsShaped print_rule words
  pub is_netlist : slice_get words 1 ≡ Some netlist

-- the words ask for a run of this netlist over so many cycles from this seed, and for what the word at place `trace` names
pub record Simulates (words : List (List ℕ)) (netlist : List ℕ) (cycles seed trace : ℕ) : Type 0 where
  pub shaped : IsShaped simulate_rule words
  pub is_netlist : slice_get words 1 ≡ Some netlist
  pub has_cycles : IsGiven simulate_rule words cycles_rule cycles
  pub has_seed : IsGiven simulate_rule words seed_rule seed
  pub has_trace : (value : List ℕ) × GivesAt simulate_rule words trace trace_rule value

-- the words ask for a ranking of so many flip-flops of this netlist, by a run over so many cycles from this seed
pub record Selects (words : List (List ℕ)) (netlist : List ℕ) (width cycles seed : ℕ) : Type 0 where
  pub shaped : IsShaped select_rule words
  pub is_netlist : slice_get words 1 ≡ Some netlist
  pub has_width : IsGiven select_rule words width_rule width
  pub has_cycles : IsGiven select_rule words cycles_rule cycles
  pub has_seed : IsGiven select_rule words seed_rule seed

-- the words ask for what follows in the netlist that is drawn from this number, with so many signals
pub record Loads (words : List (List ℕ)) (number signals : ℕ) : Type 0 where
  pub shaped : IsShaped load_rule words
  pub has_number : IsGiven load_rule words number_rule number
  pub has_signals : IsGiven load_rule words signals_rule signals

-- the words ask for a certificate of what follows from this netlist and this dump
pub record Certifies (words : List (List ℕ)) (netlist dump : List ℕ) : Type 0 where
  pub shaped : IsShaped certify_rule words
  pub is_netlist : slice_get words 1 ≡ Some netlist
  pub is_dump : slice_get words 2 ≡ Some dump

-- the words ask for a check of this certificate, of this netlist and this dump
pub record Checks (words : List (List ℕ)) (netlist dump certificate : List ℕ) : Type 0 where
  pub shaped : IsShaped check_rule words
  pub is_netlist : slice_get words 1 ≡ Some netlist
  pub is_dump : slice_get words 2 ≡ Some dump
  pub is_certificate : slice_get words 3 ≡ Some certificate

-- the words are `restore` and what it takes
abbrev pub IsRestore : List (List ℕ) → Type 0
IsRestore words = (netlist dump : List ℕ) × (all : Bool) × Restores words netlist dump all

-- the words are `print` and what it takes
abbrev pub IsPrint : List (List ℕ) → Type 0
IsPrint words = (netlist : List ℕ) × Prints words netlist

-- the words are `simulate` and what it takes
abbrev pub IsSimulate : List (List ℕ) → Type 0
IsSimulate words = (netlist : List ℕ) × (cycles seed trace : ℕ) × Simulates words netlist cycles seed trace

-- the words are `select` and what it takes
abbrev pub IsSelect : List (List ℕ) → Type 0
IsSelect words = (netlist : List ℕ) × (width cycles seed : ℕ) × Selects words netlist width cycles seed

-- the words are `certify` and what it takes
abbrev pub IsCertify : List (List ℕ) → Type 0
IsCertify words = (netlist dump : List ℕ) × Certifies words netlist dump

-- the words are `check` and what it takes
abbrev pub IsCheck : List (List ℕ) → Type 0
IsCheck words = (netlist dump certificate : List ℕ) × Checks words netlist dump certificate
