-- What the rows of the table stand for, and what is found among the words.
use Rattle.std.specs.Prelude.{◌≡◌, ◌⊎◌, ◌<◌, ℕ, List, map, Option, Some, None, All, Any}
use Rattle.std.specs.List.{slice_get}
use Rattle.restore_program.specs.declared.word_rules.Takes.{Takes as Taken}
use Rattle.restore_program.specs.declared.word_rules.Takes.TheVariants as takes
use Rattle.restore_program.specs.declared.word_rules.Key.{Key}
use Rattle.restore_program.specs.declared.word_rules.Command.{Command}
use Rattle.restore_program.specs.Words.{Takes, number, names, choice, KeyRule, CommandRule, Gives, IsFor, IsNumber, IsBad}

abbrev pub taken_by : Taken → Takes
taken_by (takes.Number least most) = number least most
taken_by takes.Names = names
taken_by takes.Choice = choice

abbrev pub key_rule_of : Key → KeyRule
key_rule_of key = record { name = key.name.now; required = key.required; takes = taken_by key.takes }

abbrev pub command_rule_of : Command → CommandRule
command_rule_of command = record { name = command.name.now; files = command.files; keys = map key_rule_of command.keys.now }

-- the word gives the key a number that it may not have
abbrev pub IsBadFor : List ℕ → KeyRule → Type 0
IsBadFor word key = (value : List ℕ) × Gives word key.name value × IsBad key.takes value

-- the word gives the key this number
abbrev pub GivesNumber : KeyRule → ℕ → List ℕ → Type 0
GivesNumber key n word = (value : List ℕ) × Gives word key.name value × IsNumber key.takes value n

-- the word gives the key a value that is no number which it may have
abbrev pub GivesNone : KeyRule → List ℕ → Type 0
GivesNone key word = (value : List ℕ) × Gives word key.name value × ((n : ℕ) → ¬ IsNumber key.takes value n)

-- the first place at which P holds, if there is one
abbrev pub FirstPlace : (List ℕ → Type 0) → List (List ℕ) → Option ℕ → Type 0
FirstPlace P words None = All (λ word. ¬ P word) words
FirstPlace P words (Some place) = (word : List ℕ) × (slice_get words place ≡ Some word) × P word
    × ((earlier : ℕ) (other : List ℕ) → earlier < place → slice_get words earlier ≡ Some other → ¬ P other)

-- the number that is given to the key, if there is one
abbrev pub FindsNumber : KeyRule → List (List ℕ) → Option ℕ → Type 0
FindsNumber key words None = All (λ word. ¬ IsFor key word) words ⊎ Any (GivesNone key) words
FindsNumber key words (Some n) = Any (GivesNumber key n) words
