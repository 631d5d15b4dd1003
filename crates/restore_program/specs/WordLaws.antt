-- The law of words, for all words.
use Rattle.std.specs.Prelude.{ℕ, ◌⊎◌, List}
use Rattle.restore_program.specs.Requests.{Asks, Request}
use Rattle.restore_program.specs.Words.{IsBadNumber, IsCommand}

-- words are no command, or have a first bad number, or ask for something
abbrev pub WordsAreDecided : Type 0
WordsAreDecided = (words : List (List ℕ)) → (¬ IsCommand words) ⊎ ((place : ℕ) × IsBadNumber words place) ⊎ ((request : Request) × Asks words request)
