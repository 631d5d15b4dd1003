-- What an answer of `read_words` says of the words.
use Rattle.std.specs.Prelude.{ℕ, List, Result, Ok, Err}
use Rattle.restore_program.specs.declared.words.Settings.{Settings}
use Rattle.restore_program.specs.declared.words.Settings.TheVariants as settings
use Rattle.report.specs.declared.refusal.WordRefusal.{WordRefusal}
use Rattle.report.specs.declared.refusal.WordRefusal.TheVariants as refusals
use Rattle.restore_program.specs.Words.{IsBadNumber, IsCertify, IsCheck, IsCommand, IsPrint, Loads, Restores, Selects, Simulates}

abbrev pub Means : List (List ℕ) → Result Settings WordRefusal → Type 0
Means words (Ok (settings.Restore all)) = (netlist dump : List ℕ) × Restores words netlist dump all
Means words (Ok (settings.Select width cycles seed)) = (netlist : List ℕ) × Selects words netlist width cycles seed
Means words (Ok (settings.Simulate cycles seed trace)) = (netlist : List ℕ) × Simulates words netlist cycles seed trace
Means words (Ok settings.Print) = IsPrint words
Means words (Ok (settings.Load number signals)) = Loads words number signals
Means words (Ok settings.Certify) = IsCertify words
Means words (Ok settings.Check) = IsCheck words
Means words (Err refusals.Usage) = ¬ IsCommand words
Means words (Err (refusals.Number place)) = IsBadNumber words place
