-- What words can ask for.
use Rattle.std.specs.Prelude.{ℕ, Bool, List, [], ◌∷◌}
use Rattle.report.specs.declared.refusal.Part.{Part}
use Rattle.report.specs.declared.refusal.Part.TheVariants as parts
use Rattle.restore_program.specs.Words.{CommandRule, Restores, Selects, Simulates, Prints, Loads, Certifies, Checks, GivesAt, certify_rule, check_rule, load_rule, print_rule, restore_rule, select_rule, simulate_rule, trace_rule}

-- the restoration of a dump, with the rows of all signals or of the flip-flops alone; a ranking of so many flip-flops, by a run of so many cycles from a seed; a run of so many cycles from a seed, with a trace of the signals that a list names;
-- a netlist's text; what follows in a netlist of so many signals that is drawn from a number; a certificate of what follows from a dump; or the check of one
pub data Request : Type 0 where
  restoration : (netlist dump : List ℕ) (all : Bool) → Request
  selection : (netlist : List ℕ) (width cycles seed : ℕ) → Request
  simulation : (netlist : List ℕ) (cycles seed : ℕ) (list : List ℕ) → Request
  printing : (netlist : List ℕ) → Request
  loading : (number signals : ℕ) → Request
  certification : (netlist dump : List ℕ) → Request
  checking : (netlist dump certificate : List ℕ) → Request

-- the words ask for a run, and the list is the value of their word `trace=..`
abbrev pub Traces : List (List ℕ) → List ℕ → ℕ → ℕ → List ℕ → Type 0
Traces words netlist cycles seed list = (place : ℕ) × Simulates words netlist cycles seed place × GivesAt simulate_rule words place trace_rule list

abbrev pub Asks : List (List ℕ) → Request → Type 0
Asks words (restoration netlist dump all) = Restores words netlist dump all
Asks words (selection netlist width cycles seed) = Selects words netlist width cycles seed
Asks words (simulation netlist cycles seed list) = Traces words netlist cycles seed list
Asks words (printing netlist) = Prints words netlist
Asks words (loading number signals) = Loads words number signals
Asks words (certification netlist dump) = Certifies words netlist dump
Asks words (checking netlist dump certificate) = Checks words netlist dump certificate

-- the rule of the command that asks for it
abbrev pub rule_of : Request → CommandRule
rule_of (restoration netlist dump all) = restore_rule
rule_of (selection netlist width cycles seed) = select_rule
rule_of (simulation netlist cycles seed list) = simulate_rule
rule_of (printing netlist) = print_rule
rule_of (loading number signals) = load_rule
rule_of (certification netlist dump) = certify_rule
rule_of (checking netlist dump certificate) = check_rule

-- a file: which input it is, and its name
abbrev pub File : Type 0
File = Part × List ℕ

-- the files that a request comes to, in this order
abbrev pub files_of : Request → List File
files_of (restoration netlist dump all) = (parts.Netlist, netlist) ∷ (parts.Dump, dump) ∷ []
files_of (selection netlist width cycles seed) = (parts.Netlist, netlist) ∷ []
files_of (simulation netlist cycles seed list) = (parts.Netlist, netlist) ∷ []
files_of (printing netlist) = (parts.Netlist, netlist) ∷ []
files_of (loading number signals) = []
files_of (certification netlist dump) = (parts.Netlist, netlist) ∷ (parts.Dump, dump) ∷ []
files_of (checking netlist dump certificate) = (parts.Netlist, netlist) ∷ (parts.Dump, dump) ∷ (parts.Certificate, certificate) ∷ []
