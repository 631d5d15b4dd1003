-- The laws of netlists, for every list of statements and every list of drivers.
use Rattle.std.specs.Prelude.{ℕ, ◌≡◌, ◌≢◌, ◌⊎◌, ◌↔◌, List, Some, slice_get, Contains, All, AllPairs}
use Rattle.std.specs.List.{flat_map}
use Rattle.sr_model.specs.declared.cells.Sig.{Sig}
use Rattle.sr_model.specs.Declaration.{Declaration}
use Rattle.sr_model.specs.Netlist.{Driver}
use Rattle.netlist.specs.declared.checks.NetRefusal.{NetRefusal}
use Rattle.netlist.specs.declared.checks.NetRefusal.TheVariants.{TooManySignals, TooManyPins, TwoDrivers, NoDriver, Loop, NoMemory}
use Rattle.netlist.specs.Numbering.{mentions, names_of, sig_of, drivers_of, HasPinCount, IsStatement}
use Rattle.netlist.specs.Wiring.{HasPinCounts}
use Rattle.netlist.specs.Checks.{without_lines, FirstBreaksAt, IsFirstUndriven, IsDriven, IsRefusal}
use Rattle.netlist.specs.Ranks.{IsRank}
use Rattle.netlist.specs.Loops.{HasNoLoop, IsLoop}
use Rattle.netlist.specs.Circuit.{IsCircuit, IsNetlist, circuit_of}

-- the name at place i has number i
abbrev pub NamesHaveNumbers : Type 0
NamesHaveNumbers = (ds : List Declaration) (i : ℕ) (name : List ℕ) → slice_get (names_of ds) i ≡ Some name → sig_of ds name ≡ record { 0 = i }

-- a mentioned name has a number below the number of names, and its place there
abbrev pub MentionsHaveNumbers : Type 0
MentionsHaveNumbers = (ds : List Declaration) (name : List ℕ) → Contains (flat_map mentions ds) name → slice_get (names_of ds) ((sig_of ds name).0) ≡ Some name

-- the names are those that are mentioned
abbrev pub NamesAreMentioned : Type 0
NamesAreMentioned = (ds : List Declaration) (name : List ℕ) → Contains (names_of ds) name ↔ Contains (flat_map mentions ds) name

-- no two of them are one
abbrev pub NamesDiffer : Type 0
NamesDiffer = (ds : List Declaration) → AllPairs (λ a b. a ≢ b) (names_of ds)

-- where the statements have as many pins as their kinds may have, so have the drivers
abbrev pub DriversHavePinCounts : Type 0
DriversHavePinCounts = (ds : List Declaration) → All HasPinCount ds → HasPinCounts (drivers_of ds)

-- statements that break the rule first break it at one line, and those that keep it at none
pub record BreaksOnce (Rule : List Declaration → Type 0) : Type 0 where
  pub one_line : (ds : List (ℕ × Declaration)) (a b : ℕ) → FirstBreaksAt Rule ds a → FirstBreaksAt Rule ds b → a ≡ b
  pub none_kept : (ds : List (ℕ × Declaration)) (line : ℕ) → FirstBreaksAt Rule ds line → ¬ Rule (without_lines ds)

-- one name is the first that is not driven, and none is where each is driven
pub record IsUndrivenOnce : Type 0 where
  pub one_name : (ds : List Declaration) (a b : List ℕ) → IsFirstUndriven ds a → IsFirstUndriven ds b → a ≡ b
  pub none_driven : (ds : List Declaration) (name : List ℕ) → IsFirstUndriven ds name → ¬ IsDriven ds

-- a netlist has one list of ranks at most
abbrev pub RanksAreUnique : Type 0
RanksAreUnique = (drivers : List Driver) (a b : List ℕ) → IsRank drivers a → IsRank drivers b → a ≡ b

-- where there is no loop, there are ranks
abbrev pub RanksExist : Type 0
RanksExist = (drivers : List Driver) → HasNoLoop drivers → (ranks : List ℕ) × IsRank drivers ranks

-- where there are ranks, there is no loop
abbrev pub RanksExcludeLoops : Type 0
RanksExcludeLoops = (drivers : List Driver) (ranks : List ℕ) → IsRank drivers ranks → HasNoLoop drivers

-- the walk comes to one loop alone
abbrev pub LoopIsUnique : Type 0
LoopIsUnique = (drivers : List Driver) (a b : Sig) (m n : ℕ) → IsLoop drivers a m → IsLoop drivers b n → (a ≡ b) × (m ≡ n)

-- statements of a netlist give what every netlist keeps
abbrev pub StatementsGiveCircuits : Type 0
StatementsGiveCircuits = (ds : List Declaration) → All IsStatement ds → IsNetlist ds → IsCircuit (circuit_of ds)

-- they refuse for one rule, at the same line, or by the same name and the same number of signals
abbrev pub SameRefusal : NetRefusal → NetRefusal → Type 0
SameRefusal (TooManySignals a) (TooManySignals b) = a ≡ b
SameRefusal (TooManyPins a) (TooManyPins b) = a ≡ b
SameRefusal (TwoDrivers a) (TwoDrivers b) = a ≡ b
SameRefusal (NoDriver a) (NoDriver b) = a.items ≡ b.items
SameRefusal (Loop a m) (Loop b n) = (a.items ≡ b.items) × (m ≡ n)
SameRefusal NoMemory NoMemory = Unit {0}
SameRefusal _ _ = ⊥

-- apart from want of memory, statements have one refusal at most
abbrev pub RefusalIsUnique : Type 0
RefusalIsUnique = (ds : List (ℕ × Declaration)) (a b : NetRefusal) → IsRefusal ds a → IsRefusal ds b → a ≢ NoMemory → b ≢ NoMemory → SameRefusal a b

-- a netlist is refused for want of memory alone
abbrev pub NetlistsAreNotRefused : Type 0
NetlistsAreNotRefused = (ds : List (ℕ × Declaration)) (r : NetRefusal) → IsNetlist (without_lines ds) → IsRefusal ds r → r ≡ NoMemory

-- each list of statements stands for a netlist, or has a refusal other than want of memory
abbrev pub IsNetlistOrRefused : Type 0
IsNetlistOrRefused = (ds : List (ℕ × Declaration)) → IsNetlist (without_lines ds) ⊎ ((r : NetRefusal) × IsRefusal ds r × (r ≢ NoMemory))
