-- Why a trace's list of names is refused.
use Rattle.std.specs.Prelude.{ℕ, ◌≡◌, ⊤, List, Contains, length}
use Rattle.netlist.specs.Circuit.{Circuit}
use Rattle.report.specs.declared.refusal.Refusal.{Refusal}
use Rattle.report.specs.declared.refusal.Refusal.TheVariants as refusals
use Rattle.report.specs.Refusals.{HasKey, listed_names, word_at}
use Rattle.restore_program.specs.Tracing.{StandsNext, names_in}
use Rattle.restore_program.specs.declared.trace.TraceRefusal.{TraceRefusal}
use Rattle.restore_program.specs.declared.trace.TraceRefusal.TheVariants as traces

-- behind names of signals, each once, the item is this name
pub record IsItem (c : Circuit) (names : List (List ℕ)) (name : List ℕ) (item : ℕ) : Type 0 where
  pub before : List (List ℕ)
  pub next : StandsNext c names name before
  pub place : item ≡ length before

abbrev pub IsTraceRefusal : Circuit → List (List ℕ) → TraceRefusal → Type 0
IsTraceRefusal c names (traces.Unknown item) = (name : List ℕ) × IsItem c names name item × ¬ Contains c.names name
IsTraceRefusal c names (traces.Twice item) = (name : List ℕ) × (is : IsItem c names name item) × Contains is.before name
IsTraceRefusal c names traces.NoMemory = ⊤

-- the word at this place gives this list to its key
pub record HasListAt (words : List (List ℕ)) (place : ℕ) (list : List ℕ) : Type 0 where
  pub key : HasKey words place
  pub names : listed_names (word_at words place) ≡ names_in list

-- the refusal of the list that the word at a place gives
abbrev pub list_refusal : TraceRefusal → ℕ → Refusal
list_refusal (traces.Unknown item) place = refusals.TraceUnknown place item
list_refusal (traces.Twice item) place = refusals.TraceTwice place item
list_refusal traces.NoMemory place = refusals.NoMemory
