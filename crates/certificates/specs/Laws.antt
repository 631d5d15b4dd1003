-- Each text is a valid certificate in one way or refused in one way, and what a valid one says is so.
use Rattle.std.specs.Prelude.{◌≡◌, ◌≢◌, ◌⊎◌, ℕ, List, Option, Some}
use Rattle.std.specs.List.{Contains}
use Rattle.sr_model.specs.declared.cells.Cell.{Cell}
use Rattle.sr_model.specs.declared.cells.Lit.{Lit}
use Rattle.sr_model.specs.Netlist.{Valuation, IsExecution, Has}
use Rattle.sr_model.specs.Closure.{HasBoth}
use Rattle.sr_model.specs.Dump.{Known, Matches}
use Rattle.netlist.specs.Circuit.{Circuit, IsCircuit, unrolled_over}
use Rattle.dump_reader.specs.Recording.{Recording}
use Rattle.certificates.specs.declared.claim.Fact.{Fact}
use Rattle.certificates.specs.declared.refusal.CertRefusal.{CertRefusal}
use Rattle.certificates.specs.declared.refusal.CertRefusal.TheVariants.{NoMemory}
use Rattle.certificates.specs.Refusal.{IsRefusal}
use Rattle.certificates.specs.Validity.{IsValid, lits_of}

-- a text is a valid certificate in one way at most
abbrev pub IsValidOnce : Type 0
IsValidOnce =
    (c : Circuit) (d : Recording) (text : List ℕ) (facts others : List Fact) (clash other : Option Cell) → IsCircuit c → IsValid c d text facts clash → IsValid c d text others other
    → (facts ≡ others) × (clash ≡ other)

-- it is refused in one way at most
abbrev pub IsRefusedOnce : Type 0
IsRefusedOnce = (c : Circuit) (d : Recording) (text : List ℕ) (a b : CertRefusal) → IsCircuit c → IsRefusal c d text a → IsRefusal c d text b → (a ≢ NoMemory) → (b ≢ NoMemory) → a ≡ b

-- where it is valid, it is refused for want of memory alone
abbrev pub ValidAreNotRefused : Type 0
ValidAreNotRefused =
    (c : Circuit) (d : Recording) (text : List ℕ) (facts : List Fact) (clash : Option Cell) (e : CertRefusal) → IsCircuit c → IsValid c d text facts clash → IsRefusal c d text e → e ≡ NoMemory

-- it is valid or refused, for want of memory aside
abbrev pub IsValidOrRefused : Type 0
IsValidOrRefused =
    (c : Circuit) → IsCircuit c → (d : Recording) (text : List ℕ) → ((facts : List Fact) × (clash : Option Cell) × IsValid c d text facts clash) ⊎ ((e : CertRefusal) × IsRefusal c d text e × (e ≢ NoMemory))

-- each literal of a valid certificate follows from the dump
abbrev pub FactsAreKnown : Type 0
FactsAreKnown =
    (c : Circuit) (d : Recording) (text : List ℕ) (facts : List Fact) (clash : Option Cell) (l : Lit) → IsValid c d text facts clash → Contains (lits_of facts) l
    → Known (unrolled_over c d.cycles) d.rows l

-- so does each literal of the cell of its contradiction
abbrev pub ClashIsKnown : Type 0
ClashIsKnown = (c : Circuit) (d : Recording) (text : List ℕ) (facts : List Fact) (cell : Cell) → IsValid c d text facts (Some cell) → HasBoth (Known (unrolled_over c d.cycles) d.rows) cell

-- so each literal is one of every execution that matches the dump
abbrev pub FactsAreSound : Type 0
FactsAreSound =
    (c : Circuit) (d : Recording) (text : List ℕ) (facts : List Fact) (clash : Option Cell) (l : Lit) (v : Valuation) → IsValid c d text facts clash → Contains (lits_of facts) l
    → IsExecution (unrolled_over c d.cycles) v → Matches v d.rows → Has v l

-- and with a contradiction no execution matches
abbrev pub ContradictionExcludes : Type 0
ContradictionExcludes =
    (c : Circuit) (d : Recording) (text : List ℕ) (facts : List Fact) (cell : Cell) (v : Valuation) → IsValid c d text facts (Some cell) → IsExecution (unrolled_over c d.cycles) v → Matches v d.rows → ⊥
