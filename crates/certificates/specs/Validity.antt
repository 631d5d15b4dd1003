-- When a certificate is valid.
use Rattle.std.specs.Prelude.{ℕ, ◌≡◌, ◌⊎◌, ⊤, List, [], ◌∷◌, ◌++◌, map, Option, Some, None}
use Rattle.std.specs.List.{AllZip, Contains}
use Rattle.sr_model.specs.declared.cells.Cell.{Cell}
use Rattle.sr_model.specs.declared.cells.Lit.{Lit}
use Rattle.sr_model.specs.Netlist.{Unrolled}
use Rattle.sr_model.specs.Closure.{LitSet, ForcesAt, HasBoth, passing}
use Rattle.sr_model.specs.Dump.{dump_has}
use Rattle.netlist.specs.Circuit.{Circuit, unrolled_over}
use Rattle.sr_text.specs.Lines.{numbered}
use Rattle.dump_reader.specs.Recording.{Recording}
use Rattle.certificates.specs.declared.claim.Fact.{Fact}
use Rattle.certificates.specs.declared.claim.Claim.{Claim}
use Rattle.certificates.specs.declared.claim.Claim.TheVariants.{Forced, End, Contradiction}
use Rattle.certificates.specs.Forms.{IsHead}
use Rattle.certificates.specs.Grammar.{States}

abbrev pub lits_of : List Fact → List Lit
lits_of facts = map (λ fact. fact.lit) facts

-- the literals of the base and those of the facts
abbrev pub with_facts : LitSet → List Fact → Lit → Type 0
with_facts base facts l = base l ⊎ Contains (lits_of facts) l

-- the claim is true where these literals are known: the literal is forced at its place, or the cell has both literals
abbrev pub Holds : Unrolled → LitSet → Claim → Type 0
Holds u known (Forced fact) = ForcesAt u known fact.place fact.lit
Holds u known End = ⊤
Holds u known (Contradiction cell) = HasBoth known cell

-- each fact is forced by the base, the earlier facts and those before it
abbrev pub AreForced : Unrolled → LitSet → List Fact → List Fact → Type 0
AreForced u base earlier [] = ⊤
AreForced u base earlier (fact ∷ later) = ForcesAt u (with_facts base earlier) fact.place fact.lit × AreForced u base (earlier ++ fact ∷ []) later

-- the literals of a dump, and those of the facts
abbrev pub known_by : Recording → List Fact → Lit → Type 0
known_by d facts = with_facts (passing (dump_has d.rows)) facts

-- the lines state these facts, and each is forced by the dump and those before it
pub record StateFacts (c : Circuit) (d : Recording) (lines : List (ℕ × List ℕ)) (facts : List Fact) : Type 0 where
  pub each : AllZip (λ line fact. States c d.cycles line.1 (Forced fact)) lines facts
  pub forced : AreForced (unrolled_over c d.cycles) (passing (dump_has d.rows)) [] facts

-- what the last line claims: the end, or a contradiction at this cell
abbrev pub last_claim : Option Cell → Claim
last_claim None = End
last_claim (Some cell) = Contradiction cell

-- the lines state these facts, and the last one ends them
pub record AreComplete (c : Circuit) (d : Recording) (lines : List (ℕ × List ℕ)) (facts : List Fact) (clash : Option Cell) : Type 0 where
  pub before : List (ℕ × List ℕ)
  pub last : ℕ × List ℕ
  pub whole : lines ≡ before ++ last ∷ []
  pub facts_stated : StateFacts c d before facts
  pub last_stated : States c d.cycles last.1 (last_claim clash)
  pub holds : Holds (unrolled_over c d.cycles) (known_by d facts) (last_claim clash)

-- the text begins with a head, and these lines follow
pub record HasHead (text : List ℕ) (lines : List (ℕ × List ℕ)) : Type 0 where
  pub head : ℕ × List ℕ
  pub whole : numbered text ≡ head ∷ lines
  pub is_head : IsHead head.1

-- the text is a valid certificate of these facts, and of a contradiction at the cell, if there is one
pub record IsValid (c : Circuit) (d : Recording) (text : List ℕ) (facts : List Fact) (clash : Option Cell) : Type 0 where
  pub lines : List (ℕ × List ℕ)
  pub head : HasHead text lines
  pub complete : AreComplete c d lines facts clash
