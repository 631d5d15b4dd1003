-- A line makes one claim at most.
use Rattle.std.proofs.Common.{◌≡◌, ℕ, Bool, true, false, List, [], get_or, length, refl, sym, ap, subst, ◌∙◌, arith}
use Rattle.std.proofs.lemmas.Fmt.{decimal_injective}
use Rattle.sr_model.specs.declared.cells.Cell.{Cell}
use Rattle.sr_model.specs.declared.cells.Lit.{Lit}
use Rattle.sr_model.specs.declared.cells.Place.{Place}
use Rattle.netlist.specs.Circuit.{Circuit, IsCircuit}
use Rattle.certificates.specs.declared.claim.Fact.{Fact}
use Rattle.certificates.specs.declared.claim.Claim.{Claim}
use Rattle.certificates.specs.declared.claim.Claim.TheVariants.{Forced, End, Contradiction}
use Rattle.certificates.specs.Tokens.{tokens_of}
use Rattle.certificates.specs.Forms.{LineForm, FactLine, EndLine, ContradictionLine, AreTokensOf, digit}
use Rattle.certificates.specs.Grammar.{IsCellOf, IsFactOf, Means, States}
use Rattle.certificates.proofs.Names.{one-signal}

same-bit : (a b : Bool) → digit a ≡ digit b → a ≡ b
same-bit false false e = refl
same-bit false true e = let first : 48 ≡ 49 = ap (λ t. get_or t 0 0) e in absurd (omega (arith, first))
same-bit true false e = let first : 49 ≡ 48 = ap (λ t. get_or t 0 0) e in absurd (omega (arith, first))
same-bit true true e = refl

one-form : (tokens : List (List ℕ)) (a b : LineForm) → AreTokensOf tokens a → AreTokensOf tokens b → a ≡ b
one-form tokens (FactLine n k x t i) (FactLine m j y s h) p q =
    let same = sym p.0 ∙ q.0 in
    let name : n ≡ m = ap (λ ts. get_or ts 0 []) same in
    let cycle : k ≡ j = decimal_injective k j p.2 q.2 (ap (λ ts. get_or ts 1 []) same) in
    let bit : x ≡ y = same-bit x y (ap (λ ts. get_or ts 2 []) same) in
    let target : t ≡ s = ap (λ ts. get_or ts 4 []) same in
    let place : i ≡ h = decimal_injective i h p.4 q.4 (ap (λ ts. get_or ts 5 []) same) in
    ap (λ z. FactLine z k x t i) name ∙ ap (λ z. FactLine m z x t i) cycle ∙ ap (λ z. FactLine m j z t i) bit ∙ ap (λ z. FactLine m j y z i) target ∙ ap (FactLine m j y s) place
one-form tokens (FactLine n k x t i) EndLine p q = let same = ap (λ (ts : List (List ℕ)). length ts) (sym p.0 ∙ q) in absurd (omega (arith, same))
one-form tokens (FactLine n k x t i) (ContradictionLine m j) p q = let same = ap (λ (ts : List (List ℕ)). length ts) (sym p.0 ∙ q.0) in absurd (omega (arith, same))
one-form tokens EndLine (FactLine m j y s h) p q = let same = ap (λ (ts : List (List ℕ)). length ts) (sym p ∙ q.0) in absurd (omega (arith, same))
one-form tokens EndLine EndLine p q = refl
one-form tokens EndLine (ContradictionLine m j) p q = let same = ap (λ (ts : List (List ℕ)). length ts) (sym p ∙ q.0) in absurd (omega (arith, same))
one-form tokens (ContradictionLine n k) (FactLine m j y s h) p q = let same = ap (λ (ts : List (List ℕ)). length ts) (sym p.0 ∙ q.0) in absurd (omega (arith, same))
one-form tokens (ContradictionLine n k) EndLine p q = let same = ap (λ (ts : List (List ℕ)). length ts) (sym p.0 ∙ q) in absurd (omega (arith, same))
one-form tokens (ContradictionLine n k) (ContradictionLine m j) p q =
    let same = sym p.0 ∙ q.0 in
    ap (λ z. ContradictionLine z k) (ap (λ ts. get_or ts 1 []) same) ∙ ap (ContradictionLine m) (decimal_injective k j p.2 q.2 (ap (λ ts. get_or ts 2 []) same))

module _ (c : Circuit) (cycles : ℕ) (circuit : IsCircuit c) where
  one-cell : (name : List ℕ) (cycle : ℕ) (a b : Cell) → IsCellOf c cycles name cycle a → IsCellOf c cycles name cycle b → a ≡ b
  one-cell name cycle a b p q =
      ap (λ s. record { cycle = a.cycle; sig = s }) (one-signal c name a.sig b.sig circuit p.named q.named) ∙ ap (λ n. record { cycle = n; sig = b.sig }) (p.is_cycle ∙ sym q.is_cycle)

  one-fact : (name : List ℕ) (cycle : ℕ) (bit : Bool) (target : List ℕ) (i : ℕ) (a b : Fact) → IsFactOf c cycles name cycle bit target i a → IsFactOf c cycles name cycle bit target i b → a ≡ b
  one-fact name cycle bit target i a b p q =
      let cell : a.lit.cell ≡ b.lit.cell = one-cell name cycle a.lit.cell b.lit.cell p.cell q.cell in
      let bits : a.lit.bit ≡ b.lit.bit = p.is_bit ∙ sym q.is_bit in
      let lit : a.lit ≡ b.lit = ap (λ (x : Cell). let l : Lit = record { cell = x; bit = a.lit.bit } in l) cell ∙ ap (λ x. let l : Lit = record { cell = b.lit.cell; bit = x } in l) bits in
      let place : a.place ≡ b.place =
      ap (λ n. let s : Place = record { cycle = n; target = a.place.target } in s) (p.place.is_cycle ∙ sym q.place.is_cycle)
      ∙ ap (λ s. let r : Place = record { cycle = b.place.cycle; target = s } in r) (one-signal c target a.place.target b.place.target circuit p.place.named q.place.named) in
      ap (λ (x : Lit). let f : Fact = record { lit = x; place = a.place } in f) lit ∙ ap (λ (x : Place). let f : Fact = record { lit = b.lit; place = x } in f) place

  one-meaning : (form : LineForm) (a b : Claim) → Means c cycles form a → Means c cycles form b → a ≡ b
  one-meaning (FactLine n k x t i) (Forced a) (Forced b) p q = ap Forced (one-fact n k x t i a b p q)
  one-meaning (FactLine n k x t i) (Forced a) End p q = absurd q
  one-meaning (FactLine n k x t i) (Forced a) (Contradiction b) p q = absurd q
  one-meaning (FactLine n k x t i) End b p q = absurd p
  one-meaning (FactLine n k x t i) (Contradiction a) b p q = absurd p
  one-meaning EndLine (Forced a) b p q = absurd p
  one-meaning EndLine End (Forced b) p q = absurd q
  one-meaning EndLine End End p q = refl
  one-meaning EndLine End (Contradiction b) p q = absurd q
  one-meaning EndLine (Contradiction a) b p q = absurd p
  one-meaning (ContradictionLine n k) (Forced a) b p q = absurd p
  one-meaning (ContradictionLine n k) End b p q = absurd p
  one-meaning (ContradictionLine n k) (Contradiction a) (Forced b) p q = absurd q
  one-meaning (ContradictionLine n k) (Contradiction a) End p q = absurd q
  one-meaning (ContradictionLine n k) (Contradiction a) (Contradiction b) p q = ap Contradiction (one-cell n k a b p q)

  pub means-again : (text : List ℕ) (form : LineForm) (claim : Claim) → AreTokensOf (tokens_of text) form → States c cycles text claim → Means c cycles form claim
  means-again text form claim has states = subst (λ f. Means c cycles f claim) (one-form (tokens_of text) states.form form states.has_form has) states.means

  pub one-claim : (text : List ℕ) (a b : Claim) → States c cycles text a → States c cycles text b → a ≡ b
  one-claim text a b p q = one-meaning q.form a b (means-again text q.form a q.has_form p) q.means
