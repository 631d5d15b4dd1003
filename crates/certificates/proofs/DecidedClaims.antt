-- Behind some facts a claim is true or it is not.
use Rattle.std.proofs.Common.{Bool, true, false, List, refl, inl}
use Rattle.sr_model.specs.declared.cells.Lit.{Lit}
use Rattle.sr_model.specs.Closure.{ForcesAt, IsWithin, lit, passing}
use Rattle.sr_model.specs.Netlist.{Unrolled, instance_at}
use Rattle.sr_model.proofs.lemmas.Decisions.{Decided, decided_as, decided_both, decided_by, test_of, test_of-holds, test_of-true}
use Rattle.certificates.specs.declared.claim.Fact.{Fact}
use Rattle.certificates.specs.declared.claim.Claim.{Claim}
use Rattle.certificates.specs.declared.claim.Claim.TheVariants.{Forced, End, Contradiction}
use Rattle.certificates.specs.Validity.{Holds, with_facts}
use Rattle.certificates.proofs.Holding.{forces-more}
use Rattle.certificates.proofs.LogFacts.{known-or-not}

module _ (u : Unrolled) (base : Lit → Bool) (facts : List Fact) where
  known : Lit → Bool
  known l = test_of (with_facts (passing base) facts l) (known-or-not base facts l)

  within : IsWithin (passing known) (with_facts (passing base) facts)
  unfolding known
  within l h = test_of-holds (with_facts (passing base) facts l) (known-or-not base facts l) h

  around : IsWithin (with_facts (passing base) facts) (passing known)
  unfolding known
  around l h = test_of-true (with_facts (passing base) facts l) (known-or-not base facts l) h

  pub holds_or_not : (claim : Claim) → Decided (Holds u (with_facts (passing base) facts) claim)
  holds_or_not (Forced fact) =
      decided_as (ForcesAt u (passing known) fact.place fact.lit) (ForcesAt u (with_facts (passing base) facts) fact.place fact.lit)
      (forces-more u (passing known) (with_facts (passing base) facts) fact.place fact.lit within) (forces-more u (with_facts (passing base) facts) (passing known) fact.place fact.lit around)
      (decided_by u known fact.lit fact.place (instance_at u fact.place) refl)
  holds_or_not End = inl tt
  holds_or_not (Contradiction cell) =
      decided_both (with_facts (passing base) facts (lit cell false)) (with_facts (passing base) facts (lit cell true)) (known-or-not base facts (lit cell false)) (known-or-not base facts (lit cell true))
