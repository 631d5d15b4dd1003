-- What a valid certificate says follows from the dump.
use Rattle.std.proofs.Common.{List, [], ◌∷◌, ◌++◌, sym, subst, inl, inr, append_assoc}
use Rattle.std.proofs.lemmas.List.{append-nil}
use Rattle.sr_model.specs.Netlist.{Unrolled}
use Rattle.sr_model.specs.Closure.{Closure, IsWithin, LitSet, passing}
use Rattle.sr_model.specs.Dump.{dump_has}
use Rattle.sr_model.proofs.lemmas.Laws.{closed, has_base, no_execution_has_both, sound}
use Rattle.sr_model.proofs.lemmas.Members.{not_in_nil}
use Rattle.netlist.specs.Circuit.{Circuit, unrolled_over}
use Rattle.dump_reader.specs.Recording.{Recording}
use Rattle.certificates.specs.declared.claim.Fact.{Fact}
use Rattle.certificates.specs.Laws.{ClashIsKnown, ContradictionExcludes, FactsAreKnown, FactsAreSound}
use Rattle.certificates.specs.Validity.{AreForced, known_by, with_facts}
use Rattle.certificates.proofs.Holding.{forces-more, in-more-cases}

all-follow : (u : Unrolled) (base : LitSet) (earlier facts : List Fact) → IsWithin (with_facts base earlier) (Closure u base) → AreForced u base earlier facts → IsWithin (with_facts base (earlier ++ facts)) (Closure u base)
all-follow u base earlier [] within forced = λ l h. within l (subst (λ (fs : List Fact). with_facts base fs l) (append-nil earlier) h)
all-follow u base earlier (fact ∷ facts) within forced =
    let follows : Closure u base fact.lit = closed u base fact.lit (fact.place, forces-more u (with_facts base earlier) (Closure u base) fact.place fact.lit within forced.0) in
    let more : IsWithin (with_facts base (earlier ++ fact ∷ [])) (Closure u base) =
    λ l h. elim (in-more-cases base earlier fact l h) [ inl before ↦ within l before | inr same ↦ subst (Closure u base) same follows ] in
    λ l h. all-follow u base (earlier ++ fact ∷ []) facts more forced.1 l (subst (λ (fs : List Fact). with_facts base fs l) (sym (append_assoc earlier (fact ∷ []) facts)) h)

module _ (c : Circuit) (d : Recording) (facts : List Fact) (forced : AreForced (unrolled_over c d.cycles) (passing (dump_has d.rows)) [] facts) where
  abbrev u : Unrolled
  u = unrolled_over c d.cycles

  abbrev base : LitSet
  base = passing (dump_has d.rows)

  known-follow : IsWithin (known_by d facts) (Closure u base)
  known-follow = all-follow u base [] facts (λ l h. elim h [ inl known ↦ has_base u base l known | inr stated ↦ absurd (not_in_nil l stated) ]) forced

pub facts_known : FactsAreKnown
facts_known c d text facts clash l h stated = known-follow c d facts h.complete.facts_stated.forced l (inr stated)

pub clash_known : ClashIsKnown
clash_known c d text facts cell h =
    let all = known-follow c d facts h.complete.facts_stated.forced in
    (all _ h.complete.holds.0, all _ h.complete.holds.1)

pub facts_sound : FactsAreSound
facts_sound c d text facts clash l v h stated runs matches = sound (unrolled_over c d.cycles) (passing (dump_has d.rows)) v runs matches l (facts_known c d text facts clash l h stated)

pub excludes : ContradictionExcludes
excludes c d text facts cell v h runs matches = no_execution_has_both (unrolled_over c d.cycles) (passing (dump_has d.rows)) cell (clash_known c d text facts cell h) v runs matches
