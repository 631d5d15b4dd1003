-- The best of signals, one after another.
use Rattle.std.proofs.Common.{Ordering, ℕ, ◌≡◌, ◌+◌, ◌<◌, ◌≤◌, ◌⊎◌, true, List, [], ◌∷◌, ◌++◌, get_or, length, take, Less, Equal, Greater, arith, inl, inr, refl, sym, ap, subst, ◌∙◌}
use Rattle.std.specs.Cmp.Lexicographic.{slice_cmp}
use Rattle.std.specs.Ordering.{is_lt, nat_cmp}
use Rattle.std.specs.List.{Contains}
use Rattle.std.proofs.lemmas.Bool.{cases_lt, false≢true}
use Rattle.std.proofs.lemmas.Cmp.{nat_list_cmp_total, tied_itself}
use Rattle.std.proofs.lemmas.List.{take_all, take_more}
use Rattle.std.proofs.lemmas.List.Elements.{Contains-append_left, Contains-push, Contains-push_cases}
use Rattle.sr_model.specs.declared.cells.Sig.{Sig}
use Rattle.sr_model.specs.Netlist.{Valuation}
use Rattle.sr_model.proofs.lemmas.Members.{not_in_nil}
use Rattle.netlist.specs.Circuit.{Circuit}
use Rattle.unroll.specs.Problem.{Unrolling}
use Rattle.known_planes.specs.Counts.{known_count}
use Rattle.known_planes.specs.Planes.{PlaneSet, has}
use Rattle.greedy_select.specs.declared.tracing.Candidate.{Candidate}
use Rattle.greedy_select.specs.Ranking.{Gains, HasKnown}
use Rattle.greedy_select.specs.Picks.{AreKnown, IsBest, IsNameBefore}
use Rattle.greedy_select.proofs.Counting.{one-count}

less-is : (o : Ordering) → is_lt o ≡ true → o ≡ Less
less-is Less holds = refl
less-is Equal holds = absurd (false≢true holds)
less-is Greater holds = absurd (false≢true holds)

-- the name of a signal
abbrev pub name : Circuit → Sig → List ℕ
name c s = get_or c.names s.0 []

-- no name is less than itself
not-itself : (c : Circuit) (s : Sig) → IsNameBefore c s s → ⊥
not-itself c s before = false≢true (sym (ap is_lt (tied_itself nat_list_cmp_total (name c s))) ∙ before)

before-then : (c : Circuit) (r s t : Sig) → IsNameBefore c r s → IsNameBefore c s t → IsNameBefore c r t
before-then c r s t first second =
    ap is_lt (nat_list_cmp_total.trans (name c r) (name c s) (name c t) (less-is (slice_cmp nat_cmp (name c r) (name c s)) first) (less-is (slice_cmp nat_cmp (name c s) (name c t)) second))

module _ (c : Circuit) (cycles : ℕ) (v : Valuation) (picked : List Sig) where
  same : (s t : Sig) (a b : ℕ) → s ≡ t → AreKnown c cycles v (picked ++ s ∷ []) a → AreKnown c cycles v (picked ++ t ∷ []) b → b ≡ a
  same s t a b e first second = one-count c cycles v (picked ++ t ∷ []) b a second (subst (λ x. AreKnown c cycles v (picked ++ x ∷ []) a) e first)

  -- the one signal that there is
  pub best-one : (s : Sig) (count : ℕ) → AreKnown c cycles v (picked ++ s ∷ []) count → IsBest c cycles v picked (Contains (s ∷ [])) s count
  best-one s count known = record {
    among = Contains-push [] s;
    known = known;
    most = λ t other h other_known. let e : other ≡ count = same s t count other (it s t h) known other_known in omega (arith, e);
    least = λ t h t_known before. not-itself c s (subst (λ x. IsNameBefore c x s) (sym (it s t h)) before);
  }
    where
      it : (s t : Sig) → Contains (s ∷ []) t → s ≡ t
      it s t h = elim (Contains-push_cases [] s t h) [ inl none ↦ absurd (not_in_nil t none) | inr e ↦ e ]

  module _ (xs : List Sig) (best : Sig) (count : ℕ) (before : IsBest c cycles v picked (Contains xs) best count) (x : Sig) (found : ℕ) (known : AreKnown c cycles v (picked ++ x ∷ []) found) where
    -- a better one
    pub better : (count < found) ⊎ ((found ≡ count) × IsNameBefore c x best) → IsBest c cycles v picked (Contains (xs ++ x ∷ [])) x found
    better why = record {
      among = Contains-push xs x;
      known = known;
      most = λ t other h other_known.
          elim (Contains-push_cases xs x t h) [
            | inl earlier ↦ let few : other ≤ count = before.most t other earlier other_known in let more : count ≤ found = no-less why in omega (arith, few, more)
            | inr it ↦ let e : other ≡ found = same x t found other it known other_known in omega (arith, e)
          ];
      least = λ t h t_known first.
          elim (Contains-push_cases xs x t h) [
            | inl earlier ↦
                elim why [
                  | inl more ↦ let few : found ≤ count = before.most t found earlier t_known in absurd (omega (arith, few, more))
                  | inr (e, name) ↦ before.least t earlier (subst (AreKnown c cycles v (picked ++ t ∷ [])) e t_known) (before-then c t x best first name)
                ]
            | inr it ↦ not-itself c x (subst (λ y. IsNameBefore c y x) (sym it) first)
          ];
    }
      where
        no-less : (count < found) ⊎ ((found ≡ count) × IsNameBefore c x best) → count ≤ found
        no-less (inl more) = omega (arith, more)
        no-less (inr (e, name)) = omega (arith, e)

    -- one that is no better
    pub no-better : ((count < found) ⊎ ((found ≡ count) × IsNameBefore c x best) → ⊥) → IsBest c cycles v picked (Contains (xs ++ x ∷ [])) best count
    no-better why = record {
      among = Contains-append_left xs (x ∷ []) best before.among;
      known = before.known;
      most = λ t other h other_known.
          elim (Contains-push_cases xs x t h) [
            | inl earlier ↦ before.most t other earlier other_known
            | inr it ↦ let e : other ≡ found = same x t found other it known other_known in elim (cases_lt count found) [ inl more ↦ absurd (why (inl more)) | inr few ↦ omega (arith, e, few) ]
          ];
      least = λ t h t_known first.
          elim (Contains-push_cases xs x t h) [
            | inl earlier ↦ before.least t earlier t_known first
            | inr it ↦ why (inr (sym (same x t found count it known t_known), subst (λ y. IsNameBefore c y best) (sym it) first))
          ];
    }

-- the best of the first signals is known, and the planes are what they were
pub record IsChosen (u : Unrolling) (v : Valuation) (planes : PlaneSet) (sigs : List Sig) (next place : ℕ) (best : Candidate) (now : PlaneSet) : Type 0 where
  pub same : now ≡ planes
  pub early : place < next
  pub sig : best.sig ≡ get_or sigs place (record { 0 = 0 })
  pub is_best : (picked : List Sig) → HasKnown u v picked planes
      → IsBest u.circuit u.cycles v picked (Contains (take next sigs)) best.sig (known_count u.circuit u.cycles (has u planes) + best.gained)

module _ (u : Unrolling) (v : Valuation) (planes : PlaneSet) (sigs : List Sig) where
  pub chosen-first : (first : Candidate) (now : PlaneSet) → 0 < length sigs → first.sig ≡ get_or sigs 0 (record { 0 = 0 }) → now ≡ planes → Gains u v planes first → IsChosen u v planes sigs 1 0 first now
  chosen-first first now some sig same gains = record {
    same = same;
    early = omega arith;
    sig = sig;
    is_best = λ picked has_known.
        subst (λ xs. IsBest u.circuit u.cycles v picked (Contains xs) first.sig (known_count u.circuit u.cycles (has u planes) + first.gained))
        (ap (λ s. s ∷ []) sig ∙ sym (take_more sigs 0 (record { 0 = 0 }) some))
        (best-one u.circuit u.cycles v picked first.sig (known_count u.circuit u.cycles (has u planes) + first.gained) (gains picked has_known));
  }

  module _ (next place : ℕ) (best : Candidate) (now after : PlaneSet) (other : Candidate) (h : next < length sigs) (sig : other.sig ≡ get_or sigs next (record { 0 = 0 }))
      (same : after ≡ now) (gains : Gains u v now other) (before : IsChosen u v planes sigs next place best now) where
    here : Gains u v planes other
    here = subst (λ p. Gains u v p other) before.same gains

    more : take (next + 1) sigs ≡ take next sigs ++ other.sig ∷ []
    more = take_more sigs next (record { 0 = 0 }) h ∙ ap (λ s. take next sigs ++ s ∷ []) (sym sig)

    pub chosen-better : (place_now : ℕ) (best_now : Candidate) → place_now ≡ next → best_now ≡ other → (best.gained < other.gained) ⊎ ((other.gained ≡ best.gained) × IsNameBefore u.circuit other.sig best.sig)
        → IsChosen u v planes sigs (next + 1) place_now best_now after
    chosen-better place_now best_now place_is best_is why = subst (λ n. IsChosen u v planes sigs (next + 1) n best_now after) (sym place_is) (subst (λ b. IsChosen u v planes sigs (next + 1) next b after) (sym best_is) (record {
      same = same ∙ before.same;
      early = omega arith;
      sig = sig;
      is_best = λ picked has_known.
          subst (λ xs. IsBest u.circuit u.cycles v picked (Contains xs) other.sig (known_count u.circuit u.cycles (has u planes) + other.gained)) (sym more)
          (better u.circuit u.cycles v picked (take next sigs) best.sig (known_count u.circuit u.cycles (has u planes) + best.gained) (before.is_best picked has_known) other.sig
          (known_count u.circuit u.cycles (has u planes) + other.gained) (here picked has_known)
          (elim why [ inl higher ↦ inl (omega (arith, higher)) | inr (e, name) ↦ inr (ap (λ n. known_count u.circuit u.cycles (has u planes) + n) e, name) ]));
    }))

    pub chosen-before : (place_now : ℕ) (best_now : Candidate) → place_now ≡ place → best_now ≡ best → ((best.gained < other.gained) ⊎ ((other.gained ≡ best.gained) × IsNameBefore u.circuit other.sig best.sig) → ⊥)
        → IsChosen u v planes sigs (next + 1) place_now best_now after
    chosen-before place_now best_now place_is best_is why = subst (λ n. IsChosen u v planes sigs (next + 1) n best_now after) (sym place_is) (subst (λ b. IsChosen u v planes sigs (next + 1) place b after) (sym best_is) (record {
      same = same ∙ before.same;
      early = omega (arith, before.early);
      sig = before.sig;
      is_best = λ picked has_known.
          subst (λ xs. IsBest u.circuit u.cycles v picked (Contains xs) best.sig (known_count u.circuit u.cycles (has u planes) + best.gained)) (sym more)
          (no-better u.circuit u.cycles v picked (take next sigs) best.sig (known_count u.circuit u.cycles (has u planes) + best.gained) (before.is_best picked has_known) other.sig
          (known_count u.circuit u.cycles (has u planes) + other.gained) (here picked has_known)
          (λ so. why (elim so [ inl higher ↦ inl (omega (arith, higher)) | inr (e, name) ↦ inr (omega (arith, e), name) ])));
    }))

  pub chosen-last : (next place : ℕ) (best : Candidate) (now : PlaneSet) → length sigs ≤ next → IsChosen u v planes sigs next place best now
      → (picked : List Sig) → HasKnown u v picked planes → (count : ℕ) × IsBest u.circuit u.cycles v picked (Contains sigs) (get_or sigs place (record { 0 = 0 })) count
  chosen-last next place best now all chosen picked has_known = (
    known_count u.circuit u.cycles (has u planes) + best.gained,
    subst (λ s. IsBest u.circuit u.cycles v picked (Contains sigs) s (known_count u.circuit u.cycles (has u planes) + best.gained)) chosen.sig
        (subst (λ xs. IsBest u.circuit u.cycles v picked (Contains xs) best.sig (known_count u.circuit u.cycles (has u planes) + best.gained)) (take_all next sigs all) (chosen.is_best picked has_known)),
  )
