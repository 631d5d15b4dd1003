-- There is one list of so many greedy picks: the same bits on all cells make the same picks.
use Rattle.std.proofs.Common.{Ordering, ℕ, ◌≡◌, ◌<◌, ◌≤◌, true, Some, List, [], ◌∷◌, ◌++◌, length, Less, Equal, Greater, arith, refl, sym, ap, subst, ◌∙◌}
use Rattle.std.specs.Cmp.Lexicographic.{slice_cmp}
use Rattle.std.specs.List.{All}
use Rattle.std.specs.Ordering.{is_lt, nat_cmp, ordering_reverse}
use Rattle.std.proofs.lemmas.Cmp.{nat_list_cmp_total}
use Rattle.std.proofs.lemmas.List.Elements.{All-nil, All-push}
use Rattle.std.proofs.lemmas.Map.Lookups.{exact_bytes}
use Rattle.std.proofs.lemmas.Option.{slice_get-get_or}
use Rattle.sr_model.specs.declared.cells.Sig.{Sig}
use Rattle.sr_model.specs.Closure.{SameLits, passing}
use Rattle.sr_model.specs.Dump.{Known}
use Rattle.sr_model.specs.Netlist.{Valuation}
use Rattle.netlist.specs.Circuit.{Circuit, IsCircuit, unrolled_over}
use Rattle.cycle_sim.specs.Simulation.{AgreeOnCells}
use Rattle.cycle_sim.proofs.lemmas.Laws.{traces_agree}
use Rattle.greedy_select.specs.declared.picks.Pick.{Pick}
use Rattle.greedy_select.specs.Laws.{PicksAgree}
use Rattle.greedy_select.specs.Picks.{AreGreedy, AreKnown, IsBest, IsLeft, IsNameBefore}
use Rattle.greedy_select.proofs.Choosing.{name}
use Rattle.greedy_select.proofs.Leaving.{flip_flop-within}

-- ---- the same bits make the same rankings

-- these are signals of the netlist
abbrev AreSignals : Circuit → List Sig → Type 0
AreSignals c sigs = All (λ (s : Sig). s.0 < length c.drivers) sigs

known-agrees : (c : Circuit) (cycles : ℕ) (v w : Valuation) → AgreeOnCells c cycles v w → (sigs : List Sig) (count : ℕ) → AreSignals c sigs → AreKnown c cycles v sigs count → AreKnown c cycles w sigs count
known-agrees c cycles v w agree sigs count within known = record {
  known = known.known;
  is_known = subst (λ rows. SameLits (passing known.known) (Known (unrolled_over c cycles) rows)) (traces_agree c cycles v w agree sigs within) known.is_known;
  count_is = known.count_is;
}

module _ (c : Circuit) (cycles : ℕ) (v w : Valuation) (agree : AgreeOnCells c cycles v w) where
  one-more : (picked : List Sig) (s : Sig) → AreSignals c picked → IsLeft c picked s → AreSignals c (picked ++ s ∷ [])
  one-more picked s within left = All-push (λ (t : Sig). t.0 < length c.drivers) picked s within (flip_flop-within c s left.flip_flop)

  best-agrees : (picked : List Sig) (best : Sig) (count : ℕ) → AreSignals c picked → IsBest c cycles v picked (IsLeft c picked) best count → IsBest c cycles w picked (IsLeft c picked) best count
  best-agrees picked best count within is = record {
    among = is.among;
    known = known-agrees c cycles v w agree (picked ++ best ∷ []) count (one-more picked best within is.among) is.known;
    most = λ s other left known. is.most s other left (back s other left known);
    least = λ s left known. is.least s left (back s count left known);
  }
    where
      back : (s : Sig) (n : ℕ) → IsLeft c picked s → AreKnown c cycles w (picked ++ s ∷ []) n → AreKnown c cycles v (picked ++ s ∷ []) n
      back s n left known = known-agrees c cycles w v (λ cell here early. sym (agree cell here early)) (picked ++ s ∷ []) n (one-more picked s within left) known

  greedy-agrees : (picked : List Sig) (picks : List Pick) → AreSignals c picked → AreGreedy c cycles v picked picks → AreGreedy c cycles w picked picks
  greedy-agrees picked [] within greedy = tt
  greedy-agrees picked (pick ∷ later) within greedy = (
    best-agrees picked pick.sig pick.ratio.known within greedy.0,
    greedy.1,
    greedy-agrees (picked ++ pick.sig ∷ []) later (one-more picked pick.sig within greedy.0.among) greedy.2,
  )

-- ---- and of one run there is one

-- of two names neither of which is less than the other
same-name : (a b : List ℕ) (o : Ordering) → slice_cmp nat_cmp a b ≡ o → (is_lt (slice_cmp nat_cmp a b) ≡ true → ⊥) → (is_lt (slice_cmp nat_cmp b a) ≡ true → ⊥) → a ≡ b
same-name a b Less is first second = absurd (first (ap is_lt is))
same-name a b Equal is first second = exact_bytes a b is
same-name a b Greater is first second = absurd (second (ap is_lt (nat_list_cmp_total.antisymm b a ∙ ap ordering_reverse is)))

same-pick : (p q : Pick) → p.sig ≡ q.sig → p.ratio.known ≡ q.ratio.known → p.ratio.traced ≡ q.ratio.traced → p ≡ q
same-pick p q sig known traced = λ i. record { sig = sig i; ratio = record { known = known i; traced = traced i } }

module _ (c : Circuit) (is : IsCircuit c) where
  -- no two signals have one name
  same-sig : (s t : Sig) → s.0 < length c.drivers → t.0 < length c.drivers → ¬ IsNameBefore c s t → ¬ IsNameBefore c t s → s ≡ t
  same-sig s t s_in t_in first second =
      let here : s.0 < length c.names = omega (arith, s_in, is.one_name_each) in
      let there : t.0 < length c.names = omega (arith, t_in, is.one_name_each) in
      let one : name c s ≡ name c t = same-name (name c s) (name c t) (slice_cmp nat_cmp (name c s) (name c t)) refl first second in
      ap (λ n. record { 0 = n }) (is.distinct s.0 t.0 (name c t) (slice_get-get_or c.names s.0 [] here ∙ ap Some one) (slice_get-get_or c.names t.0 [] there))

  module _ (cycles : ℕ) (v : Valuation) where
    one-best : (picked : List Sig) (s t : Sig) (a b : ℕ) → IsBest c cycles v picked (IsLeft c picked) s a → IsBest c cycles v picked (IsLeft c picked) t b → (s ≡ t) × (a ≡ b)
    one-best picked s t a b first second =
        let low : b ≤ a = first.most t b second.among second.known in
        let high : a ≤ b = second.most s a first.among first.known in
        let count : a ≡ b = omega (arith, low, high) in (
          same-sig s t (flip_flop-within c s first.among.flip_flop) (flip_flop-within c t second.among.flip_flop)
              (second.least s first.among (subst (AreKnown c cycles v (picked ++ s ∷ [])) count first.known))
              (first.least t second.among (subst (AreKnown c cycles v (picked ++ t ∷ [])) (sym count) second.known)),
          count,
        )

    one-greedy : (picked : List Sig) (picks others : List Pick) → length picks ≡ length others → AreGreedy c cycles v picked picks → AreGreedy c cycles v picked others → picks ≡ others
    one-greedy picked [] [] size first second = refl
    one-greedy picked [] (other ∷ others) size first second = absurd (omega (arith, size))
    one-greedy picked (pick ∷ picks) [] size first second = absurd (omega (arith, size))
    one-greedy picked (pick ∷ picks) (other ∷ others) size first second =
        let best = one-best picked pick.sig other.sig pick.ratio.known other.ratio.known first.0 second.0 in
        let here : pick ≡ other = same-pick pick other best.0 best.1 (first.1 ∙ sym second.1) in
        let later : picks ≡ others = one-greedy (picked ++ pick.sig ∷ []) picks others (omega (arith, size)) first.2 (subst (λ s. AreGreedy c cycles v (picked ++ s ∷ []) others) (sym best.0) second.2) in
        λ i. here i ∷ later i

pub picks_agree : PicksAgree
picks_agree c is cycles v w agree picks others size first second = one-greedy c is cycles w [] picks others size (greedy-agrees c cycles v w agree [] picks (All-nil (λ (s : Sig). s.0 < length c.drivers)) first) second
