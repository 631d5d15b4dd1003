-- The flip-flops that are left, and the picks so far.
use Rattle.std.proofs.Common.{ℕ, ◌≡◌, ◌≢◌, ◌+◌, ◌-◌, ◌*◌, ◌<◌, List, [], ◌∷◌, ◌++◌, length, get_or, append_assoc, arith, inl, inr, refl, sym, ap, subst, ◌∙◌}
use Rattle.std.specs.List.{All, AllPairs, Contains, remove}
use Rattle.std.proofs.lemmas.Bool.{cases_order, cases_lt}
use Rattle.std.proofs.lemmas.List.{get_or_default, length-map, length_push, map-append}
use Rattle.std.proofs.lemmas.List.Edits.{get_or-remove_above, get_or-remove_below, length-remove}
use Rattle.std.proofs.lemmas.List.Elements.{Contains-append_left, Contains-push, Contains-push_cases}
use Rattle.std.proofs.lemmas.List.FromFn.{get_or-map-range_with_len, length-map-range_with_len}
use Rattle.std.proofs.lemmas.List.Kept.{AllPairs-filter}
use Rattle.std.proofs.lemmas.List.Quantifiers.{all_pairs_remove}
use Rattle.sr_model.specs.declared.cells.Sig.{Sig}
use Rattle.sr_model.specs.Netlist.{Valuation}
use Rattle.sr_model.proofs.lemmas.Members.{All-from_Contains, filter-member, not_in_nil}
use Rattle.netlist.specs.Circuit.{Circuit}
use Rattle.netlist.specs.Wiring.{driver_at, flip_flops, is_flip_flop, signals_below}
use Rattle.netlist.proofs.lemmas.Signals.{signal_within}
use Rattle.unroll.specs.Problem.{Unrolling}
use Rattle.known_planes.specs.Counts.{known_count}
use Rattle.known_planes.specs.Planes.{has}
use Rattle.greedy_select.specs.declared.picks.Pick.{Pick}
use Rattle.greedy_select.specs.declared.ranking.Ranking.{Ranking}
use Rattle.greedy_select.specs.Picks.{AreGreedy, IsBest, IsLeft}
use Rattle.greedy_select.specs.Ranking.{AreLeft, HasKnown, IsRanking, sigs_of}
use Rattle.greedy_select.proofs.Counting.{one-count}

-- the signals below a number are once each
signals-once : (n : ℕ) → AllPairs (λ a b. a ≢ b) (signals_below n)
signals-once n i j d before within same =
    let size : length (signals_below n) ≡ n = length-map-range_with_len (λ s. record { 0 = s }) 0 n in
    let first : get_or (signals_below n) i d ≡ record { 0 = i } = get_or-map-range_with_len (λ s. record { 0 = s }) 0 n i i d (omega (arith, before, within, size)) (omega arith) in
    let second : get_or (signals_below n) j d ≡ record { 0 = j } = get_or-map-range_with_len (λ s. record { 0 = s }) 0 n j j d (omega (arith, within, size)) (omega arith) in
    let numbers : i ≡ j = ap (λ (s : Sig). s.0) (sym first ∙ same ∙ second) in
    omega (arith, before, numbers)

-- all flip-flops are left where none is picked
pub left-all : (c : Circuit) (sigs : List Sig) → sigs ≡ flip_flops c.drivers → AreLeft c [] sigs
left-all c sigs all = subst (AreLeft c []) (sym all) (record {
  exact = λ s. (λ h. record { flip_flop = h; not_picked = not_in_nil s }, λ left. left.flip_flop);
  once = AllPairs-filter (λ a b. a ≢ b) (λ s. is_flip_flop (driver_at c.drivers s.0)) (signals_below (length c.drivers)) (signals-once (length c.drivers));
  count = omega arith;
})

-- a flip-flop is a signal
pub flip_flop-within : (c : Circuit) (s : Sig) → Contains (flip_flops c.drivers) s → s.0 < length c.drivers
flip_flop-within c s h = signal_within (length c.drivers) s (filter-member (λ t. is_flip_flop (driver_at c.drivers t.0)) (signals_below (length c.drivers)) s h)

module _ (c : Circuit) (picked sigs : List Sig) (left : AreLeft c picked sigs) where
  -- they are signals
  pub left-within : All (λ (s : Sig). s.0 < length c.drivers) sigs
  left-within = All-from_Contains (λ (s : Sig). s.0 < length c.drivers) sigs (λ s h. flip_flop-within c s ((left.exact s).0 h).flip_flop)

  -- the best of them
  pub best-left : (cycles : ℕ) (v : Valuation) (s : Sig) (count : ℕ) → IsBest c cycles v picked (Contains sigs) s count → IsBest c cycles v picked (IsLeft c picked) s count
  best-left cycles v s count best = record {
    among = (left.exact s).0 best.among;
    known = best.known;
    most = λ t other h known. best.most t other ((left.exact t).1 h) known;
    least = λ t h known. best.least t ((left.exact t).1 h) known;
  }

  module _ (place : ℕ) (s : Sig) (within : place < length sigs) (is : s ≡ get_or sigs place s) where
    -- one more is picked
    pub left-more : AreLeft c (picked ++ s ∷ []) (remove sigs place)
    left-more = record {
      exact = λ t. (stays t, kept t);
      once = all_pairs_remove (λ a b. a ≢ b) sigs place within left.once;
      count = omega (arith, left.count, length_push picked s, length-remove sigs place within);
    }
      where
        size : length (remove sigs place) + 1 ≡ length sigs
        size = length-remove sigs place within

        -- another place has another signal
        other : (t : Sig) (k : ℕ) → k < length sigs → k ≢ place → get_or sigs k t ≡ t → s ≢ t
        other t k k_in apart at same =
            let here : get_or sigs place t ≡ t = get_or_default sigs place t s within ∙ sym is ∙ same in
            elim (cases_order k place) [
              | inl e ↦ apart e
              | inr (inl before) ↦ left.once k place t before within (at ∙ sym here)
              | inr (inr behind) ↦ left.once place k t behind k_in (here ∙ sym at)
            ]

        found : (t : Sig) (k : ℕ) → k < length sigs → k ≢ place → get_or sigs k t ≡ t → IsLeft c (picked ++ s ∷ []) t
        found t k k_in apart at =
            let was : IsLeft c picked t = (left.exact t).0 (k, k_in, at) in
            record {
              flip_flop = was.flip_flop;
              not_picked = λ h. elim (Contains-push_cases picked s t h) [ inl before ↦ was.not_picked before | inr same ↦ other t k k_in apart at same ];
            }

        stays : (t : Sig) → Contains (remove sigs place) t → IsLeft c (picked ++ s ∷ []) t
        stays t (k, k_in, at) =
            elim (cases_lt k place) [
              | inl before ↦ found t k (omega (arith, before, within)) (λ e. omega (arith, before, e)) (sym (get_or-remove_below sigs place t k before within) ∙ at)
              | inr behind ↦ found t (k + 1) (omega (arith, k_in, size)) (λ e. omega (arith, behind, e)) (sym (get_or-remove_above sigs place t k behind within) ∙ at)
            ]

        kept : (t : Sig) → IsLeft c (picked ++ s ∷ []) t → Contains (remove sigs place) t
        kept t still =
            let (k, k_in, at) = (left.exact t).1 (record { flip_flop = still.flip_flop; not_picked = λ h. still.not_picked (Contains-append_left picked (s ∷ []) t h) }) in
            elim (cases_order k place) [
              | inl e ↦
                  let same : s ≡ t = is ∙ get_or_default sigs place s t within ∙ ap (λ n. get_or sigs n t) (sym e) ∙ at in
                  absurd (still.not_picked (subst (Contains (picked ++ s ∷ [])) same (Contains-push picked s)))
              | inr (inl before) ↦ (k, omega (arith, before, within, size), get_or-remove_below sigs place t k before within ∙ at)
              | inr (inr behind) ↦ (k - 1, omega (arith, behind, k_in, size), get_or-remove_above sigs place t (k - 1) (omega (arith, behind)) within ∙ ap (λ n. get_or sigs n t) (back k place behind) ∙ at)
            ]
          where
            back : (a b : ℕ) → b < a → a - 1 + 1 ≡ a
            back a b h = omega (arith, h)

no-more : (xs : List Sig) → xs ++ [] ≡ xs
no-more [] = refl
no-more (x ∷ xs) = ap (λ ys. x ∷ ys) (no-more xs)

-- a pick more
pub greedy-more : (c : Circuit) (cycles : ℕ) (v : Valuation) (picked : List Sig) (picks : List Pick) (pick : Pick) → AreGreedy c cycles v picked picks
    → IsBest c cycles v (picked ++ sigs_of picks) (IsLeft c (picked ++ sigs_of picks)) pick.sig pick.ratio.known → pick.ratio.traced ≡ (length (picked ++ sigs_of picks) + 1) * cycles
    → AreGreedy c cycles v picked (picks ++ pick ∷ [])
greedy-more c cycles v picked [] pick greedy best traced = (
  subst (λ xs. IsBest c cycles v xs (IsLeft c xs) pick.sig pick.ratio.known) (no-more picked) best,
  subst (λ xs. pick.ratio.traced ≡ (length xs + 1) * cycles) (no-more picked) traced,
  tt,
)
greedy-more c cycles v picked (first ∷ picks) pick greedy best traced = (
  greedy.0,
  greedy.1,
  greedy-more c cycles v (picked ++ first.sig ∷ []) picks pick greedy.2
      (subst (λ xs. IsBest c cycles v xs (IsLeft c xs) pick.sig pick.ratio.known) (sym (append_assoc picked (first.sig ∷ []) (sigs_of picks))) best)
      (subst (λ xs. pick.ratio.traced ≡ (length xs + 1) * cycles) (sym (append_assoc picked (first.sig ∷ []) (sigs_of picks))) traced),
)

module _ (u : Unrolling) (v : Valuation) (old new : Ranking) (before : IsRanking u v old) (place : ℕ) (pick : Pick) (within : place < length old.left.items)
    (is : pick.sig ≡ get_or old.left.items place pick.sig) (count : ℕ) (best : IsBest u.circuit u.cycles v (sigs_of old.picks.items) (Contains old.left.items) pick.sig count)
    (known : HasKnown u v (sigs_of old.picks.items ++ pick.sig ∷ []) new.planes) (picks : new.picks.items ≡ old.picks.items ++ pick ∷ []) (left : new.left.items ≡ remove old.left.items place)
    (known_is : pick.ratio.known ≡ known_count u.circuit u.cycles (has u new.planes)) (traced_is : pick.ratio.traced ≡ (length old.picks.items + 1) * u.cycles) where
  sigs : sigs_of new.picks.items ≡ sigs_of old.picks.items ++ pick.sig ∷ []
  sigs = ap sigs_of picks ∙ map-append (λ (p : Pick). p.sig) old.picks.items (pick ∷ [])

  count_is : count ≡ pick.ratio.known
  count_is = one-count u.circuit u.cycles v (sigs_of old.picks.items ++ pick.sig ∷ []) count pick.ratio.known best.known (record { known = has u new.planes; is_known = known.known; count_is = known_is })

  pub ranking-more : IsRanking u v new
  ranking-more = record {
    known = subst (λ xs. HasKnown u v xs new.planes) (sym sigs) known;
    left = subst (λ xs. AreLeft u.circuit xs new.left.items) (sym sigs) (subst (AreLeft u.circuit (sigs_of old.picks.items ++ pick.sig ∷ [])) (sym left) (left-more u.circuit (sigs_of old.picks.items) old.left.items before.left place pick.sig within is));
    greedy = subst (AreGreedy u.circuit u.cycles v []) (sym picks) (greedy-more u.circuit u.cycles v [] old.picks.items pick before.greedy
        (best-left u.circuit (sigs_of old.picks.items) old.left.items before.left u.cycles v pick.sig pick.ratio.known (subst (IsBest u.circuit u.cycles v (sigs_of old.picks.items) (Contains old.left.items) pick.sig) count_is best))
        (traced_is ∙ ap (λ n. (n + 1) * u.cycles) (sym (length-map old.picks.items (λ (p : Pick). p.sig)))));
  }

-- two problems of one netlist over as many cycles
pub same-problem : (n : Circuit) (cycles count : ℕ) (p u : Unrolling) → p ≡ record { circuit = n; cycles = cycles } → cycles ≡ count → u ≡ record { circuit = n; cycles = count } → p ≡ u
same-problem n cycles count p u is same other = is ∙ ap (λ k. record { circuit = n; cycles = k }) same ∙ sym other

-- no pick yet
pub ranking-none : (u : Unrolling) (v : Valuation) (r : Ranking) → HasKnown u v [] r.planes → r.picks.items ≡ [] → r.left.items ≡ flip_flops u.circuit.drivers → IsRanking u v r
ranking-none u v r known none all = record {
  known = subst (λ xs. HasKnown u v (sigs_of xs) r.planes) (sym none) known;
  left = subst (λ xs. AreLeft u.circuit (sigs_of xs) r.left.items) (sym none) (left-all u.circuit r.left.items all);
  greedy = subst (AreGreedy u.circuit u.cycles v []) (sym none) tt;
}
