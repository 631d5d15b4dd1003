-- There are as many greedy picks as there are flip-flops.
use Rattle.std.proofs.Common.{ℕ, zero, suc, ◌≡◌, ◌⊎◌, ◌+◌, ◌*◌, ◌<◌, ◌≤◌, List, [], ◌∷◌, ◌++◌, length, append-nil, append_assoc, arith, inl, inr, refl, sym, subst, ◌∙◌}
use Rattle.std.specs.Cmp.Lexicographic.{slice_cmp}
use Rattle.std.specs.List.{Contains, remove}
use Rattle.std.specs.Ordering.{is_lt, nat_cmp}
use Rattle.std.proofs.lemmas.Bool.{cases_Bool, cases_order, true≢false}
use Rattle.std.proofs.lemmas.List.Edits.{length-remove}
use Rattle.sr_model.specs.declared.cells.Sig.{Sig}
use Rattle.sr_model.specs.Dump.{dump_has}
use Rattle.sr_model.specs.Netlist.{Valuation}
use Rattle.sr_model.proofs.lemmas.Laws.{closure_test}
use Rattle.netlist.specs.Circuit.{Circuit, unrolled_over}
use Rattle.netlist.specs.Wiring.{flip_flops}
use Rattle.cycle_sim.specs.Simulation.{traced_rows}
use Rattle.known_planes.specs.Counts.{known_count}
use Rattle.greedy_select.specs.declared.picks.Pick.{Pick}
use Rattle.greedy_select.specs.Laws.{PicksExist}
use Rattle.greedy_select.specs.Picks.{AreGreedy, AreKnown, IsBest, IsNameBefore}
use Rattle.greedy_select.specs.Ranking.{AreLeft}
use Rattle.greedy_select.proofs.Choosing.{best-one, better, name, no-better}
use Rattle.greedy_select.proofs.Leaving.{best-left, left-all, left-more}

-- what is known from a trace is decided, and so how many cells are
count-of : (c : Circuit) (cycles : ℕ) (v : Valuation) (sigs : List Sig) → (count : ℕ) × AreKnown c cycles v sigs count
count-of c cycles v sigs =
    let test = closure_test (unrolled_over c cycles) (dump_has (traced_rows v cycles sigs)) in (known_count c cycles test.0, record { known = test.0; is_known = test.1; count_is = refl })

-- with it more are known, or as many and its name is less
abbrev IsBetter : Circuit → Sig → ℕ → Sig → ℕ → Type 0
IsBetter c s found best count = (count < found) ⊎ ((found ≡ count) × IsNameBefore c s best)

better-or-not : (c : Circuit) (s : Sig) (found : ℕ) (best : Sig) (count : ℕ) → IsBetter c s found best count ⊎ (IsBetter c s found best count → ⊥)
better-or-not c s found best count = elim (cases_order found count) [
  | inr (inl fewer) ↦ inr (λ so. elim so [ inl more ↦ omega (arith, fewer, more) | inr (e, first) ↦ omega (arith, fewer, e) ])
  | inr (inr more) ↦ inl (inl more)
  | inl same ↦ elim (cases_Bool (is_lt (slice_cmp nat_cmp (name c s) (name c best)))) [
    | inl first ↦ inl (inr (same, first))
    | inr last ↦ inr (λ so. elim so [ inl more ↦ omega (arith, same, more) | inr (e, first) ↦ true≢false (sym first ∙ last) ])
  ]
]

module _ (c : Circuit) (cycles : ℕ) (v : Valuation) (picked : List Sig) where
  -- one of these signals is the best
  abbrev HaveBest : List Sig → Type 0
  HaveBest sigs = (best : Sig) × (count : ℕ) × IsBest c cycles v picked (Contains sigs) best count

  best-with : (first later : List Sig) (best : Sig) (count : ℕ) → IsBest c cycles v picked (Contains first) best count → HaveBest (first ++ later)
  best-with first [] best count is = subst HaveBest (sym (append-nil first)) (best, count, is)
  best-with first (s ∷ later) best count is =
      let known = count-of c cycles v (picked ++ s ∷ []) in
      subst HaveBest (append_assoc first (s ∷ []) later) (elim (better-or-not c s known.0 best count) [
        | inl why ↦ best-with (first ++ s ∷ []) later s known.0 (better c cycles v picked first best count is s known.0 known.1 why)
        | inr why ↦ best-with (first ++ s ∷ []) later best count (no-better c cycles v picked first best count is s known.0 known.1 why)
      ])

  best-of : (sigs : List Sig) → 0 < length sigs → HaveBest sigs
  best-of [] some = absurd (omega (arith, some))
  best-of (s ∷ later) some = let known = count-of c cycles v (picked ++ s ∷ []) in best-with (s ∷ []) later s known.0 (best-one c cycles v picked s known.0 known.1)

-- so many picks of what is left
picks-from : (c : Circuit) (cycles : ℕ) (v : Valuation) (width : ℕ) (picked sigs : List Sig) → AreLeft c picked sigs → width ≤ length sigs
    → (picks : List Pick) × (length picks ≡ width) × AreGreedy c cycles v picked picks
picks-from c cycles v zero picked sigs left few = ([], refl, tt)
picks-from c cycles v (suc width) picked sigs left few =
    let (s, count, best) = best-of c cycles v picked sigs (omega (arith, few)) in
    let (place, within, at) = best.among in
    let (later, size, greedy) = picks-from c cycles v width (picked ++ s ∷ []) (remove sigs place) (left-more c picked sigs left place s within (sym at)) (omega (arith, few, length-remove sigs place within)) in
    let pick : Pick = record { sig = s; ratio = record { known = count; traced = (length picked + 1) * cycles } } in
    (pick ∷ later, omega (arith, size), (best-left c picked sigs left cycles v s count best, refl, greedy))

pub picks_exist : PicksExist
picks_exist c cycles v width few = picks-from c cycles v width [] (flip_flops c.drivers) (left-all c (flip_flops c.drivers) refl) few
