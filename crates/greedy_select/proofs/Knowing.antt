-- What is known with the trace of one signal more.
use Rattle.std.proofs.Common.{true, Result, Ok, Err, ℕ, ◌≡◌, ◌+◌, ◌||◌, Bool, false, List, [], ◌∷◌, ◌++◌, Some, arith, inl, inr, refl, sym, ap, subst, ◌∙◌}
use Rattle.std.specs.Prelude.{IfOk, IfSome}
use Rattle.std.proofs.lemmas.Bool.{or_cases, or_left, or_right, true≢false}
use Rattle.std.proofs.lemmas.List.{map-append}
use Rattle.std.proofs.lemmas.List.Folds.{list_any-append}
use Rattle.sr_model.specs.declared.cells.Cell.{Cell}
use Rattle.sr_model.specs.declared.cells.Sig.{Sig}
use Rattle.sr_model.specs.declared.cells.Lit.{Lit}
use Rattle.sr_model.specs.Closure.{Closure, HasBoth, IsWithin, LitSet, SameLits, lit, passing}
use Rattle.sr_model.specs.Dump.{Known, dump_has}
use Rattle.sr_model.specs.Netlist.{Unrolled, Valuation}
use Rattle.sr_model.proofs.lemmas.Laws.{closed, has_base, least, monotone, no_execution_has_both}
use Rattle.netlist.specs.Circuit.{IsCircuit}
use Rattle.unroll.specs.declared.words.PinWord.{PinWord}
use Rattle.unroll.specs.Problem.{Unrolling, unrolled}
use Rattle.cycle_sim.specs.Simulation.{traced_row, traced_rows}
use Rattle.cycle_sim.proofs.lemmas.Laws.{simulation_exists}
use Rattle.known_planes.specs.Counts.{known_count}
use Rattle.known_planes.specs.Planes.{PlaneSet, IsMarked, IsOf, back_at, has, lits, with_mark}
use Rattle.known_planes.specs.Rows.{row_has}
use Rattle.greedy_select.specs.Picks.{AreKnown}
use Rattle.greedy_select.specs.Ranking.{HasKnown}

same-then : (a b c : LitSet) → SameLits a b → SameLits b c → SameLits a c
same-then a b c first second = (λ l h. second.0 l (first.0 l h), λ l h. first.1 l (second.1 l h))

-- what is a closure is its own closure
pub closed-itself : (u : Unrolled) (base known : LitSet) → SameLits known (Closure u base) → SameLits known (Closure u known)
closed-itself u base known same = (has_base u known, λ l follows. same.1 l (least u known (Closure u base) (closed u base) same.0 l follows))

-- the closure of a closure with more is the closure of all
pub closure-more : (u : Unrolled) (base known added all : Lit → Bool) → SameLits (passing known) (Closure u (passing base)) → ((l : Lit) → all l ≡ (base l || added l))
    → SameLits (Closure u (passing (λ l. known l || added l))) (Closure u (passing all))
closure-more u base known added all same is = (
  least u (passing (λ l. known l || added l)) (Closure u (passing all)) (closed u (passing all)) (λ l h.
      elim (or_cases (known l) (added l) h) [
        | inl there ↦ monotone u (passing base) (passing all) (λ k given. is k ∙ or_left (base k) (added k) given) l (same.0 l there)
        | inr new ↦ has_base u (passing all) l (is l ∙ or_right (base l) (added l) new)
      ]),
  monotone u (passing all) (passing (λ l. known l || added l)) (λ l h.
      elim (or_cases (base l) (added l) (sym (is l) ∙ h)) [
        | inl given ↦ or_left (known l) (added l) (same.1 l (has_base u (passing base) l given))
        | inr new ↦ or_right (known l) (added l) new
      ]),
)

-- the literals of the traces of signals and of one more
trace-more : (v : Valuation) (cycles : ℕ) (sigs : List Sig) (s : Sig) (l : Lit)
    → dump_has (traced_rows v cycles (sigs ++ s ∷ [])) l ≡ (dump_has (traced_rows v cycles sigs) l || dump_has (traced_rows v cycles (s ∷ [])) l)
trace-more v cycles sigs s l =
    ap (λ rows. dump_has rows l) (map-append (traced_row v cycles) sigs (s ∷ [])) ∙ list_any-append _ (traced_rows v cycles sigs) (traced_rows v cycles (s ∷ []))

-- nothing is known without a trace but what follows from nothing
module _ (u : Unrolling) (empty planes : PlaneSet) (none : (l : Lit) → has u empty l ≡ false) where
  -- no cell has both literals there, since there is an execution
  none-both : IsCircuit u.circuit → (c : Cell) → HasBoth (Closure (unrolled u) (lits u empty)) c → ⊥
  none-both is c both =
      let run = simulation_exists u.circuit is u.cycles (λ cycle input. false) in
      no_execution_has_both (unrolled u) (lits u empty) c both run.0 run.1.execution (λ l h. absurd (true≢false (sym h ∙ none l)))

  pub known-untraced : IsCircuit u.circuit → IsWithin (lits u planes) (Closure (unrolled u) (lits u empty))
      → (((c : Cell) → HasBoth (lits u planes) c → ⊥) → SameLits (lits u planes) (Closure (unrolled u) (lits u empty))) → SameLits (lits u planes) (Known (unrolled u) [])
  known-untraced is within same =
      same-then (lits u planes) (Closure (unrolled u) (lits u empty)) (Known (unrolled u) [])
      (same (λ c both. none-both is c (within (lit c false) both.0, within (lit c true) both.1))) (
        monotone (unrolled u) (lits u empty) (passing (dump_has [])) (λ l h. absurd (true≢false (sym h ∙ none l))),
        monotone (unrolled u) (passing (dump_has [])) (lits u empty) (λ l h. absurd (true≢false (sym h))),
      )

-- where there is a result that is this and that
pub result-both : {X E : Type 0} (r : Result X E) (P Q S : X → Type 0) → ((x : X) → P x → Q x → S x) → IfOk r P → IfOk r Q → IfOk r S
result-both (Ok x) P Q S both p q = both x p q
result-both (Err e) P Q S both p q = tt

-- the planes with that, once they have a mark
pub known-none : (u : Unrolling) (v : Valuation) (planes marked : PlaneSet) → IsOf u planes → SameLits (lits u planes) (Known (unrolled u) []) → marked ≡ with_mark planes → HasKnown u v [] marked
known-none u v planes marked of same is =
    subst (HasKnown u v []) (sym is) (record {
      of = record { signals = of.signals; chunks = of.chunks; blocks = of.blocks; no_later = of.no_later };
      mark = refl;
      known = same;
    })

module _ (u : Unrolling) (v : Valuation) (sigs : List Sig) (s : Sig) (old : PlaneSet) (before : HasKnown u v sigs old) where
  -- the planes are closed
  pub are-closed : SameLits (lits u old) (Closure (unrolled u) (lits u old))
  are-closed = closed-itself (unrolled u) (passing (dump_has (traced_rows v u.cycles sigs))) (lits u old) before.known

  module _ (row : List PinWord) (trace : (l : Lit) → row_has u s row l ≡ dump_has (traced_rows v u.cycles (s ∷ [])) l) where
    all-known : SameLits (Closure (unrolled u) (passing (λ l. has u old l || row_has u s row l))) (Known (unrolled u) (traced_rows v u.cycles (sigs ++ s ∷ [])))
    all-known =
        closure-more (unrolled u) (dump_has (traced_rows v u.cycles sigs)) (has u old) (row_has u s row) (dump_has (traced_rows v u.cycles (sigs ++ s ∷ []))) before.known
        (λ l. trace-more v u.cycles sigs s l ∙ ap (λ b. dump_has (traced_rows v u.cycles sigs) l || b) (sym (trace l)))

    -- where the planes have the trace already, nothing more is known
    pub known-already : IsWithin (passing (row_has u s row)) (lits u old) → AreKnown u.circuit u.cycles v (sigs ++ s ∷ []) (known_count u.circuit u.cycles (has u old) + 0)
    known-already within = record {
      known = has u old;
      is_known = same-then (lits u old) (Closure (unrolled u) (passing (λ l. has u old l || row_has u s row l))) (Known (unrolled u) (traced_rows v u.cycles (sigs ++ s ∷ []))) (
        λ l h. has_base (unrolled u) (passing (λ k. has u old k || row_has u s row k)) l (or_left (has u old l) (row_has u s row l) h),
        λ l follows. are-closed.1 l (monotone (unrolled u) (passing (λ k. has u old k || row_has u s row k)) (lits u old) (λ k h. elim (or_cases (has u old k) (row_has u s row k) h) [ inl there ↦ there | inr new ↦ within k new ]) l follows),
      ) all-known;
      count_is = omega arith;
    }

    module _ (new : PlaneSet) (of : IsOf u new) (mark : new.mark ≡ old.mark) (closure : SameLits (lits u new) (Closure (unrolled u) (passing (λ l. has u old l || row_has u s row l)))) where
      new-known : SameLits (lits u new) (Known (unrolled u) (traced_rows v u.cycles (sigs ++ s ∷ [])))
      new-known = same-then (lits u new) (Closure (unrolled u) (passing (λ l. has u old l || row_has u s row l))) (Known (unrolled u) (traced_rows v u.cycles (sigs ++ s ∷ []))) closure all-known

      -- the planes can go back to what they had
      pub can-go-back : IsMarked u new
      can-go-back = record {
        words = old.words;
        mark = mark ∙ before.mark;
        of = record { signals = of.signals; chunks = of.chunks; blocks = before.of.blocks; no_later = before.of.no_later };
        within = λ l h. closure.1 l (has_base (unrolled u) (passing (λ k. has u old k || row_has u s row k)) l (or_left (has u old l) (row_has u s row l) h));
      }

      -- and then they are what they were
      pub gone-back : (after : PlaneSet) → IfSome new.mark (λ words. after ≡ back_at new words) → after ≡ old
      gone-back after is =
          subst (λ m. IfSome m (λ words. after ≡ back_at new words)) (mark ∙ before.mark) is
          ∙ ap (λ n. record { signals = n; chunks = new.chunks; words = old.words; mark = Some old.words }) (of.signals ∙ sym before.of.signals)
          ∙ ap (λ n. record { signals = old.signals; chunks = n; words = old.words; mark = Some old.words }) (of.chunks ∙ sym before.of.chunks)
          ∙ ap (λ m. record { signals = old.signals; chunks = old.chunks; words = old.words; mark = m }) (sym before.mark)

      pub known-more : (after : PlaneSet) (gained : ℕ) → IfSome new.mark (λ words. after ≡ back_at new words)
          → known_count u.circuit u.cycles (has u new) ≡ gained + known_count u.circuit u.cycles (has u after)
          → AreKnown u.circuit u.cycles v (sigs ++ s ∷ []) (known_count u.circuit u.cycles (has u old) + gained)
      known-more after gained back count =
          let same : known_count u.circuit u.cycles (has u after) ≡ known_count u.circuit u.cycles (has u old) = ap (λ p. known_count u.circuit u.cycles (has u p)) (gone-back after back) in
          record { known = has u new; is_known = new-known; count_is = omega (arith, count, same) }

      -- the mark moves to what is known now
      pub kept : (after : PlaneSet) → IfSome new.mark (λ _. after ≡ with_mark new) → HasKnown u v (sigs ++ s ∷ []) after
      kept after is =
          let moved : after ≡ with_mark new = subst (λ m. IfSome m (λ _. after ≡ with_mark new)) (mark ∙ before.mark) is in
          subst (HasKnown u v (sigs ++ s ∷ [])) (sym moved) (record {
            of = record { signals = of.signals; chunks = of.chunks; blocks = of.blocks; no_later = of.no_later };
            mark = refl;
            known = new-known;
          })
