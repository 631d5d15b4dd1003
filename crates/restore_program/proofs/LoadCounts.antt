-- The trace of a load netlist, and what is counted of it.
use Rattle.std.proofs.Common.{◌≡◌, ◌<◌, ℕ, false, List, length, take, sym, subst, ◌∙◌, arith}
use Rattle.std.specs.List.{All, AllPairs}
use Rattle.std.proofs.lemmas.List.{get_or-take, length-take}
use Rattle.std.proofs.lemmas.List.Elements.{All-take}
use mathlib.Core.Path.{fun_ext}
use Rattle.sr_model.specs.declared.cells.Lit.{Lit}
use Rattle.sr_model.specs.declared.cells.Sig.{Sig}
use Rattle.sr_model.specs.Closure.{Closure, SameLits}
use Rattle.sr_model.specs.Dump.{Known, Row, dump_has}
use Rattle.netlist.specs.Circuit.{Circuit, unrolled_over}
use Rattle.netlist.specs.Wiring.{flip_flops}
use Rattle.unroll.specs.Problem.{Unrolling, unrolled}
use Rattle.known_planes.specs.Planes.{PlaneSet, has, lits}
use Rattle.ratio.specs.Ratio.{Counts}
use Rattle.report.proofs.lemmas.Laws.{shown_once, shown_within}
use Rattle.known_planes.specs.Counts.{known_count}
use Rattle.restore_program.specs.Loading.{AreCountsOf}
use Rattle.restore_program.proofs.Answering.{known_from}

pub counted_by : (u : Unrolling) (rows : List Row) (base known : PlaneSet) (counts : Counts) → u.cycles ≡ 256 → ((l : Lit) → has u base l ≡ dump_has rows l) → SameLits (lits u known) (Closure (unrolled u) (lits u base))
    → counts.known ≡ known_count u.circuit u.cycles (has u known) → counts.traced ≡ known_count u.circuit u.cycles (has u base) → AreCountsOf u.circuit rows counts
counted_by u rows base known counts long each closure known_is traced_is = record {
  known = has u known;
  is_known = subst (λ n. SameLits (lits u known) (Known (unrolled_over u.circuit n) rows)) long (known_from (unrolled u) rows (has u base) (lits u known) each closure);
  known_is = subst (λ n. counts.known ≡ known_count u.circuit n (has u known)) long known_is;
  traced_is = subst (λ test. counts.traced ≡ known_count u.circuit 256 test) (fun_ext each) (subst (λ n. counts.traced ≡ known_count u.circuit n (has u base)) long traced_is);
}

-- the first flip-flops
pub first_within : (c : Circuit) (n : ℕ) (all : List Sig) → all ≡ flip_flops c.drivers → All (λ (s : Sig). s.0 < length c.drivers) (take n all)
first_within c n all is = All-take (λ (s : Sig). s.0 < length c.drivers) n all (subst (All (λ (s : Sig). s.0 < length c.drivers)) (sym is) (shown_within c false))

pub first_once : (c : Circuit) (n : ℕ) (all : List Sig) → all ≡ flip_flops c.drivers → AllPairs (λ (a b : Sig). ¬ (a ≡ b)) (take n all)
first_once c n all is i j d less within same =
    let long : j < length all = omega (arith, within, length-take n all) in
    let early : j < n = omega (arith, within, length-take n all) in
    subst (AllPairs (λ a b. ¬ (a ≡ b))) (sym is) (shown_once c false) i j d less long (sym (get_or-take n all i d (omega (arith, less, early))) ∙ same ∙ get_or-take n all j d early)
