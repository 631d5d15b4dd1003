-- There is one line of a load netlist.
use Rattle.std.proofs.Common.{◌≡◌, ◌/◌, ◌<◌, ℕ, false, List, length, max, sym, ap, subst, ◌∙◌}
use Rattle.std.specs.List.{All}
use Rattle.std.proofs.lemmas.List.Elements.{All-take}
use Rattle.sr_model.specs.declared.cells.Sig.{Sig}
use Rattle.sr_model.specs.Dump.{Known, Row}
use Rattle.netlist.specs.Circuit.{Circuit, IsCircuit, unrolled_over}
use Rattle.netlist.specs.Wiring.{flip_flops}
use Rattle.netlist.proofs.lemmas.Laws.{statements_give_circuits}
use Rattle.ratio.specs.Ratio.{Counts}
use Rattle.cycle_sim.specs.Load.{IsLoadSize, load_statements}
use Rattle.cycle_sim.proofs.lemmas.Laws.{loads_are_netlists}
use Rattle.report.proofs.lemmas.Laws.{shown_within}
use Rattle.report.specs.Load.{load_line}
use Rattle.known_planes.specs.Counts.{known_count}
use Rattle.restore_program.specs.Loading.{AreCountsOf, IsLoadText, IsLoadTrace, load_circuit, load_cycles, load_traced}
use Rattle.restore_program.proofs.OneRun.{one_trace}
use Rattle.restore_program.proofs.SameTests.{same_test}

pub load_is_circuit : (number signals : ℕ) → IsLoadSize signals → IsCircuit (load_circuit number signals)
load_is_circuit number signals size =
    let netlist = loads_are_netlists number signals size in
    statements_give_circuits (load_statements number signals) netlist.0 netlist.1

pub traced_within : (c : Circuit) → All (λ (s : Sig). s.0 < length c.drivers) (load_traced c)
traced_within c = All-take (λ (s : Sig). s.0 < length c.drivers) (max 1 (length (flip_flops c.drivers) / 4)) (flip_flops c.drivers) (shown_within c false)

one_load_trace : (c : Circuit) (number : ℕ) (rows others : List Row) → IsCircuit c → IsLoadTrace c number rows → IsLoadTrace c number others → rows ≡ others
one_load_trace c number rows others is (v, first, e) (w, second, e_too) = e ∙ one_trace c number load_cycles v w (load_traced c) is first second (traced_within c) ∙ sym e_too

one_count : (c : Circuit) (rows : List Row) (a b : Counts) → AreCountsOf c rows a → AreCountsOf c rows b → a ≡ b
one_count c rows a b first second =
    let tests = same_test (Known (unrolled_over c load_cycles) rows) first.known second.known first.is_known second.is_known in
    let known : a.known ≡ b.known = first.known_is ∙ ap (known_count c load_cycles) tests ∙ sym second.known_is in
    let traced : a.traced ≡ b.traced = first.traced_is ∙ sym second.traced_is in
    ap (λ n. record { known = n; traced = a.traced }) known ∙ ap (λ n. record { known = b.known; traced = n }) traced

pub one_load_text : (number signals : ℕ) (text other : List ℕ) → IsLoadText number signals text → IsLoadText number signals other → text ≡ other
one_load_text number signals text other first second =
    let c : Circuit = load_circuit number signals in
    let rows = one_load_trace c number first.rows second.rows (load_is_circuit number signals first.size) first.trace second.trace in
    let counts : first.counts ≡ second.counts = one_count c second.rows first.counts second.counts (subst (λ rs. AreCountsOf c rs first.counts) rows first.counted) second.counted in
    first.text_is ∙ ap (load_line number signals (length (flip_flops c.drivers))) counts ∙ sym second.text_is
