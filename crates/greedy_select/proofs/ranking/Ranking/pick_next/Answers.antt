use Rattle.std.proofs.Common.{ℕ, ◌+◌, ◌*◌, ◌≤◌, ◌<◌, List, length, get_or, arith, sym, subst, ap, ◌∙◌}
use Rattle.std.specs.List.{All, Contains}
use Rattle.std.proofs.lemmas.List.Elements.{All-get_or}
use Rattle.std.proofs.lemmas.List.{get_or_default}
use Rattle.std.proofs.lemmas.Result.{on_ok_weaker}
use Rattle.sr_model.specs.declared.cells.Sig.{Sig}
use Rattle.netlist.specs.Wiring.{flip_flops}
use Rattle.unroll.specs.Problem.{signals_in}
use Rattle.cycle_sim.specs.Simulation.{bits_of}
use Rattle.greedy_select.specs.Picks.{IsBest}
use Rattle.greedy_select.specs.Ranking.{HasKnown, sigs_of}
use Rattle.greedy_select.proofs.Counting.{few-flip_flops}
use Rattle.greedy_select.proofs.Leaving.{left-within, ranking-more}
use Rattle.greedy_select.proofs.ranking.Ranking.pick_next.Goals as goal

pub best-requires-clause-signals : goal.best-requires-clause-signals
best-requires-clause-signals g c κs lives =
    subst (All (λ (s : Sig). s.0 < signals_in c.args.tracing.now.p)) (sym c.as_slice-left.ensures.value) (left-within c.args.tracing.now.p.circuit (sigs_of c.args.self.now.picks.items) c.args.self.now.left.items c.requires.ranking.left)

pub add-requires-clause-signal : goal.add-requires-clause-signal
add-requires-clause-signal g c κs lives =
    let within : c.in_ok-place.place < length c.args.self.now.left.items = subst (λ (xs : List Sig). c.in_ok-place.place < length xs) c.as_slice-left.ensures.value c.in_ok-place.ensures.place in
    subst (λ (s : Sig). s.0 < signals_in c.args.tracing.now.p) (sym c.remove-sig.ensures.value)
    (All-get_or (λ (s : Sig). s.0 < signals_in c.args.tracing.now.p) c.args.self.now.left.items c.in_ok-place.place c.remove-sig.result within
    (left-within c.args.tracing.now.p.circuit (sigs_of c.args.self.now.picks.items) c.args.self.now.left.items c.requires.ranking.left))

pub overflow_add-len : goal.overflow_add-len
overflow_add-len g c =
    let few : length (flip_flops c.args.tracing.now.p.circuit.drivers) ≤ length c.args.tracing.now.p.circuit.drivers = few-flip_flops c.args.tracing.now.p.circuit.drivers in
    let signals : length c.args.tracing.now.p.circuit.drivers ≤ 65536 = c.args.tracing.now.few_signals in
    omega (arith, c.len.ensures, c.requires.left)

pub ratio-ratio-requires-clause-of : goal.ratio-ratio-requires-clause-of
ratio-ratio-requires-clause-of g c =
    (c.in_ok-add.ensures (sigs_of c.args.self.now.picks.items)
    (subst (HasKnown c.args.tracing.now.p (bits_of c.args.tracing.now.e.now) (sigs_of c.args.self.now.picks.items)) (sym c.in_ok-place.ensures.planes) c.requires.ranking.known)).of

pub returns-clause-ranking : goal.returns-clause-ranking
returns-clause-ranking g c =
    on_ok_weaker c.push.result (λ pushed.
    let within : c.in_ok-place.place < length c.args.self.now.left.items = subst (λ (xs : List Sig). c.in_ok-place.place < length xs) c.as_slice-left.ensures.value c.in_ok-place.ensures.place in
    let best : (count : ℕ) × IsBest c.args.tracing.now.p.circuit c.args.tracing.now.p.cycles (bits_of c.args.tracing.now.e.now) (sigs_of c.args.self.now.picks.items) (Contains c.as_slice-left.result.now)
    (get_or c.as_slice-left.result.now c.in_ok-place.place (record { 0 = 0 })) count = c.in_ok-place.ensures.best (sigs_of c.args.self.now.picks.items) c.requires.ranking.known in
    ranking-more c.args.tracing.now.p (bits_of c.args.tracing.now.e.now) c.args.self.now _ c.requires.ranking c.in_ok-place.place (record { sig = c.remove-sig.result; ratio = c.ratio-ratio.result }) within
    c.remove-sig.ensures.value best.0
    (subst (λ (s : Sig). IsBest c.args.tracing.now.p.circuit c.args.tracing.now.p.cycles (bits_of c.args.tracing.now.e.now) (sigs_of c.args.self.now.picks.items) (Contains c.args.self.now.left.items) s best.0)
    (get_or_default c.args.self.now.left.items c.in_ok-place.place (record { 0 = 0 }) c.remove-sig.result within ∙ sym c.remove-sig.ensures.value)
    (subst (λ (xs : List Sig). IsBest c.args.tracing.now.p.circuit c.args.tracing.now.p.cycles (bits_of c.args.tracing.now.e.now) (sigs_of c.args.self.now.picks.items) (Contains xs)
    (get_or xs c.in_ok-place.place (record { 0 = 0 })) best.0) c.as_slice-left.ensures.value best.1))
    (c.in_ok-add.ensures (sigs_of c.args.self.now.picks.items)
    (subst (HasKnown c.args.tracing.now.p (bits_of c.args.tracing.now.e.now) (sigs_of c.args.self.now.picks.items)) (sym c.in_ok-place.ensures.planes) c.requires.ranking.known))
    pushed c.remove-sig.ensures.items c.ratio-ratio.ensures.known
    (c.ratio-ratio.ensures.traced ∙ ap (λ n. (n + 1) * c.args.tracing.now.p.cycles) c.len.ensures)) c.push.ensures.ok
