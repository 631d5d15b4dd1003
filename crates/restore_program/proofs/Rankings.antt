-- The picks by the run that is drawn from a seed.
use Rattle.std.proofs.Common.{◌≡◌, ◌<◌, ℕ, Bool, [], length, Result, Ok, Err, refl, subst}
use Rattle.std.specs.List.{All}
use Rattle.std.specs.Prelude.{IfOk}
use Rattle.sr_model.specs.Room.{WithRoom}
use Rattle.sr_model.specs.Netlist.{Valuation}
use Rattle.netlist.specs.Circuit.{Circuit}
use Rattle.cycle_sim.specs.Drawing.{AreDrawn}
use Rattle.cycle_sim.specs.Simulation.{IsSimulated}
use Rattle.greedy_select.specs.declared.picks.Pick.{Pick}
use Rattle.greedy_select.specs.Picks.{AreGreedy}
use Rattle.greedy_select.proofs.lemmas.Laws.{picks_are_signals}
use Rattle.report.specs.Picks.{pick_lines}
use Rattle.restore_program.specs.Selecting.{IsRankingText}
use Rattle.restore_program.proofs.OneRun.{drawn_run}

module _ {E : Type 0} (c : Circuit) (width seed cycles count own : ℕ) (given : ℕ → ℕ → Bool) (v : Valuation) where
  pub ranking_text : (r : Result (WithRoom Pick) E) → count ≡ cycles → own ≡ cycles → AreDrawn seed (length c.inputs) cycles given → IsSimulated c count given v → IfOk r (λ picks. length picks.items ≡ width)
      → IfOk r (λ picks. AreGreedy c own v [] picks.items) → IfOk r (λ picks. IsRankingText c width cycles seed (pick_lines c.names picks.items))
  ranking_text (Ok picks) same own_same drawn sim width_is greedy = record {
    run = v;
    is_run = drawn_run c seed cycles count given v same drawn sim;
    picks = picks.items;
    width_is = width_is;
    greedy = subst (λ n. AreGreedy c n v [] picks.items) own_same greedy;
    text_is = refl;
  }
  ranking_text (Err e) same own_same drawn sim width_is greedy = tt

  pub ranking_signals : (r : Result (WithRoom Pick) E) → IfOk r (λ picks. AreGreedy c own v [] picks.items) → IfOk r (λ picks. All (λ (pick : Pick). pick.sig.0 < length c.drivers) picks.items)
  ranking_signals (Ok picks) greedy = picks_are_signals c own v picks.items greedy
  ranking_signals (Err e) greedy = tt
