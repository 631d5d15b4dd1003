-- A netlist has one ranking by the run that is drawn from a seed.
use Rattle.std.proofs.Common.{◌≡◌, ◌≤◌, ◌<◌, ℕ, List, length, refl, sym, ap, ◌∙◌, arith}
use Rattle.sr_model.specs.Limits.{block_count, max_blocks}
use Rattle.netlist.specs.Circuit.{Circuit, IsCircuit}
use Rattle.netlist.specs.Wiring.{flip_flops}
use Rattle.cycle_sim.specs.Drawing.{drawn_bit}
use Rattle.cycle_sim.proofs.lemmas.Laws.{simulations_agree}
use Rattle.greedy_select.proofs.lemmas.Laws.{picks_agree}
use Rattle.report.specs.Picks.{pick_lines}
use Rattle.restore_program.specs.declared.status.Status.{Status}
use Rattle.restore_program.specs.declared.status.Status.TheVariants as statuses
use Rattle.restore_program.specs.Selecting.{HasWidth, IsRankingText, OnSelect, ranked, too_many_cells, width_over}
use Rattle.restore_program.proofs.OneTrace.{one_refused_count, refused-or-few}

module _ (c : Circuit) (width cycles seed : ℕ) where
  one_ranking_text : (text other : List ℕ) → IsCircuit c → IsRankingText c width cycles seed text → IsRankingText c width cycles seed other → text ≡ other
  one_ranking_text text other is first second =
      let agree = simulations_agree c is cycles (drawn_bit seed (length c.inputs)) (drawn_bit seed (length c.inputs)) (λ cycle input early at. refl) first.run second.run first.is_run second.is_run in
      let same : first.picks ≡ second.picks = picks_agree c is cycles first.run second.run agree first.picks second.picks (first.width_is ∙ sym second.width_is) first.greedy second.greedy in
      first.text_is ∙ ap (pick_lines c.names) same ∙ sym second.text_is

  -- no flip-flops are both enough and not
  wide-or-narrow : length (flip_flops c.drivers) < width → ¬ HasWidth c width
  wide-or-narrow less has = omega (arith, less, has)

  pub one_on_select : (text other : List ℕ) (status last : Status) → IsCircuit c → OnSelect c width cycles seed text status → OnSelect c width cycles seed other last → (text ≡ other) × (status ≡ last)
  one_on_select text other status last is (width_over less) (width_over again) = (refl, refl)
  one_on_select text other status last is (width_over less) (too_many_cells _ _ has _) = absurd (wide-or-narrow less has)
  one_on_select text other status last is (width_over less) (ranked _ has _ _) = absurd (wide-or-narrow less has)
  one_on_select text other status last is (too_many_cells _ _ has _) (width_over less) = absurd (wide-or-narrow less has)
  one_on_select text other status last is (too_many_cells _ _ _ refused) (too_many_cells _ _ _ again) = one_refused_count (length c.drivers) cycles text other status last refused again
  one_on_select text other status last is (too_many_cells _ _ _ refused) (ranked _ _ few _) = absurd (refused-or-few (length c.drivers) cycles text status few refused)
  one_on_select text other status last is (ranked _ has _ _) (width_over less) = absurd (wide-or-narrow less has)
  one_on_select text other status last is (ranked _ _ few _) (too_many_cells _ _ _ refused) = absurd (refused-or-few (length c.drivers) cycles other last few refused)
  one_on_select text other status last is (ranked t _ _ ranking) (ranked u _ _ again) = (one_ranking_text t u is ranking again, refl)

  -- with so many flip-flops and few enough cells
  pub ranked_done : (text : List ℕ) (status : Status) → HasWidth c width → block_count (length c.drivers) cycles ≤ max_blocks → OnSelect c width cycles seed text status → status ≡ statuses.Done
  ranked_done text status has few (width_over less) = absurd (wide-or-narrow less has)
  ranked_done text status has few (too_many_cells _ _ _ refused) = absurd (refused-or-few (length c.drivers) cycles text status few refused)
  ranked_done text status has few (ranked _ _ _ _) = refl
