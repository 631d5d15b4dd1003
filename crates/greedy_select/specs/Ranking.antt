-- What is kept from pick to pick.
use Rattle.std.specs.Prelude.{◌≡◌, ◌≢◌, ◌+◌, ◌↔◌, List, [], ◌∷◌, ◌++◌, Some, length, map}
use Rattle.std.specs.List.{AllPairs, Contains}
use Rattle.sr_model.specs.declared.cells.Sig.{Sig}
use Rattle.sr_model.specs.Closure.{SameLits}
use Rattle.sr_model.specs.Dump.{Known}
use Rattle.sr_model.specs.Netlist.{Valuation}
use Rattle.netlist.specs.Circuit.{Circuit}
use Rattle.netlist.specs.Wiring.{flip_flops}
use Rattle.unroll.specs.Problem.{Unrolling, unrolled}
use Rattle.cycle_sim.specs.Simulation.{traced_rows}
use Rattle.known_planes.specs.Counts.{known_count}
use Rattle.known_planes.specs.Planes.{PlaneSet, IsOf, has, lits}
use Rattle.greedy_select.specs.declared.picks.Pick.{Pick}
use Rattle.greedy_select.specs.declared.ranking.Ranking.{Ranking}
use Rattle.greedy_select.specs.declared.tracing.Candidate.{Candidate}
use Rattle.greedy_select.specs.Picks.{AreGreedy, AreKnown, IsLeft}

-- the planes have exactly what is known from the trace of these signals, with the mark at it
pub record HasKnown (u : Unrolling) (v : Valuation) (sigs : List Sig) (planes : PlaneSet) : Type 0 where
  pub of : IsOf u planes
  pub mark : planes.mark ≡ Some planes.words
  pub known : SameLits (lits u planes) (Known (unrolled u) (traced_rows v u.cycles sigs))

-- with the trace of a candidate, beside those that the planes are of, so many more flip-flop cells are known
abbrev pub Gains : Unrolling → Valuation → PlaneSet → Candidate → Type 0
Gains u v planes candidate =
    (sigs : List Sig) → HasKnown u v sigs planes → AreKnown u.circuit u.cycles v (sigs ++ candidate.sig ∷ []) (known_count u.circuit u.cycles (has u planes) + candidate.gained)

-- these are the flip-flops that are left, each once
pub record AreLeft (c : Circuit) (picked sigs : List Sig) : Type 0 where
  pub exact : (s : Sig) → Contains sigs s ↔ IsLeft c picked s
  pub once : AllPairs (λ a b. a ≢ b) sigs
  pub count : length picked + length sigs ≡ length (flip_flops c.drivers)

-- the flip-flops of picks, in their order
abbrev pub sigs_of : List Pick → List Sig
sigs_of picks = map (λ pick. pick.sig) picks

-- the picks so far are greedy; what is known from them and which flip-flops are left is as it should be
pub record IsRanking (u : Unrolling) (v : Valuation) (r : Ranking) : Type 0 where
  pub known : HasKnown u v (sigs_of r.picks.items) r.planes
  pub left : AreLeft u.circuit (sigs_of r.picks.items) r.left.items
  pub greedy : AreGreedy u.circuit u.cycles v [] r.picks.items
