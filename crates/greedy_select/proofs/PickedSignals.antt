-- What is picked is flip-flops of the netlist.
use Rattle.std.proofs.Common.{ℕ, ◌<◌, List, [], ◌∷◌, ◌++◌, length}
use Rattle.std.specs.List.{All, Contains}
use Rattle.std.proofs.lemmas.List.Elements.{All-cons, All-nil}
use Rattle.sr_model.specs.declared.cells.Sig.{Sig}
use Rattle.sr_model.specs.Netlist.{Valuation}
use Rattle.netlist.specs.Circuit.{Circuit}
use Rattle.netlist.specs.Wiring.{flip_flops}
use Rattle.greedy_select.specs.declared.picks.Pick.{Pick}
use Rattle.greedy_select.specs.Laws.{PicksAreFlipFlops, PicksAreSignals}
use Rattle.greedy_select.specs.Picks.{AreGreedy}
use Rattle.greedy_select.proofs.Leaving.{flip_flop-within}

-- whatever holds of the flip-flops holds of what is picked
picked-have : (c : Circuit) (P : Sig → Type 0) → ((s : Sig) → Contains (flip_flops c.drivers) s → P s) → (cycles : ℕ) (v : Valuation) (picked : List Sig) (picks : List Pick) → AreGreedy c cycles v picked picks
    → All (λ (pick : Pick). P pick.sig) picks
picked-have c P each cycles v picked [] greedy = All-nil (λ (pick : Pick). P pick.sig)
picked-have c P each cycles v picked (pick ∷ later) greedy =
    All-cons (λ (p : Pick). P p.sig) pick later (each pick.sig greedy.0.among.flip_flop) (picked-have c P each cycles v (picked ++ pick.sig ∷ []) later greedy.2)

pub picks_are_flip_flops : PicksAreFlipFlops
picks_are_flip_flops c cycles v picks greedy = picked-have c (Contains (flip_flops c.drivers)) (λ s h. h) cycles v [] picks greedy

pub picks_are_signals : PicksAreSignals
picks_are_signals c cycles v picks greedy = picked-have c (λ (s : Sig). s.0 < length c.drivers) (flip_flop-within c) cycles v [] picks greedy
