-- The greedy ranking of flip-flops by what is known from their traces.
use Rattle.std.specs.Prelude.{ℕ, ◌≡◌, ◌≤◌, ◌+◌, ◌*◌, ⊤, Bool, List, [], ◌∷◌, ◌++◌, length, slice_index_or, IsTrue}
use Rattle.std.specs.Cmp.Lexicographic.{slice_cmp}
use Rattle.std.specs.List.{Contains}
use Rattle.std.specs.Ordering.{is_lt, nat_cmp}
use Rattle.sr_model.specs.declared.cells.Lit.{Lit}
use Rattle.sr_model.specs.declared.cells.Sig.{Sig}
use Rattle.sr_model.specs.Closure.{SameLits, passing}
use Rattle.sr_model.specs.Dump.{Known}
use Rattle.sr_model.specs.Netlist.{Valuation}
use Rattle.netlist.specs.Circuit.{Circuit, unrolled_over}
use Rattle.netlist.specs.Wiring.{flip_flops}
use Rattle.cycle_sim.specs.Simulation.{traced_rows}
use Rattle.known_planes.specs.Counts.{known_count}
use Rattle.greedy_select.specs.declared.picks.Pick.{Pick}

-- so many flip-flop cells are known from the trace of these signals
pub record AreKnown (c : Circuit) (cycles : ℕ) (v : Valuation) (sigs : List Sig) (count : ℕ) : Type 0 where
  pub known : Lit → Bool
  pub is_known : SameLits (passing known) (Known (unrolled_over c cycles) (traced_rows v cycles sigs))
  pub count_is : count ≡ known_count c cycles known

-- a flip-flop that is not picked
pub record IsLeft (c : Circuit) (picked : List Sig) (s : Sig) : Type 0 where
  pub flip_flop : Contains (flip_flops c.drivers) s
  pub not_picked : ¬ Contains picked s

-- the name of the one is less than that of the other, byte by byte
abbrev pub IsNameBefore : Circuit → Sig → Sig → Type 0
IsNameBefore c s t = IsTrue (is_lt (slice_cmp nat_cmp (slice_index_or c.names s.0 []) (slice_index_or c.names t.0 [])))

-- Of such signals, it is one with which and with the picked ones the most cells are known, so many; and of those, the one whose name is the least.
pub record IsBest (c : Circuit) (cycles : ℕ) (v : Valuation) (picked : List Sig) (Among : Sig → Type 0) (best : Sig) (count : ℕ) : Type 0 where
  pub among : Among best
  pub known : AreKnown c cycles v (picked ++ best ∷ []) count
  pub most : (s : Sig) (other : ℕ) → Among s → AreKnown c cycles v (picked ++ s ∷ []) other → other ≤ count
  pub least : (s : Sig) → Among s → AreKnown c cycles v (picked ++ s ∷ []) count → ¬ IsNameBefore c s best

-- behind these flip-flops each pick is the best of those that are left, with its count over the cells of all that are traced then
abbrev pub AreGreedy : Circuit → ℕ → Valuation → List Sig → List Pick → Type 0
AreGreedy c cycles v picked [] = ⊤
AreGreedy c cycles v picked (pick ∷ later) =
    IsBest c cycles v picked (IsLeft c picked) pick.sig pick.ratio.known × (pick.ratio.traced ≡ (length picked + 1) * cycles) × AreGreedy c cycles v (picked ++ pick.sig ∷ []) later
