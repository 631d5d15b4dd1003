-- What is written of a ranking of flip-flops.
use Rattle.std.specs.Prelude.{ℕ, ◌≡◌, ◌<◌, ◌≤◌, List, [], length}
use Rattle.sr_model.specs.Limits.{block_count, max_blocks}
use Rattle.sr_model.specs.Netlist.{Valuation}
use Rattle.netlist.specs.Circuit.{Circuit}
use Rattle.netlist.specs.Wiring.{flip_flops}
use Rattle.greedy_select.specs.declared.picks.Pick.{Pick}
use Rattle.greedy_select.specs.Picks.{AreGreedy}
use Rattle.report.specs.Picks.{pick_lines}
use Rattle.report.specs.Refusals.{width_over_line}
use Rattle.restore_program.specs.declared.status.Status.{Status}
use Rattle.restore_program.specs.declared.status.Status.TheVariants as statuses
use Rattle.restore_program.specs.Tracing.{IsDrawnRun, RefusedCells}

-- there are so many flip-flops
abbrev pub HasWidth : Circuit → ℕ → Type 0
HasWidth c width = width ≤ length (flip_flops c.drivers)

-- the text is the lines of so many picks by the drawn run
pub record IsRankingText (c : Circuit) (width cycles seed : ℕ) (text : List ℕ) : Type 0 where
  pub run : Valuation
  pub is_run : IsDrawnRun c seed cycles run
  pub picks : List Pick
  pub width_is : length picks ≡ width
  pub greedy : AreGreedy c cycles run [] picks
  pub text_is : text ≡ pick_lines c.names picks

-- on a netlist, so many flip-flops, so many cycles and a seed
pub data OnSelect (c : Circuit) (width cycles seed : ℕ) : List ℕ → Status → Type 0 where
  width_over : length (flip_flops c.drivers) < width → OnSelect c width cycles seed (width_over_line (length (flip_flops c.drivers))) statuses.Words
  too_many_cells : (text : List ℕ) (status : Status) → HasWidth c width → RefusedCells (length c.drivers) cycles text status → OnSelect c width cycles seed text status
  ranked : (text : List ℕ) → HasWidth c width → block_count (length c.drivers) cycles ≤ max_blocks → IsRankingText c width cycles seed text → OnSelect c width cycles seed text statuses.Done
