-- The text of a table: what is known of each shown signal in each cycle, and how many flip-flop cells are known.
use Rattle.std.specs.Prelude.{ℕ, Bool, true, false, List, ◌++◌, map, length, codes, Option, Some, None, if◌then◌else◌}
use Rattle.std.specs.List.{range_with_len}
use Rattle.std.specs.Fmt.{decimal}
use Rattle.sr_model.specs.declared.cells.Sig.{Sig}
use Rattle.sr_model.specs.declared.cells.Lit.{Lit}
use Rattle.sr_model.specs.Netlist.{cell_at}
use Rattle.sr_model.specs.Closure.{lit}
use Rattle.sr_model.specs.Dump.{Row}
use Rattle.sr_text.specs.Numbers.{thousandths}
use Rattle.netlist.specs.Circuit.{Circuit}
use Rattle.netlist.specs.Wiring.{flip_flops, signals_below}
use Rattle.dump_reader.specs.Recording.{Recording}
use Rattle.dump_reader.specs.Print.{printed}
use Rattle.known_planes.specs.Counts.{known_count}
use Rattle.ratio.specs.Ratio.{in_thousandths}

-- the bit that is known of a cell, if one is
abbrev pub known_bit : (Lit → Bool) → ℕ → Sig → Option Bool
known_bit known cycle sig =
    if known (lit (cell_at cycle sig) false) then Some false
    else (if known (lit (cell_at cycle sig) true) then Some true else None)

-- what is known of a signal, cycle by cycle
abbrev pub known_row : (Lit → Bool) → ℕ → Sig → Row
known_row known cycles sig = record { sig = sig; bits = map (λ t. known_bit known t sig) (range_with_len 0 cycles) }

-- the signals of a table, in ascending number: all, or the flip-flops alone
abbrev pub shown : Circuit → Bool → List Sig
shown c all = if all then signals_below (length c.drivers) else flip_flops c.drivers

abbrev pub known_rows : Circuit → ℕ → (Lit → Bool) → Bool → Recording
known_rows c cycles known all = record { cycles = cycles; rows = map (known_row known cycles) (shown c all) }

-- a ratio in thousandths, or that there is none
abbrev pub ratio_text : Option ℕ → List ℕ
ratio_text (Some ratio) = thousandths ratio
ratio_text None = codes "-"

-- how many flip-flop cells were traced and are known, and their ratio; the line is a comment of a dump
abbrev pub ratio_line : (traced known : ℕ) → List ℕ
ratio_line traced known = codes "# traced " ++ decimal traced ++ codes " known " ++ decimal known ++ codes " ratio " ++ ratio_text (in_thousandths known traced) ++ codes "\n"

-- the rows are printed as a dump, and the ratio line follows
abbrev pub table_text : Circuit → ℕ → (Lit → Bool) → (traced : ℕ) → (all : Bool) → List ℕ
table_text c cycles known traced all = printed c.names (known_rows c cycles known all) ++ ratio_line traced (known_count c cycles known)
