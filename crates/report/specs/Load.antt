-- What is written of a load netlist.
use Rattle.std.specs.Prelude.{ℕ, List, ◌++◌, codes}
use Rattle.std.specs.Fmt.{decimal}
use Rattle.ratio.specs.Ratio.{Counts, in_thousandths}
use Rattle.report.specs.Table.{ratio_text}

-- the number that it was drawn from, how many signals and flip-flops it has, how many flip-flop cells were traced and are known, and their ratio
abbrev pub load_line : (number signals flip_flops : ℕ) → Counts → List ℕ
load_line number signals flip_flops counts =
    codes "load number " ++ decimal number ++ codes " signals " ++ decimal signals ++ codes " flip_flops " ++ decimal flip_flops ++ codes " traced " ++ decimal counts.traced ++ codes " known "
    ++ decimal counts.known ++ codes " ratio " ++ ratio_text (in_thousandths counts.known counts.traced) ++ codes "\n"
