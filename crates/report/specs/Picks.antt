-- What is written of picks of flip-flops.
use Rattle.std.specs.Prelude.{ℕ, List, [], ◌++◌, codes, get_or}
use Rattle.std.specs.List.{flat_map}
use Rattle.std.specs.Fmt.{decimal}
use Rattle.ratio.specs.Ratio.{in_thousandths}
use Rattle.greedy_select.specs.declared.picks.Pick.{Pick}
use Rattle.report.specs.Table.{ratio_text}

-- the name of a pick, how many flip-flop cells are known with it and those before it, how many of these are traced, and the ratio
abbrev pub pick_line : List (List ℕ) → Pick → List ℕ
pick_line names pick =
    get_or names pick.sig.0 [] ++ codes " " ++ decimal pick.ratio.known ++ codes "/" ++ decimal pick.ratio.traced ++ codes " " ++ ratio_text (in_thousandths pick.ratio.known pick.ratio.traced) ++ codes "\n"

-- a line for each pick
abbrev pub pick_lines : List (List ℕ) → List Pick → List ℕ
pick_lines names picks = flat_map (pick_line names) picks
