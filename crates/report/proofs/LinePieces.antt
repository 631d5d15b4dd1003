-- The pieces of the lines of refusals and of contradictions.
use Rattle.std.proofs.Common.{◌≡◌, ℕ, List, [], ◌++◌, get_or, Option, None, Some, refl, sym, ap, ◌∙◌, append_assoc}
use Rattle.std.proofs.lemmas.List.{append-nil}
use Rattle.std.specs.Prelude.{codes}
use Rattle.std.specs.Fmt.{decimal}
use Rattle.sr_model.specs.declared.cells.Cell.{Cell}
use Rattle.netlist.specs.Circuit.{Circuit}
use Rattle.ratio.specs.Ratio.{Counts, in_thousandths}
use Rattle.report.specs.Check.{accepted_line, checked_text}
use Rattle.report.specs.Clash.{clash_line}
use Rattle.report.specs.declared.refusal.Part.TheVariants as parts
use Rattle.report.specs.InputRefusals.{refused_line}
use Rattle.greedy_select.specs.declared.picks.Pick.{Pick}
use Rattle.report.specs.Load.{load_line}
use Rattle.report.specs.Picks.{pick_line}
use Rattle.report.specs.Table.{ratio_text}

-- the pieces of the lines of refusals
pub cells_joined : (line product : ℕ) (digits more : List ℕ) → digits ≡ decimal line → more ≡ decimal product
    → codes "srestore: dump line " ++ (digits ++ (codes ": 17 too many cells " ++ (more ++ (codes "\n" ++ [])))) ≡ refused_line parts.Dump line (codes ": 17 too many cells " ++ decimal product ++ codes "\n")
cells_joined line product digits more same_line same_product =
    ap (λ d. codes "srestore: dump line " ++ (d ++ (codes ": 17 too many cells " ++ (more ++ (codes "\n" ++ []))))) same_line
    ∙ ap (λ m. codes "srestore: dump line " ++ (decimal line ++ (codes ": 17 too many cells " ++ (m ++ (codes "\n" ++ []))))) same_product
    ∙ simp append_assoc

pub loop_joined : (count : ℕ) (name digits : List ℕ) → digits ≡ decimal count
    → codes "srestore: netlist: 9 loop " ++ (name ++ (codes " " ++ (digits ++ (codes "\n" ++ [])))) ≡ codes "srestore: netlist: 9 loop " ++ name ++ codes " " ++ decimal count ++ codes "\n"
loop_joined count name digits same = ap (λ d. codes "srestore: netlist: 9 loop " ++ (name ++ (codes " " ++ (d ++ (codes "\n" ++ []))))) same ∙ simp append_assoc

-- the pieces of the line of a contradiction
pub clash_joined : (c : Circuit) (cell : Cell) (name digits : List ℕ) → name ≡ get_or c.names cell.sig.0 [] → digits ≡ decimal cell.cycle
    → codes "contradiction " ++ (name ++ (codes " " ++ (digits ++ (codes "\n" ++ [])))) ≡ clash_line c cell
clash_joined c cell name digits same_name same_digits =
    ap (λ n. codes "contradiction " ++ (n ++ (codes " " ++ (digits ++ (codes "\n" ++ []))))) same_name
    ∙ ap (λ d. codes "contradiction " ++ (get_or c.names cell.sig.0 [] ++ (codes " " ++ (d ++ (codes "\n" ++ []))))) same_digits
    ∙ simp append_assoc

-- the pieces of the line of a load netlist
pub load_joined : (number signals flip_flops : ℕ) (counts : Counts) (a b c d e r : List ℕ) → a ≡ decimal number → b ≡ decimal signals → c ≡ decimal flip_flops → d ≡ decimal counts.traced → e ≡ decimal counts.known
    → r ≡ ratio_text (in_thousandths counts.known counts.traced)
    → codes "load number " ++ (a ++ (codes " signals " ++ (b ++ (codes " flip_flops " ++ (c ++ (codes " traced " ++ (d ++ (codes " known " ++ (e ++ (codes " ratio " ++ (r ++ (codes "\n" ++ [])))))))))))) ≡ load_line number signals flip_flops counts
load_joined number signals flip_flops counts a b c d e r is_a is_b is_c is_d is_e is_r = rw (is_a, is_b, is_c, is_d, is_e, is_r) (simp append_assoc)

-- the pieces of the line of a pick
pub pick_joined : (names : List (List ℕ)) (pick : Pick) (name a b r : List ℕ) → name ≡ get_or names pick.sig.0 [] → a ≡ decimal pick.ratio.known → b ≡ decimal pick.ratio.traced
    → r ≡ ratio_text (in_thousandths pick.ratio.known pick.ratio.traced) → name ++ (codes " " ++ (a ++ (codes "/" ++ (b ++ (codes " " ++ (r ++ (codes "\n" ++ []))))))) ≡ pick_line names pick
pick_joined names pick name a b r is_name is_a is_b is_r = rw (is_name, is_a, is_b, is_r) (simp append_assoc)

-- the line of a check, and what stands behind it
pub checked_parts : (c : Circuit) (count : ℕ) (clash : Option Cell) → (more : List ℕ) × (checked_text c count clash ≡ accepted_line count ++ more)
checked_parts c count None = ([], sym (append-nil (accepted_line count)))
checked_parts c count (Some cell) = (clash_line c cell, refl)
