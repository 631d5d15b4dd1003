use Rattle.netlist.proofs.FlipFlopList.{flip_flops_below}
use Rattle.std.proofs.Common.{◌≡◌, List}
use Rattle.sr_model.specs.declared.cells.Sig.{Sig}
use Rattle.netlist.proofs.wiring.flip_flops_of.Given as goal

-- the flip-flops so far, whatever the pins are
abbrev pub invariant-loop-s : goal.invariant-loop-s
invariant-loop-s l = (pins : List Sig) → l.sigs.items ≡ flip_flops_below pins l.nodes l.s
