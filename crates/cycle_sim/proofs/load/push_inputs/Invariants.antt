use Rattle.std.proofs.Common.{◌≡◌, ◌++◌, map}
use Rattle.std.specs.List.{range_with_len}
use Rattle.sr_model.specs.Declaration.{InputNamed}
use Rattle.cycle_sim.specs.Load.{load_name}
use Rattle.cycle_sim.proofs.load.push_inputs.Given as goal

abbrev pub invariant-loop-i : goal.invariant-loop-i
invariant-loop-i l = l.lines ≡ l.fn.lines ++ map (λ i. InputNamed (load_name i)) (range_with_len 0 l.i)
