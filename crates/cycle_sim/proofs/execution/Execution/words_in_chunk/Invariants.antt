use Rattle.std.proofs.Common.{◌+◌}
use Rattle.sr_model.specs.Netlist.{cell_at}
use Rattle.cycle_sim.specs.Simulation.{bits_of}
use Rattle.cycle_sim.proofs.RowWords.{HasFirst}
use Rattle.cycle_sim.proofs.execution.Execution.words_in_chunk.Given as goal

abbrev pub invariant-loop-i : goal.invariant-loop-i
invariant-loop-i l = HasFirst (λ i. bits_of l.self (cell_at (l.start + i) l.fn.at.sig)) l.i l.words
