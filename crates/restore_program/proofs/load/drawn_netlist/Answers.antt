use Rattle.std.proofs.Common.{ap, ◌∙◌}
use Rattle.netlist.specs.Circuit.{circuit_of}
use Rattle.cycle_sim.specs.Load.{load_statements}
use Rattle.cycle_sim.proofs.lemmas.Laws.{lines_declare}
use Rattle.restore_program.proofs.load.drawn_netlist.Goals as goal

pub returns-in-Ok-clause-circuit : goal.returns-in-Ok-clause-circuit
returns-in-Ok-clause-circuit c =
    c.in-Ok.ensures.circuit ∙ ap circuit_of (lines_declare (load_statements c.args.number c.args.signals) c.in_ok-statements.statements c.in_ok-statements.ensures.statements)
