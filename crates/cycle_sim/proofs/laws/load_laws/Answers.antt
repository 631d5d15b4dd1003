use Rattle.cycle_sim.proofs.LoadNets.{loads_are_netlists}
use Rattle.cycle_sim.proofs.LoadSteps.{lines_declare}
use Rattle.cycle_sim.proofs.laws.load_laws.Goals as goal

pub returns-clause-netlist : goal.returns-clause-netlist
returns-clause-netlist c = loads_are_netlists

pub returns-clause-lines : goal.returns-clause-lines
returns-clause-lines c = lines_declare
