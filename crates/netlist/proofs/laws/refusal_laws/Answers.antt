use Rattle.netlist.proofs.Refusals.{signals_once, pins_once, drivers_once, undriven_once}
use Rattle.netlist.proofs.laws.refusal_laws.Goals as goal

pub returns-clause-signals : goal.returns-clause-signals
returns-clause-signals c = signals_once

pub returns-clause-pins : goal.returns-clause-pins
returns-clause-pins c = pins_once

pub returns-clause-drivers : goal.returns-clause-drivers
returns-clause-drivers c = drivers_once

pub returns-clause-undriven : goal.returns-clause-undriven
returns-clause-undriven c = undriven_once
