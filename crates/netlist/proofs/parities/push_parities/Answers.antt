use Rattle.netlist.proofs.OddPins.{cleared-all}
use Rattle.netlist.proofs.parities.push_parities.Goals as goal

pub returns-clause-clear : goal.returns-clause-clear
returns-clause-clear c s = cleared-all c.args.pins.now c.args.signals.now c.toggle.new.odd c.clear.new.odd c.requires.all c.toggle.ensures.odd c.clear.ensures.odd s
