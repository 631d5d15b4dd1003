use Rattle.netlist.proofs.Circuits.{statements_give_circuits}
use Rattle.netlist.proofs.OneRefusal.{refusal_is_unique, netlists_are_not_refused}
use Rattle.netlist.proofs.NetlistOrRefused.{netlist_or_refused}
use Rattle.netlist.proofs.laws.circuit_laws.Goals as goal

pub returns-clause-circuit : goal.returns-clause-circuit
returns-clause-circuit c = statements_give_circuits

pub returns-clause-one_refusal : goal.returns-clause-one_refusal
returns-clause-one_refusal c = refusal_is_unique

pub returns-clause-never_both : goal.returns-clause-never_both
returns-clause-never_both c = netlists_are_not_refused

pub returns-clause-netlist_or_refused : goal.returns-clause-netlist_or_refused
returns-clause-netlist_or_refused c = netlist_or_refused
