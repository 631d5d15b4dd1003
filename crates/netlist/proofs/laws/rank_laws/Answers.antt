use Rattle.netlist.proofs.Ranking.{ranks_are_unique, ranks_exist, ranks_exclude_loops}
use Rattle.netlist.proofs.Walks.{loop_is_unique}
use Rattle.netlist.proofs.laws.rank_laws.Goals as goal

pub returns-clause-unique : goal.returns-clause-unique
returns-clause-unique c = ranks_are_unique

pub returns-clause-exclude : goal.returns-clause-exclude
returns-clause-exclude c = ranks_exclude_loops

pub returns-clause-exist : goal.returns-clause-exist
returns-clause-exist c = ranks_exist

pub returns-clause-one_loop : goal.returns-clause-one_loop
returns-clause-one_loop c = loop_is_unique
