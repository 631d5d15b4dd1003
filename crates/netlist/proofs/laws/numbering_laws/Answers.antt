use Rattle.netlist.proofs.Settling.{names_have_numbers, mentions_have_numbers, names_are_mentioned, names_differ, drivers_have_pin_counts}
use Rattle.netlist.proofs.laws.numbering_laws.Goals as goal

pub returns-clause-names : goal.returns-clause-names
returns-clause-names c = names_have_numbers

pub returns-clause-mentions : goal.returns-clause-mentions
returns-clause-mentions c = mentions_have_numbers

pub returns-clause-mentioned : goal.returns-clause-mentioned
returns-clause-mentioned c = names_are_mentioned

pub returns-clause-differ : goal.returns-clause-differ
returns-clause-differ c = names_differ

pub returns-clause-pin_counts : goal.returns-clause-pin_counts
returns-clause-pin_counts c = drivers_have_pin_counts
