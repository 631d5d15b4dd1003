use Rattle.dump_reader.proofs.SameRows.{one_reading, spells_recording}
use Rattle.dump_reader.proofs.RefusedOnce.{one_refusal, not_both}
use Rattle.dump_reader.proofs.ReadOrRefused.{read_or_refused}
use Rattle.dump_reader.proofs.Literals.{literals_of_rows}
use Rattle.dump_reader.proofs.ReadBack.{read_back}
use Rattle.dump_reader.proofs.laws.dump_laws.Goals as goal

pub returns-clause-one_reading : goal.returns-clause-one_reading
returns-clause-one_reading c = one_reading

pub returns-clause-one_refusal : goal.returns-clause-one_refusal
returns-clause-one_refusal c = one_refusal

pub returns-clause-not_both : goal.returns-clause-not_both
returns-clause-not_both c = not_both

pub returns-clause-recording : goal.returns-clause-recording
returns-clause-recording c = spells_recording

pub returns-clause-read_back : goal.returns-clause-read_back
returns-clause-read_back c = read_back

pub returns-clause-literals : goal.returns-clause-literals
returns-clause-literals c = literals_of_rows

pub returns-clause-read_or_refused : goal.returns-clause-read_or_refused
returns-clause-read_or_refused c = read_or_refused
