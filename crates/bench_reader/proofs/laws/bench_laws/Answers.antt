use Rattle.bench_reader.proofs.BenchLaws.{one_reading, one_refusal, not_both}
use Rattle.bench_reader.proofs.ReadOrRefused.{read_or_refused}
use Rattle.bench_reader.proofs.Statements.{spells_statements}
use Rattle.bench_reader.proofs.laws.bench_laws.Goals as goal

pub returns-clause-one_reading : goal.returns-clause-one_reading
returns-clause-one_reading c = one_reading

pub returns-clause-one_refusal : goal.returns-clause-one_refusal
returns-clause-one_refusal c = one_refusal

pub returns-clause-not_both : goal.returns-clause-not_both
returns-clause-not_both c = not_both

pub returns-clause-read_or_refused : goal.returns-clause-read_or_refused
returns-clause-read_or_refused c = read_or_refused

pub returns-clause-statements : goal.returns-clause-statements
returns-clause-statements c = spells_statements
