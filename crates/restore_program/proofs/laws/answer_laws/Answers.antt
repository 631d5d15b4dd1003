use Rattle.restore_program.proofs.OneAnswer.{one_answer, accepted_is_completed}
use Rattle.restore_program.proofs.SimulatedTraces.{trace_is_simulated}
use Rattle.restore_program.proofs.AnswerExists.{answer_exists}
use Rattle.restore_program.proofs.Sounding.{certified_is_accepted}
use Rattle.restore_program.proofs.laws.answer_laws.Goals as goal

pub returns-clause-exists : goal.returns-clause-exists
returns-clause-exists c = answer_exists

pub returns-clause-one_answer : goal.returns-clause-one_answer
returns-clause-one_answer c = one_answer

pub returns-clause-completed : goal.returns-clause-completed
returns-clause-completed c = accepted_is_completed

pub returns-clause-simulated : goal.returns-clause-simulated
returns-clause-simulated c = trace_is_simulated

pub returns-clause-certified : goal.returns-clause-certified
returns-clause-certified c = certified_is_accepted
