use Rattle.std.proofs.Common.{subst}
use Rattle.restore_program.specs.Answer.{clash}
use Rattle.restore_program.specs.Outcome.{IsOutcome}
use Rattle.restore_program.proofs.restore.outcome_reply.Goals as goal

pub returns-in-Clash-clause-answer : goal.returns-in-Clash-clause-answer
returns-in-Clash-clause-answer c words plain =
    let first = subst (IsOutcome (record { circuit = c.args.netlist; cycles = c.args.dump.now.cycles }) c.args.dump.now.rows) c.in-Clash.is c.requires.outcome in clash c.in-Clash.cell first.1
