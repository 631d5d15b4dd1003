use Rattle.std.proofs.Common.{subst}
use Rattle.netlist.specs.Circuit.{IsCircuit}
use Rattle.restore_program.specs.Certifying.{certified}
use Rattle.restore_program.proofs.certify.certified_reply.Goals as goal

pub log_of-requires-clause-circuit : goal.log_of-requires-clause-circuit
log_of-requires-clause-circuit c = subst IsCircuit c.n.view_is c.n.invariant.0

pub returns-in-Ok-clause-answer : goal.returns-in-Ok-clause-answer
returns-in-Ok-clause-answer c words plain = certified c.in-Ok.log.steps.items c.in-Ok.log.clash c.in-Ok.ensures.log

pub returns-in-Ok-clause-ready : goal.returns-in-Ok-clause-ready
returns-in-Ok-clause-ready c words = (c.in-Ok.ensures.steps, c.in-Ok.ensures.clash)
