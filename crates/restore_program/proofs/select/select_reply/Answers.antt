use Rattle.std.proofs.Common.{[], sym, subst}
use Rattle.restore_program.specs.Reads.{Reads}
use Rattle.restore_program.specs.Selecting.{OnSelect}
use Rattle.restore_program.proofs.Answering.{netlist_read, netlist_refused, told_or_not}
use Rattle.restore_program.proofs.select.select_reply.Goals as goal

pub returns-in-Ok-clause-answer : goal.returns-in-Ok-clause-answer
returns-in-Ok-clause-answer g c words =
    netlist_read words c.args.netlist.now (λ held n. OnSelect n c.args.width c.args.cycles c.args.seed) c.ranked_reply.result (g.I.Inputs.held c.args.inputs.now) c.in-Ok.n c.in-Ok.ensures.netlist
    (told_or_not (g.I.Inputs.held c.args.inputs.now) _ (λ held. c.ranked_reply.ensures.answer words))

pub returns-in-Err-clause-answer : goal.returns-in-Err-clause-answer
returns-in-Err-clause-answer g c words =
    netlist_refused words c.args.netlist.now (λ held n. OnSelect n c.args.width c.args.cycles c.args.seed) c.in-Err.reply (g.I.Inputs.held c.args.inputs.now) (c.in-Err.ensures.refused words)

pub returns-in-Err-clause-ready : goal.returns-in-Err-clause-ready
returns-in-Err-clause-ready g c words = c.in-Err.ensures.ready words

pub returns-in-Ok-clause-reads : goal.returns-in-Ok-clause-reads
returns-in-Ok-clause-reads g c = subst (Reads g.I.Inputs.held g.I.Inputs.shaky g.I.Inputs.faults _ _ _) (sym c.ranked_reply.ensures.no_fault) (c.in-Ok.ensures.reads [])

pub returns-in-Err-clause-reads : goal.returns-in-Err-clause-reads
returns-in-Err-clause-reads g c = c.in-Err.ensures.reads []
