use Rattle.sr_model.specs.Declaration.{declarations_of}
use Rattle.restore_program.proofs.Answering.{bad_bench, bad_net, netlist_text}
use Rattle.restore_program.proofs.netlists.parse_netlist.Goals as goal

pub returns-in-Err-clause-refused : goal.returns-in-Err-clause-refused
returns-in-Err-clause-refused c words = bad_bench words c.args.text.items c.in-Err.refusal c.requires.short c.in-Err.ensures.refusal

pub returns-in-Ok-build-clause-netlist : goal.returns-in-Ok-build-clause-netlist
returns-in-Ok-build-clause-netlist c =
    netlist_text c.args.text.items c.in-Ok.statements c.in-Ok-build.netlist c.requires.short c.in-Ok.ensures.statements c.in-Ok-build.ensures.netlist c.in-Ok-build.ensures.circuit

pub returns-in-Err-build-clause-refused : goal.returns-in-Err-build-clause-refused
returns-in-Err-build-clause-refused c words = bad_net words c.args.text.items (declarations_of c.in-Ok.statements) c.in-Err-build.refusal c.requires.short c.in-Ok.ensures.statements c.in-Err-build.ensures.refusal
