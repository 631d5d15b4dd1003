use Rattle.std.proofs.Common.{◌∙◌, ◌++◌, sym, ap, subst}
use Rattle.std.specs.Prelude.{codes}
use Rattle.std.specs.Fmt.{decimal}
use Rattle.report.specs.InputRefusals.{net_line}
use Rattle.report.specs.Writes.{Writes}
use Rattle.report.proofs.refusal_lines.write_net_refusal.Goals as goal

pub returns-in-NoDriver : goal.returns-in-NoDriver
returns-in-NoDriver g c =
    subst (Writes g.K.Sink.written g.K.Sink.room g.K.Sink.faults c.args.out.now c.write_no_driver.new.out c.write_no_driver.result)
    (ap (λ n. codes "srestore: netlist: 8 no driver " ++ n ++ codes "\n") c.as_slice.ensures ∙ ap net_line (sym c.in-NoDriver.is)) c.write_no_driver.ensures

pub returns-in-Loop : goal.returns-in-Loop
returns-in-Loop g c =
    subst (Writes g.K.Sink.written g.K.Sink.room g.K.Sink.faults c.args.out.now c.write_loop.new.out c.write_loop.result)
    (ap (λ n. codes "srestore: netlist: 9 loop " ++ n ++ codes " " ++ decimal c.in-Loop.length ++ codes "\n") c.as_slice-in-Loop.ensures ∙ ap net_line (sym c.in-Loop.is)) c.write_loop.ensures

pub returns-in-NoMemory : goal.returns-in-NoMemory
returns-in-NoMemory g c = subst (Writes g.K.Sink.written g.K.Sink.room g.K.Sink.faults c.args.out.now c.write_text.new.out c.write_text.result) (ap net_line (sym c.in-NoMemory.is)) c.write_text.ensures
