use Rattle.std.proofs.Common.{◌<◌, subst}
use Rattle.dump_reader.proofs.Printing.{printed_more}
use Rattle.dump_reader.proofs.printer.print_dump.Goals as goal

pub loop-i-preserved : goal.loop-i-preserved
loop-i-preserved c =
    printed_more c.args.n.now.names c.args.d.now c.loop-i.i c.loop-i.text.items c.push_row.new.text.items c.name.result.now c.row_sig.result c.row_bits.result.now
    (subst (λ n. c.loop-i.i < n) c.row_count-i-end.ensures c.loop-i-test.true) c.loop-i.invariant c.row_sig.ensures c.row_bits.ensures.cells c.name.ensures.name c.in_ok-push_row.ensures
