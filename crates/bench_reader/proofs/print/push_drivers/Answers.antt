use Rattle.bench_reader.specs.Printed.{driver_line}
use Rattle.netlist.specs.Wiring.{driver_at}
use Rattle.bench_reader.proofs.Printing.{signals_more}
use Rattle.bench_reader.proofs.print.push_drivers.Goals as goal

pub loop-number-preserved : goal.loop-number-preserved
loop-number-preserved c =
    signals_more (λ s. driver_line c.args.n.now.names s (driver_at c.args.n.now.drivers s.0)) c.loop-number.number c.args.text.now.items c.loop-number.text.items
    c.push_driver.new.text.items c.loop-number.invariant c.in_ok-push_driver.ensures
