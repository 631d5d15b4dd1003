use Rattle.std.proofs.Common.{◌++◌, [], get_or, sym, ap, ◌∙◌, arith}
use Rattle.std.proofs.lemmas.Option.{get_or_from_slice_get}
use Rattle.sr_model.specs.declared.cells.Sig.{Sig}
use Rattle.bench_reader.specs.Printed.{port_line, name_in}
use Rattle.bench_reader.proofs.Printing.{items_more, port_pushed}
use Rattle.bench_reader.proofs.print.push_ports.Goals as goal

pub loop-port-preserved : goal.loop-port-preserved
loop-port-preserved c =
    let port : Sig = get_or c.args.ports.now c.loop-port.port-index (record { 0 = 0 }) in
    let last = c.extend_from_slice-in-loop-port-3.new.self.items in
    items_more (λ s. port_line c.args.word.now (name_in c.args.n.now.names s)) c.args.ports.now c.loop-port.port-index (record { 0 = 0 }) c.args.text.now.items c.loop-port.text.items last (omega arith)
    c.loop-port.invariant
    (port_pushed c.loop-port.text.items c.args.word.now (name_in c.args.n.now.names port) c.extend_from_slice.new.self.items c.extend_from_slice-in-loop-port.new.self.items
    c.extend_from_slice-in-loop-port-2.new.self.items last c.in_ok-extend_from_slice.ensures.items c.in_ok-extend_from_slice-2.ensures.items
    (c.in_ok-extend_from_slice-3.ensures.items ∙ ap (λ t. c.extend_from_slice-in-loop-port.new.self.items ++ t) (sym (get_or_from_slice_get c.args.n.now.names port.0 c.name.result.now [] c.name.ensures.name)))
    c.in_ok-extend_from_slice-4.ensures.items)
