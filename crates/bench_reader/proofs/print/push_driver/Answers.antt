use Rattle.std.proofs.Common.{◌++◌, [], map, sym, ap, ◌∙◌}
use Rattle.std.proofs.lemmas.Option.{get_or_from_slice_get}
use Rattle.netlist.specs.Wiring.{driver_at}
use Rattle.bench_reader.specs.Kinds.{kind_text}
use Rattle.bench_reader.specs.Printed.{listed, name_in}
use Rattle.bench_reader.proofs.Printing.{driver_pushed, driver_line-driven}
use Rattle.bench_reader.proofs.print.push_driver.Goals as goal

pub returns-in_ok-extend_from_slice-5 : goal.returns-in_ok-extend_from_slice-5
returns-in_ok-extend_from_slice-5 c =
    let names = c.args.n.now.names in
    let driver = driver_at c.args.n.now.drivers c.args.s.0 in
    let name = name_in names c.args.s in
    let pins = c.pins_of.result.now in
    let kind = c.in-Some.kind in
    driver_pushed c.args.text.now.items name (kind_text kind) (listed (map (name_in names) pins)) c.extend_from_slice.new.self.items c.extend_from_slice-in-Some.new.self.items
    c.extend_from_slice-in-Some-2.new.self.items c.extend_from_slice-in-Some-3.new.self.items c.push_listed.new.text.items c.extend_from_slice-in-Some-4.new.self.items
    (c.in_ok-extend_from_slice.ensures.items ∙ ap (λ t. c.args.text.now.items ++ t) (sym (get_or_from_slice_get names c.args.s.0 c.name.result.now [] c.name.ensures.name)))
    c.in_ok-extend_from_slice-2.ensures.items
    (c.in_ok-extend_from_slice-3.ensures.items ∙ ap (λ t. c.extend_from_slice-in-Some.new.self.items ++ t) c.kind_word.ensures)
    c.in_ok-extend_from_slice-4.ensures.items c.in_ok-push_listed.ensures c.in_ok-extend_from_slice-5.ensures.items
    ∙ ap (λ t. c.args.text.now.items ++ t) (driver_line-driven names c.args.s driver kind pins c.in-Some.ensures c.pins_of.ensures)
