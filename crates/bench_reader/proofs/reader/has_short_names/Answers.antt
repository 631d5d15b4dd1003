use Rattle.std.proofs.Common.{◌∙◌, ◌&&◌, map, sym, ap}
use Rattle.std.specs.List.{list_all}
use Rattle.bench_reader.specs.Grammar.{is_short, signal_names}
use Rattle.bench_reader.specs.Found.{form_with}
use Rattle.bench_reader.proofs.Lines.{all_short}
use Rattle.bench_reader.proofs.reader.has_short_names.Goals as goal

pub returns-then-is_short : goal.returns-then-is_short
returns-then-is_short c =
    c.are_short.ensures ∙ all_short c.args.pins.now
    ∙ ap (λ first. first && list_all is_short (map (λ name. name.now) c.args.pins.now)) (sym c.if-is_short.true ∙ c.is_short.ensures)
    ∙ ap (λ form. list_all is_short (signal_names (form_with c.args.pins.now form))) (sym c.in-Driver.is)
