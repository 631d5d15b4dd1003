use Rattle.std.proofs.Common.{◌≡◌, map, option_map, ◌++◌, length}
use Rattle.bench_reader.specs.Grammar.{tokens}
use Rattle.bench_reader.specs.Found.{with_commas}
use Rattle.bench_reader.proofs.form.read_pins.Given as goal

abbrev pub invariant-loop-pin : goal.invariant-loop-pin
invariant-loop-pin l = tokens l.text ≡ option_map (λ ts. with_commas (map (λ pin. pin.now) l.pins.items) ++ ts) (tokens l.rest)

abbrev pub decreases-loop-pin : goal.decreases-loop-pin
decreases-loop-pin l = length l.rest
