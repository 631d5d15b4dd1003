use Rattle.std.proofs.Common.{◌<◌, ◌∙◌, ◌∷◌, length, map, option_map, ap}
use Rattle.std.proofs.lemmas.List.{length-map}
use Rattle.bench_reader.specs.Grammar.{Name, Open}
use Rattle.bench_reader.proofs.Forms.{driver_found}
use Rattle.bench_reader.proofs.form.read_driver.Goals as goal

pub returns-then-branch : goal.returns-then-branch
returns-then-branch c =
    let found = c.in_ok-read_pins.ensures.found c.if-branch.true in
    let some : 0 < length (map (λ pin. pin.now) c.read_pins.new.pins.items) = simp length-map found.1 in
    driver_found c.args.target.now c.in-Some.word.now c.args.text.now (map (λ pin. pin.now) c.read_pins.new.pins.items) some
    (c.in-Some.ensures.some ∙ ap (λ o. option_map (λ ts. Name c.in-Some.word.now ∷ ts) o)
    (c.in-Some-read_mark.ensures.some ∙ ap (λ o. option_map (λ ts. Open ∷ ts) o) found.0))
