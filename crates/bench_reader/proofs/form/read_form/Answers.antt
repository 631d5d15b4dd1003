use Rattle.std.proofs.Common.{[], ◌∷◌}
use Rattle.std.proofs.lemmas.Result.{IfOk-weaker}
use Rattle.bench_reader.specs.Grammar.{Name, Equals}
use Rattle.bench_reader.specs.Found.{form_of}
use Rattle.bench_reader.proofs.Forms.{found_on}
use Rattle.bench_reader.proofs.form.read_form.Goals as goal

pub returns-in-Some-read_mark : goal.returns-in-Some-read_mark
returns-in-Some-read_mark c =
    IfOk-weaker c.read_driver.result _ _ (λ form is.
    found_on [] c.args.text.now c.in-Some.rest.now (Name c.in-Some.first.now) (form_of c.read_driver.new.pins.items form) c.in-Some.ensures.some
    (found_on (Name c.in-Some.first.now ∷ []) c.in-Some.rest.now c.in-Some-read_mark.rest.now Equals (form_of c.read_driver.new.pins.items form) c.in-Some-read_mark.ensures.some is))
    c.read_driver.ensures

pub returns-in-None : goal.returns-in-None
returns-in-None c =
    found_on [] c.args.text.now c.in-Some.rest.now (Name c.in-Some.first.now) (form_of c.args.pins.now.items c.read_port.result) c.in-Some.ensures.some
    (c.read_port.ensures c.args.pins.now.items)
