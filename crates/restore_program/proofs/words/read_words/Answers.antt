use Rattle.std.proofs.Common.{◌-◌, List, ℕ, length, drop, take, map, Ok, Err, Global, sym, ◌∙◌}
use Rattle.std.specs.String.{string_bytes}
use Rattle.std.proofs.lemmas.Bool.{false≢true}
use Rattle.restore_program.specs.declared.words.Settings.TheVariants as settings
use Rattle.report.specs.declared.refusal.WordRefusal.TheVariants as refusals
use Rattle.restore_program.proofs.OneMeaning.{exact_answer}
use Rattle.restore_program.proofs.CommandShapes.{no_shape}
use Rattle.restore_program.proofs.CommandWords.{shape_certify, shape_check, shape_print}
use Rattle.restore_program.proofs.Simulations.{restores}
use Rattle.restore_program.proofs.WordPlaces.{drop_images}
use Rattle.restore_program.proofs.words.read_words.Goals as goal

pub returns-then-is_shaped : goal.returns-then-is_shaped
returns-then-is_shaped c =
    let text = string_bytes {Z = Global} in
    let words = c.args.words.now in
    let shaped = c.is_shaped.ensures.0 c.if-is_shaped.true in
    exact_answer (map text words) (Ok (settings.Restore c.is_chosen.result))
    (restores (map text words) (map text (take (length words - 3) (drop 3 words))) c.is_chosen.result shaped (drop_images text 3 words) c.is_chosen.ensures)

pub returns-then-is_shaped-2 : goal.returns-then-is_shaped-2
returns-then-is_shaped-2 c = exact_answer (map (string_bytes {Z = Global}) c.args.words.now) c.read_select.result c.read_select.ensures

pub returns-then-is_shaped-3 : goal.returns-then-is_shaped-3
returns-then-is_shaped-3 c = exact_answer (map (string_bytes {Z = Global}) c.args.words.now) c.read_simulate.result c.read_simulate.ensures

pub returns-then-is_shaped-4 : goal.returns-then-is_shaped-4
returns-then-is_shaped-4 c =
    let words : List (List ℕ) = map (string_bytes {Z = Global}) c.args.words.now in
    exact_answer words (Ok settings.Print) (shape_print words (c.is_shaped-else-is_shaped-3.ensures.0 c.if-is_shaped-4.true))

pub read_load-requires : goal.read_load-requires
read_load-requires c = c.is_shaped-else-is_shaped-4.ensures.0 c.if-is_shaped-5.true

pub returns-then-is_shaped-5 : goal.returns-then-is_shaped-5
returns-then-is_shaped-5 c = exact_answer (map (string_bytes {Z = Global}) c.args.words.now) c.read_load.result c.read_load.ensures

pub returns-then-is_shaped-6 : goal.returns-then-is_shaped-6
returns-then-is_shaped-6 c =
    let words : List (List ℕ) = map (string_bytes {Z = Global}) c.args.words.now in
    exact_answer words (Ok settings.Certify) (shape_certify words (c.is_shaped-else-is_shaped-5.ensures.0 c.if-is_shaped-6.true))

pub returns-then-is_shaped-7 : goal.returns-then-is_shaped-7
returns-then-is_shaped-7 c =
    let words : List (List ℕ) = map (string_bytes {Z = Global}) c.args.words.now in
    exact_answer words (Ok settings.Check) (shape_check words (c.is_shaped-else-is_shaped-6.ensures.0 c.if-is_shaped-7.true))

pub returns-else-is_shaped-7 : goal.returns-else-is_shaped-7
returns-else-is_shaped-7 c =
    let words : List (List ℕ) = map (string_bytes {Z = Global}) c.args.words.now in
    exact_answer words (Err refusals.Usage)
    (no_shape words (λ shaped. false≢true (sym c.if-is_shaped.false ∙ c.is_shaped.ensures.1 shaped)) (λ shaped. false≢true (sym c.if-is_shaped-2.false ∙ c.is_shaped-else-is_shaped.ensures.1 shaped))
    (λ shaped. false≢true (sym c.if-is_shaped-3.false ∙ c.is_shaped-else-is_shaped-2.ensures.1 shaped)) (λ shaped. false≢true (sym c.if-is_shaped-4.false ∙ c.is_shaped-else-is_shaped-3.ensures.1 shaped))
    (λ shaped. false≢true (sym c.if-is_shaped-5.false ∙ c.is_shaped-else-is_shaped-4.ensures.1 shaped)) (λ shaped. false≢true (sym c.if-is_shaped-6.false ∙ c.is_shaped-else-is_shaped-5.ensures.1 shaped))
    (λ shaped. false≢true (sym c.if-is_shaped-7.false ∙ c.is_shaped-else-is_shaped-6.ensures.1 shaped)))
