use Rattle.std.proofs.Common.{◌∙◌, Some, None, [], refl, sym, subst}
use Rattle.std.proofs.lemmas.Bool.{false≢true}
use Rattle.std.proofs.lemmas.Result.{IfOk-weaker, IfErr-weaker}
use Rattle.std.proofs.lemmas.Option.{none-some}
use Rattle.sr_model.specs.Declaration.{declaration_of}
use Rattle.bench_reader.specs.Grammar.{Form, HasShortNames}
use Rattle.bench_reader.specs.Found.{form_with, IsFound, form_of}
use Rattle.bench_reader.proofs.Lines.{line_refusal, states}
use Rattle.bench_reader.proofs.reader.read_statement.Goals as goal

pub returns-in_default-clause-refusal : goal.returns-in_default-clause-refusal
returns-in_default-clause-refusal c =
    let is : IsFound [] c.args.text.now None = subst (λ found. IsFound [] c.args.text.now (form_of c.read_form.new.pins.items found)) c.in_default.is c.in_ok-form.ensures in
    (refl, λ form has. none-some form ((is form).1 has))

pub returns-then-not-has_short_names-clause-refusal : goal.returns-then-not-has_short_names-clause-refusal
returns-then-not-has_short_names-clause-refusal c =
    let form : Form = form_with c.read_form.new.pins.items c.in-Some.form in
    let is : IsFound [] c.args.text.now (Some form) = subst (λ found. IsFound [] c.args.text.now (form_of c.read_form.new.pins.items found)) c.in-Some.is c.in_ok-form.ensures in
    let long : HasShortNames form → ⊥ =
    subst (λ pins. HasShortNames (form_with pins c.in-Some.form) → ⊥) c.as_slice.ensures.value (λ short. false≢true (sym c.if-not-has_short_names.true ∙ c.has_short_names.ensures ∙ short)) in
    (refl, (form, (is form).0 refl, long))

pub returns-clause-statement : goal.returns-clause-statement
returns-clause-statement c =
    let form : Form = form_with c.as_slice-2.result.now c.in-Some.form in
    let is : IsFound [] c.args.text.now (Some form) =
    subst (λ pins. IsFound [] c.args.text.now (Some (form_with pins c.in-Some.form))) (sym c.as_slice-2.ensures.value)
    (subst (λ found. IsFound [] c.args.text.now (form_of c.read_form.new.pins.items found)) c.in-Some.is c.in_ok-form.ensures) in
    let short : HasShortNames form =
    subst (λ pins. HasShortNames (form_with pins c.in-Some.form)) (c.as_slice.ensures.value ∙ sym c.as_slice-2.ensures.value) (sym c.has_short_names.ensures ∙ c.if-not-has_short_names.false) in
    IfOk-weaker c.to_statement.result _ _ (λ s both. states c.args.text.now form (declaration_of s) ((is form).0 refl) short both) c.to_statement.ensures.statement

pub returns-clause-refusal : goal.returns-clause-refusal
returns-clause-refusal c =
    let form : Form = form_with c.as_slice-2.result.now c.in-Some.form in
    let is : IsFound [] c.args.text.now (Some form) =
    subst (λ pins. IsFound [] c.args.text.now (Some (form_with pins c.in-Some.form))) (sym c.as_slice-2.ensures.value)
    (subst (λ found. IsFound [] c.args.text.now (form_of c.read_form.new.pins.items found)) c.in-Some.is c.in_ok-form.ensures) in
    let short : HasShortNames form =
    subst (λ pins. HasShortNames (form_with pins c.in-Some.form)) (c.as_slice.ensures.value ∙ sym c.as_slice-2.ensures.value) (sym c.has_short_names.ensures ∙ c.if-not-has_short_names.false) in
    IfErr-weaker c.to_statement.result _ _ (λ r bad. line_refusal c.args.text.now form c.args.line r ((is form).0 refl) short bad) c.to_statement.ensures.refusal
