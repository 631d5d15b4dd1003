use Rattle.std.proofs.Common.{◌++◌, [], ◌∷◌, List, ℕ, take, sym, ap, ◌∙◌, append_assoc}
use Rattle.std.specs.Fmt.{decimal}
use Rattle.std.proofs.lemmas.Option.{get_or_from_slice_get}
use Rattle.report.proofs.certificate.put_cell.Goals as goal

pub returns-clause-text : goal.returns-clause-text
returns-clause-text c =
    let start : List ℕ = take c.args.start c.args.bytes.now in
    c.put_number.ensures.text
    ∙ ap (λ xs. xs ++ decimal c.args.cycle) (c.put_text-spaced.ensures.text ∙ ap (λ xs. xs ++ 32 ∷ []) c.put_text-named.ensures.text)
    ∙ ap (λ (name : List ℕ). ((start ++ name) ++ 32 ∷ []) ++ decimal c.args.cycle) (sym (get_or_from_slice_get c.args.n.now.names c.args.sig.0 c.name.result.now [] c.name.ensures.name))
    ∙ simp append_assoc
