use Rattle.std.proofs.Common.{◌∙◌, refl, sym}
use Rattle.dump_reader.proofs.Front.{tokens_from, no_tokens}
use Rattle.dump_reader.proofs.StatedRows.{names_it, fresh, states}
use Rattle.dump_reader.proofs.row.read_row.Goals as goal

pub returns-in_default-clause-refusal : goal.returns-in_default-clause-refusal
returns-in_default-clause-refusal c = (refl, λ first second h. no_tokens c.args.text.now first second c.in_default.ensures h)

pub returns-in_default-find-clause-refusal : goal.returns-in_default-find-clause-refusal
returns-in_default-find-clause-refusal c =
    (refl, (c.in-Some.name.now, c.in-Some.characters.now, tokens_from c.args.text.now c.in-Some.name.now c.in-Some.characters.now c.in-Some.ensures, c.in_default-find.ensures.none refl))

pub returns-then-has_row-clause-refusal : goal.returns-then-has_row-clause-refusal
returns-then-has_row-clause-refusal c = (
  refl,
  (
    c.in-Some-find.sig,
    c.in-Some.characters.now,
    names_it c.args.n.now.names c.args.text.now c.in-Some.name.now c.in-Some.characters.now c.in-Some-find.sig c.in-Some.ensures c.in-Some-find.ensures.some,
    c.has_row.ensures.0 c.if-has_row.true,
  ),
)

pub returns-then-characters-cycles-clause-refusal : goal.returns-then-characters-cycles-clause-refusal
returns-then-characters-cycles-clause-refusal c = (
  refl,
  (
    c.in-Some.characters.now,
    (
      c.in-Some-find.sig,
      names_it c.args.n.now.names c.args.text.now c.in-Some.name.now c.in-Some.characters.now c.in-Some-find.sig c.in-Some.ensures c.in-Some-find.ensures.some,
      fresh c.has_row.ensures c.if-has_row.false,
    ),
    λ e. c.if-characters-cycles.true (e ∙ sym c.cycles.ensures.value),
  ),
)

pub returns-then-not-branch-clause-refusal : goal.returns-then-not-branch-clause-refusal
returns-then-not-branch-clause-refusal c = (
  refl,
  (
    c.in-Some.characters.now,
    (
      c.in-Some-find.sig,
      names_it c.args.n.now.names c.args.text.now c.in-Some.name.now c.in-Some.characters.now c.in-Some-find.sig c.in-Some.ensures c.in-Some-find.ensures.some,
      fresh c.has_row.ensures c.if-has_row.false,
    ),
    c.if-characters-cycles.false ∙ c.cycles.ensures.value,
    c.in_ok-read_cells.ensures.none c.if-not-branch.true,
  ),
)

pub returns-clause-row : goal.returns-clause-row
returns-clause-row c =
    states c.args.n.now.names c.args.dump.now.cycles c.args.text.now c.in-Some.name.now c.in-Some.characters.now c.in-Some-find.sig c.read_cells.new.cells.items c.in-Some.ensures c.in-Some-find.ensures.some
    (c.if-characters-cycles.false ∙ c.cycles.ensures.value) (c.in_ok-read_cells.ensures.cells c.if-not-branch.false)
