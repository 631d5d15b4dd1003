use Rattle.std.proofs.Common.{◌≡◌, ◌<◌, ◌≤◌, length, ap, sym, subst, ◌∙◌}
use Rattle.sr_model.specs.Limits.{block_count, max_blocks}
use Rattle.report.specs.Refusals.{many_cells_line, width_over_line}
use Rattle.restore_program.specs.Selecting.{OnSelect, too_many_cells, width_over}
use Rattle.restore_program.specs.Tracing.{many_cells}
use Rattle.restore_program.specs.declared.status.Status.TheVariants as statuses
use Rattle.restore_program.proofs.select.refused_request.Goals as goal

pub returns-then-width-flip_flops-clause-refused : goal.returns-then-width-flip_flops-clause-refused
returns-then-width-flip_flops-clause-refused c words seed plain =
    subst (λ n. OnSelect c.args.n.now c.args.width c.args.cycles seed (width_over_line n) statuses.Words) (sym (ap length c.flip_flops-flip_flops.ensures))
    (width_over (subst (λ sigs. length sigs < c.args.width) c.flip_flops-flip_flops.ensures c.if-width-flip_flops.true))

pub returns-then-product-gt-MAX_BLOCKS-clause-refused : goal.returns-then-product-gt-MAX_BLOCKS-clause-refused
returns-then-product-gt-MAX_BLOCKS-clause-refused c words seed plain =
    let product : c.block_count-product.result ≡ block_count (length c.args.n.now.drivers) c.args.cycles = c.block_count-product.ensures ∙ ap (λ s. block_count s c.args.cycles) c.signals.ensures.count in
    subst (λ p. OnSelect c.args.n.now c.args.width c.args.cycles seed (many_cells_line p) statuses.Dump) (sym product)
    (too_many_cells _ _ (subst (λ sigs. c.args.width ≤ length sigs) c.flip_flops-flip_flops.ensures c.if-width-flip_flops.false) (many_cells (subst (λ p. max_blocks < p) product c.if-product-gt-MAX_BLOCKS.true)))
