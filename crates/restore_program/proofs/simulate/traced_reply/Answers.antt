use Rattle.std.proofs.Common.{◌≡◌, ◌<◌, ◌≤◌, ◌∙◌, None, length, sym, ap, subst}
use Rattle.sr_model.specs.Limits.{block_count, max_blocks}
use Rattle.report.specs.Refusals.{many_cells_line}
use Rattle.restore_program.specs.Tracing.{IsTraceText, OnTrace, many_cells, refused_cells, traced}
use Rattle.restore_program.specs.declared.status.Status.TheVariants as statuses
use Rattle.restore_program.specs.ReplyAnswers.{Replies, refusal_fault}
use Rattle.restore_program.specs.Reply.{IsReady}
use Rattle.restore_program.specs.declared.reply.Reply.TheVariants as replies
use Rattle.restore_program.proofs.Answering.{trace_no_fault, trace_ready, trace_refused}
use Rattle.restore_program.proofs.simulate.traced_reply.Goals as goal

pub returns-in-Err-clause-answer : goal.returns-in-Err-clause-answer
returns-in-Err-clause-answer c words there =
    subst (λ r. Replies words (OnTrace c.args.n.now c.args.cycles c.args.seed c.args.list.now) (replies.Refused r)) (sym c.list_refusal.ensures)
    (trace_refused words c.args.place c.args.n.now c.args.cycles c.args.seed c.args.list.now c.in-Err.refusal there c.in-Err.ensures.refusal)

pub returns-in-Err-clause-ready : goal.returns-in-Err-clause-ready
returns-in-Err-clause-ready c words there =
    subst (λ r. IsReady words (replies.Refused r)) (sym c.list_refusal.ensures) (trace_ready words c.args.place c.args.n.now c.args.list.now c.in-Err.refusal there c.in-Err.ensures.refusal)

pub returns-in-Err-clause-no_fault : goal.returns-in-Err-clause-no_fault
returns-in-Err-clause-no_fault c = subst (λ r. refusal_fault r ≡ None) (sym c.list_refusal.ensures) (trace_no_fault c.in-Err.refusal c.args.place)

pub returns-then-product-gt-MAX_BLOCKS-clause-answer : goal.returns-then-product-gt-MAX_BLOCKS-clause-answer
returns-then-product-gt-MAX_BLOCKS-clause-answer c =
    let product : c.block_count-product.result ≡ block_count (length c.args.n.now.drivers) c.args.cycles = c.block_count-product.ensures ∙ ap (λ s. block_count s c.args.cycles) c.signals.ensures.count in
    λ words there plain. subst (λ p. OnTrace c.args.n.now c.args.cycles c.args.seed c.args.list.now (many_cells_line p) statuses.Dump) (sym product)
    (refused_cells c.in-Ok.sigs.items _ _ c.in-Ok.ensures.named (many_cells (subst (λ p. max_blocks < p) product c.if-product-gt-MAX_BLOCKS.true)))

pub returns-in-Ok-trace_text-clause-answer : goal.returns-in-Ok-trace_text-clause-answer
returns-in-Ok-trace_text-clause-answer c =
    let product : c.block_count-product.result ≡ block_count (length c.args.n.now.drivers) c.args.cycles = c.block_count-product.ensures ∙ ap (λ s. block_count s c.args.cycles) c.signals.ensures.count in
    let few : block_count (length c.args.n.now.drivers) c.args.cycles ≤ max_blocks = subst (λ p. p ≤ max_blocks) product c.if-product-gt-MAX_BLOCKS.false in
    λ words there plain. traced c.in-Ok.sigs.items c.in-Ok-trace_text.text.items c.in-Ok.ensures.named few (subst (λ sigs. IsTraceText c.args.n.now c.args.seed c.args.cycles sigs c.in-Ok-trace_text.text.items) c.as_slice.ensures c.in-Ok-trace_text.ensures)
