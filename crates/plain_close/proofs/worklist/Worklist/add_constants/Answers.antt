use Rattle.std.proofs.Common.{◌<◌, [], arith, refl, sym, subst, ◌∙◌}
use Rattle.std.specs.List.{Contains}
use Rattle.std.proofs.lemmas.List.{take_all}
use Rattle.sr_model.proofs.lemmas.Members.{not_in_nil}
use Rattle.plain_close.specs.Worklist.{Pushed}
use Rattle.plain_close.proofs.Listing.{pushed-none, constant-is, constants-more}
use Rattle.plain_close.proofs.worklist.Worklist.add_constants.Goals as goal

pub loop-task-init : goal.loop-task-init
loop-task-init c = pushed-none c.args.p.now (Contains []) c.args.self.now c.requires.of (λ t h. not_in_nil t h)

pub in_chunk-requires : goal.in_chunk-requires
in_chunk-requires c = (constant-is c.args.p.now c.requires.problem c.as_slice-task-items.result.now (c.as_slice-task-items.ensures ∙ c.in_ok-constant.ensures) c.loop-task.task-index _ c.loop-task-test.true).0

pub add-requires-clause-signal : goal.add-requires-clause-signal
add-requires-clause-signal c = subst (λ n. c.in_chunk.result.sig.0 < n) (sym c.loop-task.invariant.of.signals) c.in_chunk.ensures.inside.0

pub add-requires-clause-chunk : goal.add-requires-clause-chunk
add-requires-clause-chunk c = subst (λ n. c.in_chunk.result.chunk < n) (sym c.loop-task.invariant.of.chunks) c.in_chunk.ensures.inside.1

pub loop-task-preserved : goal.loop-task-preserved
loop-task-preserved c =
    constants-more c.args.p.now c.as_slice-task-items.result.now c.loop-task.task-index _ c.args.self.now c.loop-task.self (record { records = c.loop-task.self.records; waiting = c.add.new.self }) c.loop-task-test.true
    (constant-is c.args.p.now c.requires.problem c.as_slice-task-items.result.now (c.as_slice-task-items.ensures ∙ c.in_ok-constant.ensures) c.loop-task.task-index _ c.loop-task-test.true)
    c.loop-task.invariant c.in_chunk.result c.in_chunk.ensures.inside c.in_chunk.ensures.signal c.in_chunk.ensures.chunk refl c.add.ensures

pub returns : goal.returns
returns c =
    subst (λ ts. Pushed c.args.p.now (Contains ts) c.args.self.now c.loop-task.self) (take_all c.loop-task.task-index c.as_slice-task-items.result.now (omega (arith, c.loop-task-test.false)) ∙ c.as_slice-task-items.ensures ∙ c.in_ok-constant.ensures)
    c.loop-task.invariant
