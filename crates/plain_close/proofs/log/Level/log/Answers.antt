use Rattle.std.proofs.Common.{◌≡◌, ◌<◌, [], List, length, arith, sym, ap, subst, ◌∙◌}
use Rattle.std.specs.List.{AllPairs, Contains}
use Rattle.sr_model.specs.Room.{WithRoom}
use Rattle.plain_close.specs.declared.changes.Change.{Change}
use Rattle.plain_close.specs.Changes.{changes_in}
use Rattle.plain_close.specs.Levels.{LogsListed}
use Rattle.plain_close.specs.Steps.{AreLeastSteps, Finds, IsDueBy, StepLe}
use Rattle.plain_close.proofs.ChangeLists.{list-of}
use Rattle.plain_close.proofs.ListedLevels.{listed-due}
use Rattle.plain_close.proofs.LoggedLevels.{logs-chunk, logs-none}
use Rattle.plain_close.proofs.log.Level.log.Goals as goal

pub loop-chunk-init : goal.loop-chunk-init
loop-chunk-init c = logs-none c.args.p.now c.args.self.now.planes c.args.steps.now.items

pub find_steps-requires-clause-changes : goal.find_steps-requires-clause-changes
find_steps-requires-clause-changes c change h =
    let lists : List (WithRoom Change) = c.args.self.now.changes.items in
    let within : c.loop-chunk.chunk < length lists = omega (arith, c.loop-chunk-test.true, c.chunks-chunk-end.ensures.chunks, c.requires.1.size) in
    let same : c.as_slice-changes.result.now ≡ changes_in lists c.loop-chunk.chunk =
    c.as_slice-changes.ensures ∙ ap (λ (x : WithRoom Change). x.items) c.index.ensures ∙ list-of lists c.loop-chunk.chunk within c.index.result.now in
    listed-due c.args.p.now c.args.self.now.planes lists c.requires.1.listed c.loop-chunk.chunk change (subst (λ xs. Contains xs change) same h)

pub add_least-requires : goal.add_least-requires
add_least-requires c = subst (AllPairs StepLe) (sym c.as_slice.ensures) c.sorted-found.ensures.ascending

pub loop-chunk-preserved : goal.loop-chunk-preserved
loop-chunk-preserved c =
    let lists : List (WithRoom Change) = c.args.self.now.changes.items in
    let within : c.loop-chunk.chunk < length lists = omega (arith, c.loop-chunk-test.true, c.chunks-chunk-end.ensures.chunks, c.requires.1.size) in
    let same : c.as_slice-changes.result.now ≡ changes_in lists c.loop-chunk.chunk =
    c.as_slice-changes.ensures ∙ ap (λ (x : WithRoom Change). x.items) c.index.ensures ∙ list-of lists c.loop-chunk.chunk within c.index.result.now in
    let finds : Finds c.args.p.now c.args.self.now.planes c.loop-chunk.chunk (IsDueBy c.loop-chunk.chunk (changes_in lists c.loop-chunk.chunk)) [] c.find_steps.new.found.items =
    subst (λ xs. Finds c.args.p.now c.args.self.now.planes c.loop-chunk.chunk (IsDueBy c.loop-chunk.chunk (changes_in lists c.loop-chunk.chunk)) xs c.find_steps.new.found.items) c.clear.ensures.items
    (subst (λ xs. Finds c.args.p.now c.args.self.now.planes c.loop-chunk.chunk (IsDueBy c.loop-chunk.chunk xs) c.clear.new.self.items c.find_steps.new.found.items) same c.in_ok-find_steps.ensures) in
    let least = c.in_ok-add_least.ensures in
    logs-chunk c.args.p.now c.args.self.now.planes lists c.requires.1.listed c.loop-chunk.chunk c.args.steps.now.items c.loop-chunk.steps.items c.add_least.new.steps.items c.find_steps.new.found.items
    c.sorted-found.result.items least.0 c.loop-chunk.invariant finds c.sorted-found.ensures.same (subst (λ xs. AreLeastSteps xs least.0) c.as_slice.ensures least.2) least.1

pub returns : goal.returns
returns c =
    subst (λ n. LogsListed c.args.p.now c.args.self.now.planes n c.args.steps.now.items c.loop-chunk.steps.items)
    (omega (arith, c.loop-chunk-test.false, c.loop-chunk.auto.chunk-end, c.chunks-chunk-end.ensures.chunks)) c.loop-chunk.invariant
