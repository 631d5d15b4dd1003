use Rattle.std.proofs.Common.{ℕ, ◌≡◌, ◌<◌, ◌++◌, [], set, ap, sym, subst, length, take, drop, get_or, List, ◌∙◌}
use Rattle.std.specs.List.{Contains}
use Rattle.std.proofs.lemmas.List.{length-set}
use Rattle.sr_model.specs.Room.{WithRoom}
use Rattle.plain_close.specs.declared.changes.Change.{Change}
use Rattle.plain_close.specs.Changes.{AddsChanges, ForcesChunk, changes_in}
use Rattle.plain_close.proofs.ChangeLists.{items-kept, list-of, list-replaced, lists-others}
use Rattle.plain_close.proofs.Stepping.{may-add, literals-after, sound-after, settled-after, ahead-after, changes-after}
use Rattle.plain_close.proofs.wavefront.Wavefront.step.Goals as goal

pub add_changes-added-requires-clause-changes : goal.add_changes-added-requires-clause-changes
add_changes-added-requires-clause-changes c change h =
    let listed : List (WithRoom Change) = c.force_chunk.new.changes in
    let forces : ForcesChunk c.args.p.now c.args.self.now.planes c.args.chunk c.args.self.now.worklist c.force_chunk.new.worklist c.args.self.now.changes.items listed =
    subst (λ old. ForcesChunk c.args.p.now c.args.self.now.planes c.args.chunk c.args.self.now.worklist c.force_chunk.new.worklist old listed) c.deref_mut.ensures.value c.in_ok-force_chunk.ensures.forces in
    let kept : take c.args.self.now.changes.len (listed ++ drop (length listed) c.args.self.now.changes.items) ≡ listed =
    items-kept c.args.self.now.changes.len listed c.args.self.now.changes.items c.args.self.now.changes.ok.0 forces.size in
    let within : c.args.chunk < length listed = subst (λ n. c.args.chunk < n) (sym (forces.size ∙ c.requires.3.size)) c.requires.4.early in
    let same : c.as_slice-changes.result.now ≡ changes_in listed c.args.chunk =
    c.as_slice-changes.ensures ∙ ap (λ (x : WithRoom Change). x.items) (c.index.ensures ∙ ap (λ xs. get_or xs c.args.chunk c.index.result.now) kept) ∙ list-of listed c.args.chunk within c.index.result.now in
    may-add c.args.p.now c.requires.0 c.requires.1 c.args.chunk c.requires.2 c.args.self.now c.requires.3 c.requires.4 c.force_chunk.new.worklist listed forces change (subst (λ xs. Contains xs change) same h)

pub returns-clause-steps : goal.returns-clause-steps
returns-clause-steps c base levels level is may =
    let listed : List (WithRoom Change) = c.force_chunk.new.changes in
    let forces : ForcesChunk c.args.p.now c.args.self.now.planes c.args.chunk c.args.self.now.worklist c.force_chunk.new.worklist c.args.self.now.changes.items listed =
    subst (λ old. ForcesChunk c.args.p.now c.args.self.now.planes c.args.chunk c.args.self.now.worklist c.force_chunk.new.worklist old listed) c.deref_mut.ensures.value c.in_ok-force_chunk.ensures.forces in
    let kept : take c.args.self.now.changes.len (listed ++ drop (length listed) c.args.self.now.changes.items) ≡ listed =
    items-kept c.args.self.now.changes.len listed c.args.self.now.changes.items c.args.self.now.changes.ok.0 forces.size in
    let within : c.args.chunk < length listed = subst (λ n. c.args.chunk < n) (sym (forces.size ∙ is.size)) may.early in
    let same : c.as_slice-changes.result.now ≡ changes_in listed c.args.chunk =
    c.as_slice-changes.ensures ∙ ap (λ (x : WithRoom Change). x.items) (c.index.ensures ∙ ap (λ xs. get_or xs c.args.chunk c.index.result.now) kept) ∙ list-of listed c.args.chunk within c.index.result.now in
    let adds : AddsChanges c.args.p.now c.args.chunk (changes_in listed c.args.chunk) c.add_changes-added.result c.args.self.now.planes c.add_changes-added.new.planes c.force_chunk.new.worklist c.add_changes-added.new.worklist =
    subst (λ xs. AddsChanges c.args.p.now c.args.chunk xs c.add_changes-added.result c.args.self.now.planes c.add_changes-added.new.planes c.force_chunk.new.worklist c.add_changes-added.new.worklist) same c.add_changes-added.ensures in
    let left : List (WithRoom Change) = set (take c.args.self.now.changes.len (listed ++ drop (length listed) c.args.self.now.changes.items)) c.args.chunk c.clear.new.self in
    let left_is : left ≡ set listed c.args.chunk c.clear.new.self = ap (λ xs. set xs c.args.chunk c.clear.new.self) kept in
    let none : changes_in left c.args.chunk ≡ [] = ap (λ xs. changes_in xs c.args.chunk) left_is ∙ list-replaced listed c.args.chunk within c.clear.new.self ∙ c.clear.ensures.items in
    let others : (at : ℕ) → (at ≡ c.args.chunk → ⊥) → changes_in left at ≡ changes_in listed at =
    λ at other. ap (λ xs. changes_in xs at) left_is ∙ lists-others listed c.args.chunk at c.clear.new.self other in
    record {
      wavefront = record {
        problem = is.problem;
        of = adds.of;
        worklist = adds.worklist;
        room = c.in_ok-force_chunk.ensures.room;
        size = ap length left_is ∙ length-set listed c.args.chunk c.clear.new.self ∙ forces.size ∙ is.size;
        changes = changes-after c.args.p.now base levels c.args.chunk level c.args.self.now is may c.force_chunk.new.worklist listed forces c.add_changes-added.result c.add_changes-added.new.planes c.add_changes-added.new.worklist adds left none others;
        literals = literals-after c.args.p.now base levels c.args.chunk level c.args.self.now is may c.force_chunk.new.worklist listed forces c.add_changes-added.result c.add_changes-added.new.planes c.add_changes-added.new.worklist adds left none others;
        sound = sound-after c.args.p.now base levels c.args.chunk level c.args.self.now is may c.force_chunk.new.worklist listed forces c.add_changes-added.result c.add_changes-added.new.planes c.add_changes-added.new.worklist adds left none others;
        settled = settled-after c.args.p.now base levels c.args.chunk level c.args.self.now is may c.force_chunk.new.worklist listed forces c.add_changes-added.result c.add_changes-added.new.planes c.add_changes-added.new.worklist adds left none others;
        ahead = ahead-after c.args.p.now base levels c.args.chunk level c.args.self.now is may c.force_chunk.new.worklist listed forces c.add_changes-added.result c.add_changes-added.new.planes c.add_changes-added.new.worklist adds left none others;
      };
      bits = adds.bits;
      same = adds.same;
      more = adds.more;
      clash = adds.clash;
    }
