use Rattle.std.proofs.Common.{◌≡◌, ◌<◌, [], List, length, set, length-set, arith, inl, inr, refl, ap, subst, ◌∙◌}
use Rattle.std.specs.List.{Contains}
use Rattle.std.proofs.lemmas.Bool.{cases_eq, cases_lt}
use Rattle.std.proofs.lemmas.List.{get_or_past}
use Rattle.sr_model.specs.Room.{WithRoom}
use Rattle.plain_close.specs.declared.changes.Change.{Change}
use Rattle.plain_close.specs.Changes.{AddsChanges, changes_in}
use Rattle.plain_close.specs.Levels.{AddsFirst}
use Rattle.plain_close.proofs.AddedLevels.{adds-chunk, adds-nothing, may-add_next}
use Rattle.plain_close.proofs.ChangeLists.{list-of, list-replaced, lists-others}
use Rattle.plain_close.proofs.log.Level.add.Goals as goal

pub loop-chunk-init : goal.loop-chunk-init
loop-chunk-init c = record {
  adds = adds-nothing c.args.p.now c.args.self.now.planes c.args.self.now.changes.items c.requires.1.listed c.args.self.now.worklist c.requires.1.of c.requires.1.worklist;
  room = refl;
  size = refl;
  none = λ at below. absurd (omega (arith, below));
  left = λ at late. refl;
}

pub add_changes-added-requires-clause-changes : goal.add_changes-added-requires-clause-changes
add_changes-added-requires-clause-changes c change h =
    let lists : List (WithRoom Change) = c.args.self.now.changes.items in
    let within : c.loop-chunk.chunk < length c.loop-chunk.self.changes.items = omega (arith, c.loop-chunk-test.true, c.chunks-chunk-end.ensures.chunks, c.requires.1.size, c.loop-chunk.invariant.size) in
    let same : c.as_slice-changes.result.now ≡ changes_in lists c.loop-chunk.chunk =
    c.as_slice-changes.ensures ∙ ap (λ (x : WithRoom Change). x.items) c.index.ensures ∙ list-of c.loop-chunk.self.changes.items c.loop-chunk.chunk within c.index.result.now
    ∙ c.loop-chunk.invariant.left c.loop-chunk.chunk (omega arith) in
    may-add_next c.args.p.now c.args.self.now.planes lists c.requires.1.listed c.loop-chunk.chunk c.loop-chunk.all c.loop-chunk.self.planes c.loop-chunk.self.worklist c.loop-chunk.invariant.adds change
    (subst (λ xs. Contains xs change) same h)

pub loop-chunk-preserved : goal.loop-chunk-preserved
loop-chunk-preserved c =
    let lists : List (WithRoom Change) = c.args.self.now.changes.items in
    let mid : List (WithRoom Change) = c.loop-chunk.self.changes.items in
    let within : c.loop-chunk.chunk < length mid = omega (arith, c.loop-chunk-test.true, c.chunks-chunk-end.ensures.chunks, c.requires.1.size, c.loop-chunk.invariant.size) in
    let same : c.as_slice-changes.result.now ≡ changes_in lists c.loop-chunk.chunk =
    c.as_slice-changes.ensures ∙ ap (λ (x : WithRoom Change). x.items) c.index.ensures ∙ list-of mid c.loop-chunk.chunk within c.index.result.now
    ∙ c.loop-chunk.invariant.left c.loop-chunk.chunk (omega arith) in
    let adds : AddsChanges c.args.p.now c.loop-chunk.chunk (changes_in lists c.loop-chunk.chunk) c.add_changes-added.result c.loop-chunk.self.planes c.add_changes-added.new.planes c.loop-chunk.self.worklist
    c.add_changes-added.new.worklist =
    subst (λ xs. AddsChanges c.args.p.now c.loop-chunk.chunk xs c.add_changes-added.result c.loop-chunk.self.planes c.add_changes-added.new.planes c.loop-chunk.self.worklist c.add_changes-added.new.worklist) same
    c.add_changes-added.ensures in
    record {
      adds = adds-chunk c.args.p.now c.args.self.now.planes lists c.requires.1.listed c.loop-chunk.chunk c.loop-chunk.all c.loop-chunk.self.planes c.loop-chunk.self.worklist c.loop-chunk.invariant.adds
          c.add_changes-added.result _ c.add_changes-added.new.planes c.add_changes-added.new.worklist adds refl refl;
      room = c.loop-chunk.invariant.room;
      size = length-set mid c.loop-chunk.chunk c.clear.new.self ∙ c.loop-chunk.invariant.size;
      none = λ at below. elim (cases_eq at c.loop-chunk.chunk) [
        | inl here ↦ ap (changes_in (set mid c.loop-chunk.chunk c.clear.new.self)) here ∙ list-replaced mid c.loop-chunk.chunk within c.clear.new.self ∙ c.clear.ensures.items
        | inr other ↦ lists-others mid c.loop-chunk.chunk at c.clear.new.self other ∙ c.loop-chunk.invariant.none at (omega (arith, below, other))
      ];
      left = λ at late.
          lists-others mid c.loop-chunk.chunk at c.clear.new.self (λ e. absurd (omega (arith, late, e))) ∙ c.loop-chunk.invariant.left at (omega (arith, late));
    }

pub returns : goal.returns
returns c =
    let all : c.loop-chunk.chunk ≡ c.chunks-chunk-end.result = omega (arith, c.loop-chunk-test.false, c.loop-chunk.auto.chunk-end) in
    record {
      adds = subst (λ n. AddsFirst c.args.p.now c.args.self.now.changes.items n c.loop-chunk.all c.args.self.now.planes c.loop-chunk.self.planes c.loop-chunk.self.worklist)
          (all ∙ c.chunks-chunk-end.ensures.chunks) c.loop-chunk.invariant.adds;
      room = c.loop-chunk.invariant.room;
      size = c.loop-chunk.invariant.size;
      none = λ at. elim (cases_lt at c.loop-chunk.chunk) [
        | inl below ↦ c.loop-chunk.invariant.none at below
        | inr late ↦ c.loop-chunk.invariant.left at late ∙ ap (λ (x : WithRoom Change). x.items)
            (get_or_past c.args.self.now.changes.items at (record { items = []; room = 0 }) (omega (arith, late, all, c.chunks-chunk-end.ensures.chunks, c.requires.1.size)))
      ];
    }
