use Rattle.std.proofs.Common.{◌≡◌, ◌+◌, List, take, drop, ◌++◌, length, arith, refl, sym, ap, subst, ◌∙◌}
use Rattle.sr_model.specs.Room.{WithRoom}
use Rattle.known_planes.specs.Planes.{IsOf}
use Rattle.plain_close.specs.declared.changes.Change.{Change}
use Rattle.plain_close.specs.Changes.{ForcesChunk}
use Rattle.plain_close.proofs.ChangeLists.{items-kept}
use Rattle.plain_close.proofs.ListedLevels.{ListsFirst, lists-all, lists-chunk, lists-none}
use Rattle.plain_close.proofs.log.Level.list.Goals as goal

pub loop-chunk-init : goal.loop-chunk-init
loop-chunk-init c = record { lists = lists-none c.args.p.now c.requires.0 c.requires.1 c.args.self.now c.requires.2; room = c.requires.2.room; planes = refl }

pub force_chunk-requires-clause-of : goal.force_chunk-requires-clause-of
force_chunk-requires-clause-of c = subst (IsOf c.args.p.now) (sym c.loop-chunk.invariant.planes) c.requires.2.of

pub force_chunk-requires-clause-worklist : goal.force_chunk-requires-clause-worklist
force_chunk-requires-clause-worklist c = c.loop-chunk.invariant.lists.worklist

pub force_chunk-requires-clause-room : goal.force_chunk-requires-clause-room
force_chunk-requires-clause-room c = c.loop-chunk.invariant.room

pub force_chunk-requires-clause-size : goal.force_chunk-requires-clause-size
force_chunk-requires-clause-size c = ap length c.deref_mut.ensures.value ∙ c.loop-chunk.invariant.lists.size

pub loop-chunk-preserved : goal.loop-chunk-preserved
loop-chunk-preserved c =
    let listed : List (WithRoom Change) = c.force_chunk.new.changes in
    let before : List (WithRoom Change) = c.loop-chunk.self.changes.items in
    let forces : ForcesChunk c.args.p.now c.loop-chunk.self.planes c.loop-chunk.chunk c.loop-chunk.self.worklist c.force_chunk.new.worklist before listed =
    subst (λ old. ForcesChunk c.args.p.now c.loop-chunk.self.planes c.loop-chunk.chunk c.loop-chunk.self.worklist c.force_chunk.new.worklist old listed) c.deref_mut.ensures.value c.in_ok-force_chunk.ensures.forces in
    let kept : take c.loop-chunk.self.changes.len (listed ++ drop (length listed) before) ≡ listed = items-kept c.loop-chunk.self.changes.len listed before c.loop-chunk.self.changes.ok.0 forces.size in
    record {
      lists = subst (ListsFirst c.args.p.now c.loop-chunk.self.planes (c.loop-chunk.chunk + 1) c.force_chunk.new.worklist) (sym kept)
          (lists-chunk c.args.p.now c.loop-chunk.self.planes c.loop-chunk.chunk c.loop-chunk.self.worklist c.force_chunk.new.worklist before listed c.loop-chunk.invariant.lists forces);
      room = c.in_ok-force_chunk.ensures.room;
      planes = c.loop-chunk.invariant.planes;
    }

pub returns : goal.returns
returns c = record {
  problem = c.requires.2.problem;
  of = subst (IsOf c.args.p.now) (sym c.loop-chunk.invariant.planes) c.requires.2.of;
  planes = c.loop-chunk.invariant.planes;
  worklist = c.loop-chunk.invariant.lists.worklist;
  room = c.loop-chunk.invariant.room;
  size = c.loop-chunk.invariant.lists.size;
  listed = lists-all c.args.p.now c.loop-chunk.self.planes c.requires.2.problem c.loop-chunk.chunk (omega (arith, c.loop-chunk-test.false, c.chunks-chunk-end.ensures.chunks)) c.loop-chunk.self.worklist
      c.loop-chunk.self.changes.items c.loop-chunk.invariant.lists;
}
