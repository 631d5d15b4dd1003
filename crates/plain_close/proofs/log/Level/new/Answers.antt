use Rattle.std.proofs.Common.{◌≡◌, true, sym, subst, ◌∙◌}
use Rattle.known_planes.specs.Planes.{PlaneSet, IsOf, has}
use Rattle.plain_close.specs.Worklist.{IsSettled}
use Rattle.plain_close.proofs.log.Level.new.Goals as goal

pub returns : goal.returns
returns c = record {
  problem = c.in_ok-of_planes.ensures.problem;
  of = subst (IsOf c.args.p.now) (sym c.in_ok-copy.ensures) (record { signals = c.requires.of.signals; chunks = c.requires.of.chunks; blocks = c.requires.of.blocks; no_later = c.requires.of.no_later });
  worklist = c.in_ok-of_planes.ensures.of;
  room = c.in_ok-new.ensures;
  size = c.in_ok-no_changes.ensures.size ∙ c.chunks.ensures.chunks;
  none = c.in_ok-no_changes.ensures.none;
  literals = λ l. (
    λ h. subst (λ (x : PlaneSet). has c.args.p.now x l ≡ true) c.in_ok-copy.ensures h,
    λ h. subst (λ (x : PlaneSet). has c.args.p.now x l ≡ true) (sym c.in_ok-copy.ensures) h,
  );
  settled = subst (λ (x : PlaneSet). IsSettled c.args.p.now x c.in_ok-of_planes.field-0) (sym c.in_ok-copy.ensures) c.in_ok-of_planes.ensures.settled;
}
