use Rattle.std.proofs.Common.{◌+◌, sym, subst}
use Rattle.known_planes.proofs.DumpWords.{HasFirst, has-none, has-all, zero-more, one-more, x-more}
use Rattle.known_planes.proofs.from_dump.words_of.Goals.{in-Zero, in-One, in-X}
use Rattle.known_planes.proofs.from_dump.words_of.Goals as goal

pub loop-i-init : goal.loop-i-init
loop-i-init c = subst (HasFirst c.args.cells.now 0) (sym c.none-words.ensures.words) (has-none c.args.cells.now)

pub loop-i-preserved : goal.loop-i-preserved
loop-i-preserved c =
    elim c.match-cell.branch [
      | in-Zero w ↦
          subst (HasFirst c.args.cells.now (c.loop-i.i + 1)) (sym w.words-is)
          (zero-more c.args.cells.now c.loop-i.i c.loop-i.words c.requires c.loop-i-test.true c.loop-i.invariant w.in-Zero.is)
      | in-One w ↦
          subst (HasFirst c.args.cells.now (c.loop-i.i + 1)) (sym w.words-is)
          (one-more c.args.cells.now c.loop-i.i c.loop-i.words c.requires c.loop-i-test.true c.loop-i.invariant w.in-One.is)
      | in-X w ↦
          subst (HasFirst c.args.cells.now (c.loop-i.i + 1)) (sym w.words-is)
          (x-more c.args.cells.now c.loop-i.i c.loop-i.words c.requires c.loop-i-test.true c.loop-i.invariant w.in-X.is)
    ]

pub returns : goal.returns
returns c = has-all c.args.cells.now c.loop-i.i c.loop-i.words c.loop-i-test.false c.loop-i.invariant
