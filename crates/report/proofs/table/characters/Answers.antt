use Rattle.std.proofs.Common.{◌∙◌, arith}
use Rattle.std.proofs.Math.ListN.{length-set}
use Rattle.report.proofs.Cells.{more_characters}
use Rattle.report.proofs.table.characters.Goals as goal

pub loop-i-preserved : goal.loop-i-preserved
loop-i-preserved c = record {
  size = length-set c.loop-i.characters c.loop-i.i c.character.result ∙ c.loop-i.invariant.size;
  text = more_characters c.args.words c.loop-i.i c.character.result c.loop-i.characters (omega (arith, c.loop-i-test.true, c.loop-i.invariant.size)) c.character.ensures c.loop-i.invariant.text;
}
