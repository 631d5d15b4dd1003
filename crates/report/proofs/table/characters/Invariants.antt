use Rattle.std.proofs.Common.{◌≡◌, length, take}
use Rattle.report.specs.Rows.{word_text}
use Rattle.report.proofs.table.characters.Given as goal

-- the characters so far are there
abbrev pub invariant-loop-i : goal.invariant-loop-i
invariant-loop-i l = record {
  size : length l.characters ≡ 64;
  text : take l.i l.characters ≡ word_text l.words l.i;
}
