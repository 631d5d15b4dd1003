use Rattle.known_planes.proofs.DumpWords.{HasFirst}
use Rattle.known_planes.proofs.from_dump.words_of.Given as goal

abbrev pub invariant-loop-i : goal.invariant-loop-i
invariant-loop-i l = HasFirst l.cells l.i l.words
