use Rattle.std.proofs.Common.{All, codes, take}
use Rattle.std.specs.String.{string_bytes}
use Rattle.restore_program.specs.Words.{Gives}
use Rattle.restore_program.proofs.word_keys.is_chosen.Given as goal

abbrev pub invariant-loop-word : goal.invariant-loop-word
invariant-loop-word l = All (λ word. ¬ Gives (string_bytes word) l.key.name.now (codes "yes")) (take l.word-index l.words)
