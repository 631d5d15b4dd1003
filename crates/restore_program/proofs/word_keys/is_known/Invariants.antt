use Rattle.std.proofs.Common.{All, take}
use Rattle.restore_program.specs.Words.{Suits}
use Rattle.restore_program.specs.WordRules.{key_rule_of}
use Rattle.restore_program.proofs.word_keys.is_known.Given as goal

abbrev pub invariant-loop-key : goal.invariant-loop-key
invariant-loop-key l = All (λ key. ¬ Suits l.word (key_rule_of key)) (take l.key-index l.keys)
