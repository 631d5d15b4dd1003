use Rattle.std.proofs.Common.{All, take}
use Rattle.restore_program.specs.WordRules.{IsBadFor, key_rule_of}
use Rattle.restore_program.proofs.word_numbers.has_bad_number.Given as goal

abbrev pub invariant-loop-key : goal.invariant-loop-key
invariant-loop-key l = All (λ key. ¬ IsBadFor l.word (key_rule_of key)) (take l.key-index l.keys)
