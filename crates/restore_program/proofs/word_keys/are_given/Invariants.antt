use Rattle.std.proofs.Common.{All, map, take}
use Rattle.std.specs.String.{string_bytes}
use Rattle.restore_program.specs.Words.{IsGivenRight}
use Rattle.restore_program.specs.WordRules.{key_rule_of}
use Rattle.restore_program.proofs.word_keys.are_given.Given as goal

abbrev pub invariant-loop-key : goal.invariant-loop-key
invariant-loop-key l = All (λ key. IsGivenRight (map string_bytes l.words) (key_rule_of key)) (take l.key-index l.keys)
