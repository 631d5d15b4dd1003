use Rattle.std.proofs.Common.{All, Any, map, take}
use Rattle.std.specs.String.{string_bytes}
use Rattle.restore_program.specs.Words.{Suits}
use Rattle.restore_program.specs.WordRules.{key_rule_of}
use Rattle.restore_program.proofs.word_keys.are_known.Given as goal

abbrev pub invariant-loop-word : goal.invariant-loop-word
invariant-loop-word l = All (λ word. Any (Suits (string_bytes word)) (map key_rule_of l.keys)) (take l.word-index l.words)
