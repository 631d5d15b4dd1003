use Rattle.std.proofs.Common.{All, take}
use Rattle.std.specs.String.{string_bytes}
use Rattle.restore_program.specs.Words.{IsFor}
use Rattle.restore_program.specs.WordRules.{key_rule_of}
use Rattle.restore_program.proofs.word_keys.place_of.Given as goal

abbrev pub invariant-loop-i : goal.invariant-loop-i
invariant-loop-i l = All (λ word. ¬ IsFor (key_rule_of l.key) (string_bytes word)) (take l.i l.words)
