use Rattle.std.proofs.Common.{All, Any, map, take}
use Rattle.std.specs.String.{string_bytes}
use Rattle.restore_program.specs.WordRules.{IsBadFor, key_rule_of}
use Rattle.restore_program.proofs.word_numbers.bad_number.Given as goal

abbrev pub invariant-loop-i : goal.invariant-loop-i
invariant-loop-i l = All (λ word. ¬ Any (IsBadFor (string_bytes word)) (map key_rule_of l.keys)) (take l.i l.words)
