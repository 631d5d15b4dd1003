use Rattle.std.proofs.Common.{Any, Some, ◌+◌, ◌-◌, List, ℕ, map, take, drop, length, refl, subst, Global, arith}
use Rattle.std.specs.Prelude.{All}
use Rattle.std.specs.String.{string_bytes}
use Rattle.restore_program.specs.Words.{CommandRule}
use Rattle.restore_program.specs.WordRules.{IsBadFor, command_rule_of}
use Rattle.restore_program.proofs.CommandShapes.{small_rule}
use Rattle.restore_program.proofs.FewWords.{few_words}
use Rattle.restore_program.proofs.Simulations.{bad_is_first, place_within}
use Rattle.restore_program.proofs.WordPlaces.{drop_images}
use Rattle.restore_program.proofs.words.check_numbers.Goals as goal

pub overflow_cast-result : goal.overflow_cast-result
overflow_cast-result c =
    let text = string_bytes {Z = Global} in
    let words = c.args.words.now in
    let rule : CommandRule = command_rule_of c.args.command.now in
    let rest : List (List ℕ) = map text (take (length words - (1 + rule.files)) (drop (1 + rule.files) words)) in
    let within = place_within (λ word. Any (IsBadFor word) rule.keys) (map text words) rest (1 + rule.files) c.in-Some.place (Some c.in-Some.place) (drop_images text (1 + rule.files) words) c.in-Some.ensures refl in
    grind (arith, within, few_words rule (map text words) c.requires.shaped, small_rule rule c.requires.table)

pub returns-in-Some-clause-bad : goal.returns-in-Some-clause-bad
returns-in-Some-clause-bad c =
    let text = string_bytes {Z = Global} in
    let words = c.args.words.now in
    let rule : CommandRule = command_rule_of c.args.command.now in
    let rest : List (List ℕ) = map text (take (length words - (1 + rule.files)) (drop (1 + rule.files) words)) in
    bad_is_first rule (map text words) rest c.in-Some.place c.requires.table c.requires.shaped (drop_images text (1 + rule.files) words) c.in-Some.ensures

pub returns-in-None-clause-good : goal.returns-in-None-clause-good
returns-in-None-clause-good c =
    let text = string_bytes {Z = Global} in
    let words = c.args.words.now in
    let rule : CommandRule = command_rule_of c.args.command.now in
    subst (All (λ word. ¬ Any (IsBadFor word) rule.keys)) (drop_images text (1 + rule.files) words) c.in-None.ensures
