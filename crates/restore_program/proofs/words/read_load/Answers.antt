use Rattle.std.proofs.Common.{Any, ◌-◌, List, ℕ, map, take, drop, length, refl, sym, subst, lit<, Global}
use Rattle.std.specs.Prelude.{All}
use Rattle.std.specs.String.{string_bytes}
use Rattle.sr_model.specs.Limits.{max_signals}
use Rattle.restore_program.specs.Words.{load_rule, number_rule, signals_rule}
use Rattle.restore_program.specs.WordRules.{IsBadFor}
use Rattle.restore_program.proofs.Loads.{number_given, signals_given}
use Rattle.restore_program.proofs.Simulations.{given_number, number_found}
use Rattle.restore_program.proofs.WordPlaces.{drop_images}
use Rattle.restore_program.proofs.words.read_load.Goals as goal

pub unwrap-requires : goal.unwrap-requires
unwrap-requires c =
    let text = string_bytes {Z = Global} in
    let words = c.args.words.now in
    let rest : List (List ℕ) = map text (take (length words - 1) (drop 1 words)) in
    number_found load_rule.keys 0 number_rule 0 18446744073709551615 rest c.number_of.result (lit< tt) refl refl (number_given (map text words) rest c.requires (drop_images text 1 words)) (subst (All (λ word. ¬ Any (IsBadFor word) load_rule.keys)) (sym (drop_images text 1 words)) c.in_ok-check_numbers.ensures.good) c.number_of.ensures

pub unwrap-requires-2 : goal.unwrap-requires-2
unwrap-requires-2 c =
    let text = string_bytes {Z = Global} in
    let words = c.args.words.now in
    let rest : List (List ℕ) = map text (take (length words - 1) (drop 1 words)) in
    number_found load_rule.keys 1 signals_rule 16 max_signals rest c.number_of-2.result (lit< tt) refl refl (signals_given (map text words) rest c.requires (drop_images text 1 words)) (subst (All (λ word. ¬ Any (IsBadFor word) load_rule.keys)) (sym (drop_images text 1 words)) c.in_ok-check_numbers.ensures.good) c.number_of-2.ensures

pub returns : goal.returns
returns c =
    let text = string_bytes {Z = Global} in
    let words = c.args.words.now in
    let rest : List (List ℕ) = map text (take (length words - 1) (drop 1 words)) in
    let is = drop_images text 1 words in
    record {
      shaped = c.requires;
      has_number = given_number load_rule (map text words) rest number_rule c.number_of.result c.unwrap.result is c.number_of.ensures c.unwrap.ensures;
      has_signals = given_number load_rule (map text words) rest signals_rule c.number_of-2.result c.unwrap-2.result is c.number_of-2.ensures c.unwrap-2.ensures;
    }
