use Rattle.std.proofs.Common.{Any, ◌<◌, ◌+◌, ◌-◌, List, ℕ, map, take, drop, length, refl, sym, subst, lit<, Global, arith}
use Rattle.std.proofs.lemmas.List.{length-map}
use Rattle.std.specs.Prelude.{All}
use Rattle.std.specs.String.{string_bytes}
use Rattle.sr_model.specs.Limits.{max_cycles}
use Rattle.restore_program.specs.Words.{cycles_rule, seed_rule, simulate_rule, trace_rule, IsFor}
use Rattle.restore_program.specs.WordRules.{IsBadFor}
use Rattle.restore_program.proofs.FewWords.{few_words}
use Rattle.restore_program.proofs.Simulations.{cycles_given, given_number, given_text, number_found, place_found, place_within, seed_given, simulates, trace_given}
use Rattle.restore_program.proofs.WordPlaces.{drop_images}
use Rattle.restore_program.proofs.words.read_simulate.Goals as goal

pub check_numbers-requires-clause-table : goal.check_numbers-requires-clause-table
check_numbers-requires-clause-table c = (2, lit< tt, refl)

pub unwrap-requires : goal.unwrap-requires
unwrap-requires c =
    let text = string_bytes {Z = Global} in
    let words = c.args.words.now in
    let rest : List (List ℕ) = map text (take (length words - 2) (drop 2 words)) in
    number_found simulate_rule.keys 0 cycles_rule 1 max_cycles rest c.number_of.result (lit< tt) refl refl (cycles_given (map text words) rest c.requires (drop_images text 2 words)) (subst (All (λ word. ¬ Any (IsBadFor word) simulate_rule.keys)) (sym (drop_images text 2 words)) c.in_ok-check_numbers.ensures.good) c.number_of.ensures

pub unwrap-requires-2 : goal.unwrap-requires-2
unwrap-requires-2 c =
    let text = string_bytes {Z = Global} in
    let words = c.args.words.now in
    let rest : List (List ℕ) = map text (take (length words - 2) (drop 2 words)) in
    number_found simulate_rule.keys 1 seed_rule 0 18446744073709551615 rest c.number_of-2.result (lit< tt) refl refl (seed_given (map text words) rest c.requires (drop_images text 2 words)) (subst (All (λ word. ¬ Any (IsBadFor word) simulate_rule.keys)) (sym (drop_images text 2 words)) c.in_ok-check_numbers.ensures.good) c.number_of-2.ensures

pub unwrap-requires-3 : goal.unwrap-requires-3
unwrap-requires-3 c =
    let text = string_bytes {Z = Global} in
    let words = c.args.words.now in
    let rest : List (List ℕ) = map text (take (length words - 2) (drop 2 words)) in
    place_found trace_rule rest c.place_of.result (trace_given (map text words) rest c.requires (drop_images text 2 words)) c.place_of.ensures

pub overflow_add-result : goal.overflow_add-result
overflow_add-result c =
    let text = string_bytes {Z = Global} in
    let words = c.args.words.now in
    let rest : List (List ℕ) = map text (take (length words - 2) (drop 2 words)) in
    let within : 2 + c.unwrap-3.result < length words =
    subst (λ n. 2 + c.unwrap-3.result < n) (length-map words text) (place_within (IsFor trace_rule) (map text words) rest 2 c.unwrap-3.result c.place_of.result (drop_images text 2 words) c.place_of.ensures c.unwrap-3.ensures) in
    grind (arith, within)

pub overflow_cast-result-2 : goal.overflow_cast-result-2
overflow_cast-result-2 c =
    let text = string_bytes {Z = Global} in
    let words = c.args.words.now in
    let rest : List (List ℕ) = map text (take (length words - 2) (drop 2 words)) in
    let within = place_within (IsFor trace_rule) (map text words) rest 2 c.unwrap-3.result c.place_of.result (drop_images text 2 words) c.place_of.ensures c.unwrap-3.ensures in
    grind (arith, within, few_words simulate_rule (map text words) c.requires)

pub returns : goal.returns
returns c =
    let text = string_bytes {Z = Global} in
    let words = c.args.words.now in
    let rest : List (List ℕ) = map text (take (length words - 2) (drop 2 words)) in
    let is = drop_images text 2 words in
    simulates (map text words) c.unwrap.result c.unwrap-2.result (2 + c.unwrap-3.result) c.requires
    (given_number simulate_rule (map text words) rest cycles_rule c.number_of.result c.unwrap.result is c.number_of.ensures c.unwrap.ensures)
    (given_number simulate_rule (map text words) rest seed_rule c.number_of-2.result c.unwrap-2.result is c.number_of-2.ensures c.unwrap-2.ensures)
    (given_text simulate_rule (map text words) rest trace_rule c.place_of.result c.unwrap-3.result is c.place_of.ensures c.unwrap-3.ensures)
