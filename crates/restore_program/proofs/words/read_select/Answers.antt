use Rattle.std.proofs.Common.{Any, ◌-◌, List, ℕ, map, take, drop, length, refl, sym, subst, lit<, Global}
use Rattle.std.specs.Prelude.{All}
use Rattle.std.specs.String.{string_bytes}
use Rattle.sr_model.specs.Limits.{max_cycles, max_signals}
use Rattle.restore_program.specs.Words.{cycles_rule, seed_rule, select_rule, width_rule}
use Rattle.restore_program.specs.WordRules.{IsBadFor}
use Rattle.restore_program.proofs.AskedSelection.{selects, select_given}
use Rattle.restore_program.proofs.Simulations.{given_number, number_found}
use Rattle.restore_program.proofs.WordPlaces.{drop_images}
use Rattle.restore_program.proofs.words.read_select.Goals as goal

pub unwrap-requires : goal.unwrap-requires
unwrap-requires c =
    let text = string_bytes {Z = Global} in
    let words = c.args.words.now in
    let rest : List (List ℕ) = map text (take (length words - 2) (drop 2 words)) in
    number_found select_rule.keys 0 width_rule 1 max_signals rest c.number_of.result (lit< tt) refl refl (select_given (map text words) rest c.requires (drop_images text 2 words)).width (subst (All (λ word. ¬ Any (IsBadFor word) select_rule.keys)) (sym (drop_images text 2 words)) c.in_ok-check_numbers.ensures.good) c.number_of.ensures

pub unwrap-requires-2 : goal.unwrap-requires-2
unwrap-requires-2 c =
    let text = string_bytes {Z = Global} in
    let words = c.args.words.now in
    let rest : List (List ℕ) = map text (take (length words - 2) (drop 2 words)) in
    number_found select_rule.keys 1 cycles_rule 1 max_cycles rest c.number_of-2.result (lit< tt) refl refl (select_given (map text words) rest c.requires (drop_images text 2 words)).cycles (subst (All (λ word. ¬ Any (IsBadFor word) select_rule.keys)) (sym (drop_images text 2 words)) c.in_ok-check_numbers.ensures.good) c.number_of-2.ensures

pub unwrap-requires-3 : goal.unwrap-requires-3
unwrap-requires-3 c =
    let text = string_bytes {Z = Global} in
    let words = c.args.words.now in
    let rest : List (List ℕ) = map text (take (length words - 2) (drop 2 words)) in
    number_found select_rule.keys 2 seed_rule 0 18446744073709551615 rest c.number_of-3.result (lit< tt) refl refl (select_given (map text words) rest c.requires (drop_images text 2 words)).seed (subst (All (λ word. ¬ Any (IsBadFor word) select_rule.keys)) (sym (drop_images text 2 words)) c.in_ok-check_numbers.ensures.good) c.number_of-3.ensures

pub returns : goal.returns
returns c =
    let text = string_bytes {Z = Global} in
    let words = c.args.words.now in
    let rest : List (List ℕ) = map text (take (length words - 2) (drop 2 words)) in
    let is = drop_images text 2 words in
    selects (map text words) c.unwrap.result c.unwrap-2.result c.unwrap-3.result c.requires
    (given_number select_rule (map text words) rest width_rule c.number_of.result c.unwrap.result is c.number_of.ensures c.unwrap.ensures)
    (given_number select_rule (map text words) rest cycles_rule c.number_of-2.result c.unwrap-2.result is c.number_of-2.ensures c.unwrap-2.ensures)
    (given_number select_rule (map text words) rest seed_rule c.number_of-3.result c.unwrap-3.result is c.number_of-3.ensures c.unwrap-3.ensures)
