use Rattle.std.proofs.Common.{ℕ, ◌+◌, ◌-◌, List, map, take, drop, length, Global}
use Rattle.std.specs.String.{string_bytes}
use Rattle.restore_program.specs.WordRules.{key_rule_of}
use Rattle.restore_program.proofs.GivenKeys.{given_never, never_given, given_once}
use Rattle.restore_program.proofs.WordPlaces.{drop_images}
use Rattle.restore_program.proofs.word_keys.is_given_right.Goals as goal

pub returns-in-Some : goal.returns-in-Some
returns-in-Some c =
    let text = string_bytes {Z = Global} in
    let words = c.args.words.now in
    given_once (map text words) (map text (take (length words - (c.in-Some.place + 1)) (drop (c.in-Some.place + 1) words))) (key_rule_of c.args.key.now) c.in-Some.place c.place_of-in-Some.result c.is_none.result c.in-Some.ensures
    (drop_images text (c.in-Some.place + 1) words) c.place_of-in-Some.ensures c.is_none.ensures

pub returns-in-None : goal.returns-in-None
returns-in-None c =
    let words : List (List ℕ) = map (string_bytes {Z = Global}) c.args.words.now in
    (λ free. given_never words (key_rule_of c.args.key.now) c.in-None.ensures free, λ right. never_given words (key_rule_of c.args.key.now) c.in-None.ensures right)
