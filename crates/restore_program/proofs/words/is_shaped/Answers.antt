use Rattle.std.proofs.Common.{◌+◌, ◌-◌, map, take, drop, length, Global, ◌<◌}
use Rattle.std.specs.String.{string_bytes}
use Rattle.std.proofs.lemmas.List.{length-map}
use Rattle.restore_program.specs.WordRules.{command_rule_of}
use Rattle.restore_program.proofs.CommandShapes.{shaped_by}
use Rattle.restore_program.proofs.WordPlaces.{drop_images}
use Rattle.restore_program.proofs.words.is_shaped.Goals as goal

pub returns-then-has_files : goal.returns-then-has_files
returns-then-has_files c =
    let text = string_bytes {Z = Global} in
    let words = c.args.words.now in
    let files = c.args.command.now.files in
    let front = c.has_files.ensures.0 c.if-has_files.true in
    let few : files < length (map text words) = rw length-map front.1 in
    shaped_by (command_rule_of c.args.command.now) (map text words) (map text (take (length words - (files + 1)) (drop (files + 1) words))) c.suit_all.result (front.0, few) (drop_images text (files + 1) words) c.suit_all.ensures
