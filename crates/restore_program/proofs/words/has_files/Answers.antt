use Rattle.std.proofs.Common.{Global}
use Rattle.std.specs.String.{string_bytes}
use Rattle.restore_program.proofs.CommandShapes.{named_by}
use Rattle.restore_program.proofs.words.has_files.Goals as goal

pub returns-then-command-words : goal.returns-then-command-words
returns-then-command-words c =
    named_by (string_bytes {Z = Global}) c.args.words.now c.index-words-0.result c.as_str.result.now c.args.command.now.name.now c.args.command.now.files c.eq.result c.if-command-words.true c.index-words-0.is c.as_str.ensures.value
    c.eq.ensures
