use Rattle.report.proofs.KeyedWords.{keyed_is_split}
use Rattle.report.proofs.word_lines.key_of.Goals as goal

pub unwrap-requires : goal.unwrap-requires
unwrap-requires c = keyed_is_split c.args.word.now c.split_once.result c.split_once.ensures.cases c.requires
