use Rattle.restore_program.proofs.WordsDecided.{words_decided}
use Rattle.restore_program.proofs.laws.word_laws.Goals as goal

pub returns : goal.returns
returns c = record { decided = words_decided }
