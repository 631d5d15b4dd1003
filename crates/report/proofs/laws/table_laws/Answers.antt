use Rattle.report.proofs.CommentLine.{shown_once, shown_within, table_is_dump}
use Rattle.report.proofs.KnownRows.{table_again, table_is_sound}
use Rattle.report.proofs.laws.table_laws.Goals as goal

pub returns : goal.returns
returns c = record { dump = table_is_dump; again = table_again; sound = table_is_sound; shown_once = shown_once; shown_within = shown_within }
