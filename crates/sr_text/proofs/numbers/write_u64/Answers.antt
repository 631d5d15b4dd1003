use Rattle.std.proofs.Common.{rules}
use Rattle.std.proofs.lemmas.Fmt.{length-decimal-le}
use Rattle.sr_text.proofs.numbers.write_u64.Goals as goal

pub write_decimal-requires : goal.write_decimal-requires
write_decimal-requires c = search (rules, length-decimal-le 20)
