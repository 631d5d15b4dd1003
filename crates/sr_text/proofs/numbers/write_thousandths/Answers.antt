use Rattle.std.proofs.Common.{rules}
use Rattle.std.proofs.lemmas.Fmt.{length-decimal-le}
use Rattle.sr_text.proofs.numbers.write_thousandths.Goals as goal

pub write_decimal-len-requires : goal.write_decimal-len-requires
write_decimal-len-requires c = search (rules, length-decimal-le 17)
