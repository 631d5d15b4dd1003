use Rattle.known_planes.proofs.CountLaws.{literals_by_block, more_literals_count_more, literals_are_bits}
use Rattle.known_planes.proofs.laws.count_laws.Goals as goal

pub returns : goal.returns
returns c = record { by_block = literals_by_block; more = more_literals_count_more; few = literals_are_bits }
