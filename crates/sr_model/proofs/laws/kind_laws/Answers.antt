use Rattle.sr_model.proofs.KindLaws.{has_its_family, some_pins, pin_count_decided, flip_flop-dff}
use Rattle.sr_model.proofs.laws.kind_laws.Goals as goal

pub returns : goal.returns
returns c = record { family = has_its_family; some_pins = some_pins; decided = pin_count_decided; flip_flop = flip_flop-dff }
