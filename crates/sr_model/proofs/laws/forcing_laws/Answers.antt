use Rattle.sr_model.specs.Closure.{passing}
use Rattle.sr_model.proofs.Forcing.{forced_by_cells}
use Rattle.sr_model.proofs.laws.forcing_laws.Goals as goal

pub returns : goal.returns
returns c = record {
  by_cells = λ i known same. forced_by_cells i (passing known) (passing same);
  grows = λ i few many within. forced_by_cells i (passing few) (passing many) (λ l on_cells. within l);
}
