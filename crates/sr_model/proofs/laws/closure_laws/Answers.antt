use Rattle.sr_model.specs.Closure.{passing}
use Rattle.sr_model.proofs.ClosureLaws.{has_base, closed, least, monotone, union_of_levels}
use Rattle.sr_model.proofs.laws.closure_laws.Goals as goal

pub returns : goal.returns
returns c = record {
  has_base = λ u base. has_base u (passing base);
  is_closed = λ u base. closed u (passing base);
  least = λ u base all is_closed has. least u (passing base) (passing all) is_closed has;
  monotone = λ u few many within. monotone u (passing few) (passing many) within;
  levels = λ u base. union_of_levels u (passing base);
}
