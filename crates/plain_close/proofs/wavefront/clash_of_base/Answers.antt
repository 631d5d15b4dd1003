use Rattle.std.proofs.Common.{refl}
use Rattle.plain_close.proofs.Firsts.{base-some}
use Rattle.plain_close.proofs.wavefront.clash_of_base.Goals as goal

pub returns : goal.returns
returns c = base-some c.args.p.now c.args.base.now (record { cell = c.in_ok-cell.cell; level = 0 }) refl c.in_ok-cell.ensures.some
