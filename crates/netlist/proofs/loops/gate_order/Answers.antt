use Rattle.std.proofs.Common.{List}
use Rattle.sr_model.specs.Netlist.{Driver}
use Rattle.netlist.specs.Ranks.{IsOrder}
use Rattle.netlist.proofs.Ranking.{ranks_exclude_loops}
use Rattle.netlist.proofs.loops.gate_order.Goals as goal

pub returns-in_ok-order-in-Ranks : goal.returns-in_ok-order-in-Ranks
returns-in_ok-order-in-Ranks c =
    let drivers : List Driver = c.args.wiring.now in
    let order : IsOrder drivers c.in_ok-order-in-Ranks.field-0.items = c.in_ok-order-in-Ranks.ensures in
    (ranks_exclude_loops drivers order.ranks order.is_rank, order)
