use Rattle.std.proofs.Common.{◌/◌, subst}
use Rattle.known_planes.specs.Marks.{Noted, IsAmong}
use Rattle.known_planes.proofs.Noting.{noted-less, among-popped, order-placed}
use Rattle.known_planes.proofs.mark.Mark.pop.Goals as goal

pub invariant_of-self-2 : goal.invariant_of-self-2
invariant_of-self-2 c =
    noted-less _ _ _ c.self.invariant c.in_ok-change.change (c.place_among-order.result / 2) (order-placed _ _ _ c.place_among-order.ensures) c.pop.new.self.items c.in_ok-change.ensures.items _ c.pop.ensures.capacity

pub returns-clause-among : goal.returns-clause-among
returns-clause-among c =
    subst (λ (n : Noted). IsAmong n.signals n.chunks c.in_ok-change.change.at) c.self.view_is
    (among-popped _ _ _ c.self.invariant c.in_ok-change.change (c.place_among-order.result / 2) (order-placed _ _ _ c.place_among-order.ensures) c.pop.new.self.items c.in_ok-change.ensures.items _ c.pop.ensures.capacity)
