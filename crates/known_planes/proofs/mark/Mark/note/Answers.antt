use Rattle.std.proofs.Common.{◌/◌, refl, sym, subst, inr}
use Rattle.std.specs.List.{Contains}
use Rattle.known_planes.specs.Marks.{Noted, IsAmong, blocks_of}
use Rattle.known_planes.proofs.Noting.{noted-more, listed-there, order-placed}
use Rattle.known_planes.proofs.mark.Mark.note.Goals as goal

pub invariant_of-self : goal.invariant_of-self
invariant_of-self c =
    noted-more _ _ _ c.self.invariant c.args.change (c.place_among-order.result / 2) (order-placed _ _ _ c.place_among-order.ensures)
    (subst (λ (n : Noted). IsAmong n.signals n.chunks c.args.change.at) (sym c.self.view_is) c.requires)
    c.push_reserved.new.self.items c.push_reserved.ensures.items _ c.push_reserved.ensures.capacity c.index.result.now c.index.ensures c.if-not-index.true

pub returns-else-not-index-clause-changes : goal.returns-else-not-index-clause-changes
returns-else-not-index-clause-changes c = inr (
  refl,
  subst (λ (n : Noted). Contains (blocks_of n.changes) c.args.change.at) c.self.view_is
      (listed-there _ _ _ c.self.invariant c.args.change (c.place_among-order.result / 2) (order-placed _ _ _ c.place_among-order.ensures)
      (subst (λ (n : Noted). IsAmong n.signals n.chunks c.args.change.at) (sym c.self.view_is) c.requires) c.index.result.now _ c.index.ensures c.if-not-index.false refl),
)
