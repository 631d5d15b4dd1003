use Rattle.std.proofs.Common.{refl}
use Rattle.known_planes.proofs.GoingBack.{back-flip_flop, back-gate}
use Rattle.known_planes.proofs.mark.Mark.put_back.Goals as goal

pub loop-change-preserved-then-is_flip_flop : goal.loop-change-preserved-then-is_flip_flop
loop-change-preserved-then-is_flip_flop c =
    back-flip_flop _ _ c.args.p.now.circuit.drivers c.args.self.now c.args.words.now.items c.loop-change.self c.pop.new.self c.loop-change.words.items c.replace-there.new.words.items c.loop-change.known
    c.loop-change.known_before c.loop-change.invariant c.in-Some.change refl c.in-Some.ensures.changes c.in-Some.ensures.signals c.in-Some.ensures.chunks c.in-Some.ensures.among c.place.result
    c.place.ensures.place c.replace-there.ensures.words c.replace-there.result c.replace-there.ensures.before c.count_known-known.result c.count_known-known_before.result
    c.count_known-known.ensures.count c.count_known-known.ensures.few c.count_known-known_before.ensures.count c.count_known-known_before.ensures.few c.is_flip_flop.result c.is_flip_flop.ensures c.if-is_flip_flop.true

pub loop-change-preserved : goal.loop-change-preserved
loop-change-preserved c =
    back-gate _ _ c.args.p.now.circuit.drivers c.args.self.now c.args.words.now.items c.loop-change.self c.pop.new.self c.loop-change.words.items c.replace-there.new.words.items c.loop-change.known
    c.loop-change.known_before c.loop-change.invariant c.in-Some.change refl c.in-Some.ensures.changes c.in-Some.ensures.signals c.in-Some.ensures.chunks c.in-Some.ensures.among c.place.result
    c.place.ensures.place c.replace-there.ensures.words c.is_flip_flop.result c.is_flip_flop.ensures c.if-is_flip_flop.false
