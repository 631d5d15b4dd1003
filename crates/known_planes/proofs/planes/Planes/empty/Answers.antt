use Rattle.std.proofs.Common.{ap, ◌∙◌}
use Rattle.netlist.specs.Circuit.{Circuit}
use Rattle.std.specs.Prelude.{length}
use Rattle.known_planes.proofs.Members.{empty-of, empty-has}
use Rattle.known_planes.proofs.planes.Planes.empty.Goals as goal

pub returns-clause-of : goal.returns-clause-of
returns-clause-of c =
    empty-of c.args.p.now c.signals-signals.result c.chunks-chunks.result _ c.in_ok-words.words.items (c.signals-signals.ensures.count ∙ ap (λ (x : Circuit). length x.drivers) c.net.ensures.net)
    c.chunks-chunks.ensures.chunks c.in_ok-words.ensures

pub returns-clause-none : goal.returns-clause-none
returns-clause-none c =
    empty-has c.args.p.now c.signals-signals.result c.chunks-chunks.result _ c.in_ok-words.words.items (c.signals-signals.ensures.count ∙ ap (λ (x : Circuit). length x.drivers) c.net.ensures.net)
    c.chunks-chunks.ensures.chunks c.in_ok-words.ensures
