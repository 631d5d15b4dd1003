use Rattle.std.proofs.Common.{ap, length, ◌∙◌}
use Rattle.std.specs.Prelude.{None}
use Rattle.netlist.specs.Circuit.{Circuit}
use Rattle.known_planes.proofs.WordLists.{made-listed, made-of}
use Rattle.known_planes.proofs.planes.Planes.of_words.Goals as goal

pub returns-clause-of : goal.returns-clause-of
returns-clause-of c =
    made-of c.args.p.now c.signals.result c.chunks.result c.args.words.items None (c.signals.ensures.count ∙ ap (λ (x : Circuit). length x.drivers) c.net.ensures.net) c.chunks.ensures.chunks
    c.net.ensures.problem c.requires

pub returns-clause-words : goal.returns-clause-words
returns-clause-words c =
    made-listed c.args.p.now c.signals.result c.chunks.result c.args.words.items None (c.signals.ensures.count ∙ ap (λ (x : Circuit). length x.drivers) c.net.ensures.net) c.chunks.ensures.chunks
