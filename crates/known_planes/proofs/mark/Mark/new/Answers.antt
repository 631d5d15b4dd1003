use Rattle.std.proofs.Common.{rules}
use Rattle.known_planes.proofs.Noting.{noted-none}
use Rattle.known_planes.proofs.mark.Mark.new.Goals as goal

pub invariant_of-result : goal.invariant_of-result
invariant_of-result c =
    noted-none c.args.signals c.args.chunks c.in_ok-changes.changes.cap c.in_ok-changes.changes.items c.in_ok-changed.changed.items c.requires.signals c.requires.chunks (search rules) (search rules) (search rules)
