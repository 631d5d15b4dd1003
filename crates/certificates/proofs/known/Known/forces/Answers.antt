use Rattle.std.proofs.Common.{ℕ, ◌%◌, ◌<◌, arith}
use Rattle.certificates.proofs.Adding.{one-bit}
use Rattle.certificates.proofs.AtPlace.{forced-there}
use Rattle.certificates.proofs.known.Known.forces.Goals as goal

small : (n : ℕ) → n % 64 < 64
small n = omega arith

pub returns-clause-forces : goal.returns-clause-forces
returns-clause-forces c =
    let place = c.args.fact.place in
    forced-there c.args.p.now c.requires.kept.problem c.args.self.now.planes c.requires.kept.of place c.requires.there.1 c.see.new.self.planes c.see.new.self.blocks.items c.see.new.self.view.items
    c.forced_in_cycles_in_chunk.new.out.items _ c.args.fact.lit c.is_out.result c.see.ensures.planes c.in_ok-see.ensures.sees.blocks c.in_ok-see.ensures.sees.view (one-bit (place.cycle % 64) (small place.cycle))
    c.forced_in_cycles_in_chunk.ensures.forced c.requires.there.0.early c.is_out.ensures
