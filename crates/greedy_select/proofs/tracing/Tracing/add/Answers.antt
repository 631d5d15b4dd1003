use Rattle.std.proofs.Common.{ap, ◌∙◌}
use Rattle.cycle_sim.specs.Simulation.{bits_of}
use Rattle.known_planes.specs.Rows.{row_has}
use Rattle.greedy_select.proofs.Knowing.{are-closed, kept}
use Rattle.greedy_select.proofs.tracing.Tracing.add.Goals as goal

pub close_in_place-requires-clause-closed : goal.close_in_place-requires-clause-closed
close_in_place-requires-clause-closed g c = are-closed c.args.self.now.p (bits_of c.args.self.now.e.now) c.requires.known.0 c.args.sig c.args.planes.now c.requires.known.1

pub returns : goal.returns
returns g c = λ sigs before.
    kept c.args.self.now.p (bits_of c.args.self.now.e.now) sigs c.args.sig c.args.planes.now before c.as_slice.result.now
    (λ l. ap (λ xs. row_has c.args.self.now.p c.args.sig xs l) c.as_slice.ensures ∙ c.in_ok-row.ensures.literals l) c.close_in_place.new.planes c.in_ok-close_in_place.ensures.of c.in_ok-close_in_place.ensures.mark
    c.in_ok-close_in_place.ensures.closure c.keep.new.self c.keep.ensures.some
