use Rattle.std.proofs.Common.{ap, ◌∙◌}
use Rattle.cycle_sim.specs.Simulation.{bits_of}
use Rattle.known_planes.specs.Rows.{row_has}
use Rattle.greedy_select.proofs.Knowing.{are-closed, can-go-back, gone-back, known-already, known-more}
use Rattle.greedy_select.proofs.tracing.Tracing.candidate.Goals as goal

pub returns-then-is_known-clause-gained : goal.returns-then-is_known-clause-gained
returns-then-is_known-clause-gained g c = λ picked before.
    known-already c.args.self.now.p (bits_of c.args.self.now.e.now) picked c.args.sig c.args.planes.now before c.as_slice.result.now
    (λ l. ap (λ xs. row_has c.args.self.now.p c.args.sig xs l) c.as_slice.ensures ∙ c.in_ok-row.ensures.literals l) (c.is_known.ensures c.if-is_known.true)

pub close_in_place-requires-clause-closed : goal.close_in_place-requires-clause-closed
close_in_place-requires-clause-closed g c = are-closed c.args.self.now.p (bits_of c.args.self.now.e.now) c.requires.known.0 c.args.sig c.args.planes.now c.requires.known.1

pub go_back-gained-requires-clause-mark : goal.go_back-gained-requires-clause-mark
go_back-gained-requires-clause-mark g c =
    can-go-back c.args.self.now.p (bits_of c.args.self.now.e.now) c.requires.known.0 c.args.sig c.args.planes.now c.requires.known.1 c.as_slice-2.result.now
    (λ l. ap (λ xs. row_has c.args.self.now.p c.args.sig xs l) c.as_slice-2.ensures ∙ c.in_ok-row.ensures.literals l) c.close_in_place.new.planes c.in_ok-close_in_place.ensures.of c.in_ok-close_in_place.ensures.mark
    c.in_ok-close_in_place.ensures.closure

pub returns-clause-planes : goal.returns-clause-planes
returns-clause-planes g c =
    gone-back c.args.self.now.p (bits_of c.args.self.now.e.now) c.requires.known.0 c.args.sig c.args.planes.now c.requires.known.1 c.as_slice-2.result.now
    (λ l. ap (λ xs. row_has c.args.self.now.p c.args.sig xs l) c.as_slice-2.ensures ∙ c.in_ok-row.ensures.literals l) c.close_in_place.new.planes c.in_ok-close_in_place.ensures.of c.in_ok-close_in_place.ensures.mark
    c.in_ok-close_in_place.ensures.closure c.go_back-gained.new.self c.go_back-gained.ensures.back

pub returns-clause-gained : goal.returns-clause-gained
returns-clause-gained g c = λ picked before.
    known-more c.args.self.now.p (bits_of c.args.self.now.e.now) picked c.args.sig c.args.planes.now before c.as_slice-2.result.now
    (λ l. ap (λ xs. row_has c.args.self.now.p c.args.sig xs l) c.as_slice-2.ensures ∙ c.in_ok-row.ensures.literals l) c.close_in_place.new.planes c.in_ok-close_in_place.ensures.of c.in_ok-close_in_place.ensures.mark
    c.in_ok-close_in_place.ensures.closure c.go_back-gained.new.self c.go_back-gained.result c.go_back-gained.ensures.back c.go_back-gained.ensures.count
