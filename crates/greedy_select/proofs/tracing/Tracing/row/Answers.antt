use Rattle.std.proofs.Common.{◌+◌, ◌*◌, ◌≡◌, slice_get, arith, ap, subst, ◌∙◌}
use Rattle.sr_model.specs.Dump.{is_bit}
use Rattle.unroll.specs.Problem.{chunks_in}
use Rattle.cycle_sim.specs.Simulation.{bits_of, traced_row}
use Rattle.greedy_select.proofs.Rows.{HasFirst, first-none, first-more, is-row, is-trace}
use Rattle.greedy_select.proofs.tracing.Tracing.row.Goals as goal

pub loop-chunk-init : goal.loop-chunk-init
loop-chunk-init c = first-none (bits_of c.args.self.now.e.now) c.args.self.now.p.cycles c.args.sig c.in_ok-row.row.items c.in_ok-row.ensures.items

pub loop-chunk-preserved : goal.loop-chunk-preserved
loop-chunk-preserved c =
    first-more (bits_of c.args.self.now.e.now) c.args.self.now.p.cycles c.args.sig c.loop-chunk.row.items c.push.new.self.items c.loop-chunk.chunk c.words_in_chunk.result c.in_ok-push.ensures.ok
    (λ bit i few.
    c.words_in_chunk.ensures bit i few ∙ ap (λ n. is_bit (slice_get (traced_row (bits_of c.args.self.now.e.now) n c.args.sig).bits (64 * c.loop-chunk.chunk + i)) bit) c.args.self.now.cycles)
    c.loop-chunk.invariant

pub returns-clause-row : goal.returns-clause-row
returns-clause-row c =
    let all : c.loop-chunk.chunk ≡ chunks_in c.args.self.now.p = omega (arith, c.loop-chunk-test.false, c.loop-chunk.auto.chunk-end, c.chunks-chunk-end.ensures.chunks) in
    is-row c.args.self.now.p (bits_of c.args.self.now.e.now) c.args.sig c.loop-chunk.row.items (subst (HasFirst (bits_of c.args.self.now.e.now) c.args.self.now.p.cycles c.args.sig c.loop-chunk.row.items) all c.loop-chunk.invariant)

pub returns-clause-literals : goal.returns-clause-literals
returns-clause-literals c =
    let all : c.loop-chunk.chunk ≡ chunks_in c.args.self.now.p = omega (arith, c.loop-chunk-test.false, c.loop-chunk.auto.chunk-end, c.chunks-chunk-end.ensures.chunks) in
    is-trace c.args.self.now.p (bits_of c.args.self.now.e.now) c.args.sig c.loop-chunk.row.items (subst (HasFirst (bits_of c.args.self.now.e.now) c.args.self.now.p.cycles c.args.sig c.loop-chunk.row.items) all c.loop-chunk.invariant)
