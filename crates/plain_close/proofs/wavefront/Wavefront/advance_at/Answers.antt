use Rattle.std.proofs.Common.{◌<◌, ◌+◌, ◌-◌, ◌||◌, Bool, arith, sym, subst}
use Rattle.unroll.specs.Problem.{chunks_in}
use Rattle.plain_close.specs.declared.wavefront.Wavefront.{Wavefront}
use Rattle.plain_close.specs.Wavefront.{IsUnderWay}
use Rattle.plain_close.proofs.UnderWay.{may-step, way-stepped, way-skipped, way-next, or-then}
use Rattle.plain_close.proofs.wavefront.Wavefront.advance_at.Goals.{then-steps-time+then-time-steps+in_ok-added, else-steps-time, else-steps-time-via-then-steps-time+else-time-steps, else-steps-time-via-else-steps-time}
use Rattle.plain_close.proofs.wavefront.Wavefront.advance_at.Goals as goal

pub step_and_note-requires-clause-wavefront : goal.step_and_note-requires-clause-wavefront
step_and_note-requires-clause-wavefront c =
    let way : IsUnderWay c.args.p.now c.requires.under_way.0 c.args.level c.args.time c.loop-steps.steps (c.loop-steps.added || c.requires.under_way.2) c.requires.under_way.1 c.loop-steps.self =
    c.loop-steps.invariant c.requires.under_way.0 c.requires.under_way.1 c.requires.under_way.2 c.requires.under_way.3 in (
      c.requires.under_way.0,
      way.levels,
      way.goes.wavefront,
      way.goes.first,
      may-step c.args.p.now way.levels c.args.level c.args.time c.loop-steps.steps way.at c.loop-steps-test.true c.if-steps-time.true
          (subst (λ n. c.args.time - c.loop-steps.steps < n) c.chunks-chunks.ensures.chunks c.if-time-steps.true),
    )

pub loop-steps-preserved : goal.loop-steps-preserved
loop-steps-preserved c base start some way =
    let before : IsUnderWay c.args.p.now base c.args.level c.args.time c.loop-steps.steps (c.loop-steps.added || some) start c.loop-steps.self = c.loop-steps.invariant base start some way in
    elim c.if-steps-time.branch [
      | then-steps-time+then-time-steps+in_ok-added w ↦
          let early : c.args.time - c.loop-steps.steps < chunks_in c.args.p.now = subst (λ n. c.args.time - c.loop-steps.steps < n) c.chunks-chunks.ensures.chunks w.if-time-steps.true in
          subst (λ (x : Wavefront). IsUnderWay c.args.p.now base c.args.level c.args.time (c.loop-steps.steps + 1) (c.if-steps-time.added || some) start x) (sym w.self-is)
          (subst (λ (b : Bool). IsUnderWay c.args.p.now base c.args.level c.args.time (c.loop-steps.steps + 1) (b || some) start w.step_and_note.new.self) (sym w.added-is)
          (subst (λ (b : Bool). IsUnderWay c.args.p.now base c.args.level c.args.time (c.loop-steps.steps + 1) b start w.step_and_note.new.self) (or-then w.in_ok-added.field-0 c.loop-steps.added some)
          (way-stepped c.args.p.now base c.args.level c.args.time c.loop-steps.steps (c.loop-steps.added || some) start c.loop-steps.self before c.loop-steps-test.true w.if-steps-time.true early
          w.in_ok-added.field-0 w.step_and_note.new.self
          (w.in_ok-added.ensures base before.levels before.goes.wavefront before.goes.first
          (may-step c.args.p.now before.levels c.args.level c.args.time c.loop-steps.steps before.at c.loop-steps-test.true w.if-steps-time.true early)))))
      | else-steps-time w ↦
          subst (λ (x : Wavefront). IsUnderWay c.args.p.now base c.args.level c.args.time (c.loop-steps.steps + 1) (c.if-steps-time.added || some) start x) (sym w.self-is)
          (subst (λ (b : Bool). IsUnderWay c.args.p.now base c.args.level c.args.time (c.loop-steps.steps + 1) (b || some) start c.loop-steps.self) (sym w.added-is)
          (way-skipped c.args.p.now base c.args.level c.args.time c.loop-steps.steps (c.loop-steps.added || some) start c.loop-steps.self before c.loop-steps-test.true
          (elim w.else-steps-time.branch [
            | else-steps-time-via-then-steps-time+else-time-steps w' ↦ λ within early. absurd (omega (arith, subst (λ n. c.args.time - c.loop-steps.steps < n) (sym c.chunks-chunks.ensures.chunks) early, w'.if-time-steps.false))
            | else-steps-time-via-else-steps-time w' ↦ λ within early. absurd (omega (arith, within, w'.if-steps-time.false))
          ])))
    ]

pub returns : goal.returns
returns c base start some way =
    way-next c.args.p.now base c.args.level c.args.time (c.loop-steps.added || some) start c.loop-steps.self
    (subst (λ n. IsUnderWay c.args.p.now base c.args.level c.args.time n (c.loop-steps.added || some) start c.loop-steps.self) (omega (arith, c.loop-steps-test.false, c.loop-steps.auto.steps-end))
    (c.loop-steps.invariant base start some way))
