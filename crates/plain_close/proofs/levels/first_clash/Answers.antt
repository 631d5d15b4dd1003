use Rattle.std.proofs.Common.{◌<◌, ◌≤◌, ◌+◌, ◌*◌, Some, arith, subst}
use Rattle.unroll.specs.Problem.{blocks_in}
use Rattle.known_planes.specs.Counts.{literal_count}
use Rattle.known_planes.proofs.lemmas.Laws.{literals_are_bits}
use Rattle.plain_close.specs.Wavefront.{GoesOn, IsFirst}
use Rattle.plain_close.proofs.LevelsBelow.{first-is, first-within, no-first}
use Rattle.plain_close.proofs.levels.first_clash.Goals as goal

pub advance-requires-clause-few : goal.advance-requires-clause-few
advance-requires-clause-few c =
    let few : literal_count c.args.p.now c.loop-wavefront.wavefront.planes ≤ 128 * blocks_in c.args.p.now = literals_are_bits c.args.p.now c.loop-wavefront.wavefront.planes c.loop-wavefront.invariant.wavefront.of in
    omega (arith, few, c.loop-wavefront.invariant.count, c.loop-wavefront.invariant.wavefront.problem.few_blocks)

pub overflow_add-level : goal.overflow_add-level
overflow_add-level c =
    let few : literal_count c.args.p.now c.loop-wavefront.wavefront.planes ≤ 128 * blocks_in c.args.p.now = literals_are_bits c.args.p.now c.loop-wavefront.wavefront.planes c.loop-wavefront.invariant.wavefront.of in
    omega (arith, few, c.loop-wavefront.invariant.count, c.loop-wavefront.invariant.wavefront.problem.few_blocks)

pub loop-wavefront-preserved : goal.loop-wavefront-preserved
loop-wavefront-preserved c =
    let goes : GoesOn c.args.p.now c.args.base.now (λ _. c.loop-wavefront.level + 4) c.in_ok-added.added c.loop-wavefront.wavefront c.advance.new.self =
    c.in_ok-added.ensures c.args.base.now c.loop-wavefront.invariant.wavefront c.loop-wavefront.invariant.first in
    let more : literal_count c.args.p.now c.loop-wavefront.wavefront.planes < literal_count c.args.p.now c.advance.new.self.planes = goes.more c.if-added.true in
    record { wavefront = goes.wavefront; first = goes.first; count = omega (arith, more, c.loop-wavefront.invariant.count) }

pub loop-wavefront-smaller : goal.loop-wavefront-smaller
loop-wavefront-smaller c =
    let goes : GoesOn c.args.p.now c.args.base.now (λ _. c.loop-wavefront.level + 4) c.in_ok-added.added c.loop-wavefront.wavefront c.advance.new.self =
    c.in_ok-added.ensures c.args.base.now c.loop-wavefront.invariant.wavefront c.loop-wavefront.invariant.first in
    let more : literal_count c.args.p.now c.loop-wavefront.wavefront.planes < literal_count c.args.p.now c.advance.new.self.planes = goes.more c.if-added.true in
    let few : literal_count c.args.p.now c.advance.new.self.planes ≤ 128 * blocks_in c.args.p.now = literals_are_bits c.args.p.now c.advance.new.self.planes goes.wavefront.of in
    omega (arith, more, few, goes.wavefront.problem.few_blocks)

pub returns-in-Some-clause-some : goal.returns-in-Some-clause-some
returns-in-Some-clause-some c =
    let goes : GoesOn c.args.p.now c.args.base.now (λ _. c.loop-wavefront.level + 4) c.in_ok-added.added c.loop-wavefront.wavefront c.advance.new.self =
    c.in_ok-added.ensures c.args.base.now c.loop-wavefront.invariant.wavefront c.loop-wavefront.invariant.first in
    first-is c.args.p.now c.args.base.now (c.loop-wavefront.level + 4) c.advance.new.self goes.wavefront (Some c.in-Some.clash)
    (subst (IsFirst c.args.p.now c.args.base.now (λ _. c.loop-wavefront.level + 4)) c.in-Some.is goes.first)

pub returns-in-Some-clause-within : goal.returns-in-Some-clause-within
returns-in-Some-clause-within c =
    let goes : GoesOn c.args.p.now c.args.base.now (λ _. c.loop-wavefront.level + 4) c.in_ok-added.added c.loop-wavefront.wavefront c.advance.new.self =
    c.in_ok-added.ensures c.args.base.now c.loop-wavefront.invariant.wavefront c.loop-wavefront.invariant.first in
    first-within c.args.p.now c.args.base.now (c.loop-wavefront.level + 4) c.advance.new.self goes.wavefront (Some c.in-Some.clash)
    (subst (IsFirst c.args.p.now c.args.base.now (λ _. c.loop-wavefront.level + 4)) c.in-Some.is goes.first)

pub returns-in-None-2-clause-none : goal.returns-in-None-2-clause-none
returns-in-None-2-clause-none c _ =
    let goes : GoesOn c.args.p.now c.args.base.now (λ _. c.loop-wavefront.level + 4) c.in_ok-added.added c.loop-wavefront.wavefront c.advance.new.self =
    c.in_ok-added.ensures c.args.base.now c.loop-wavefront.invariant.wavefront c.loop-wavefront.invariant.first in
    no-first c.args.p.now c.args.base.now c.loop-wavefront.level c.loop-wavefront.wavefront c.loop-wavefront.invariant.wavefront (c.loop-wavefront.level + 4) c.advance.new.self (omega arith)
    (subst (λ b. GoesOn c.args.p.now c.args.base.now (λ _. c.loop-wavefront.level + 4) b c.loop-wavefront.wavefront c.advance.new.self) c.if-added.false goes)
    (subst (IsFirst c.args.p.now c.args.base.now (λ _. c.loop-wavefront.level + 4)) c.in-None-2.is goes.first)
