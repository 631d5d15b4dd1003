use Rattle.std.specs.Prelude.{[]}
use Rattle.sr_model.specs.Closure.{SameLits}
use Rattle.sr_model.specs.Dump.{Known}
use Rattle.unroll.specs.Problem.{unrolled}
use Rattle.known_planes.specs.Planes.{lits}
use Rattle.greedy_select.proofs.Knowing.{known-untraced, result-both}
use Rattle.greedy_select.proofs.ranking.untraced.Goals as goal

pub returns-clause-known : goal.returns-clause-known
returns-clause-known g c =
    result-both c.close_until_clash.result _ _ (λ planes. SameLits (lits c.args.p.now planes) (Known (unrolled c.args.p.now) []))
    (λ planes. known-untraced c.args.p.now c.in_ok-empty.field-0 planes c.in_ok-empty.ensures.none c.requires) c.close_until_clash.ensures.within c.close_until_clash.ensures.closure
