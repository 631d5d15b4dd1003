use Rattle.std.proofs.Common.{◌↔◌, sym, subst}
use Rattle.std.specs.Prelude.{IfOk, IsTrue}
use Rattle.unroll.specs.Problem.{unrolled}
use Rattle.known_planes.specs.Planes.{lits}
use Rattle.certificates.specs.declared.claim.Claim.{Claim}
use Rattle.certificates.specs.Validity.{Holds}
use Rattle.certificates.proofs.known.Known.bears_out.Goals as goal

pub returns-in-Forced-clause-holds : goal.returns-in-Forced-clause-holds
returns-in-Forced-clause-holds c =
    subst (λ (x : Claim). IfOk c.forces.result (λ holds. IsTrue holds ↔ Holds (unrolled c.args.p.now) (lits c.args.p.now c.args.self.now.planes) x)) (sym c.in-Forced.is) c.forces.ensures.forces
