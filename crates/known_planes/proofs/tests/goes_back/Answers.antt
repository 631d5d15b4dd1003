use Rattle.std.specs.Prelude.{IfSome}
use Rattle.std.proofs.Common.{◌≡◌, refl, subst, sym}
use Rattle.unroll.specs.Problem.{Unrolling}
use Rattle.known_planes.specs.Planes.{PlaneSet, IsMarked, back_at}
use Rattle.known_planes.proofs.tests.goes_back.Goals as goal

-- they are back at their mark
marked-back : (u : Unrolling) (old new : PlaneSet) → IsMarked u old → IfSome old.mark (λ words. new ≡ back_at old words) → IsMarked u new
marked-back u old new marked back =
    subst (IsMarked u) (sym (subst (λ o. IfSome o (λ words. new ≡ back_at old words)) marked.mark back))
    (record {
      words = marked.words;
      mark = refl;
      of = marked.of;
      within = λ l known. known;
    })

pub returns-clause-marked : goal.returns-clause-marked
returns-clause-marked g c = marked-back c.args.p.now c.add-4.new.planes c.go_back.new.self c.add-4.ensures.marked c.go_back.ensures.back
