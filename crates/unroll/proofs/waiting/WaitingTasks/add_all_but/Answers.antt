use Rattle.std.proofs.Common.{◌≡◌, ◌++◌, ◌∷◌, [], List, eqb, false, take, get_or, ap, sym, subst, ◌∙◌}
use Rattle.std.proofs.lemmas.Bool.{eqb-false, eqb-true, not-false, not-true}
use Rattle.std.proofs.lemmas.List.{take_more}
use Rattle.sr_model.specs.declared.cells.Sig.{Sig}
use Rattle.unroll.specs.Waiting.{AddsBut}
use Rattle.unroll.proofs.WaitingWords.{but-more, but-same}
use Rattle.unroll.proofs.waiting.WaitingTasks.add_all_but.Goals as goal
use Rattle.unroll.proofs.waiting.WaitingTasks.add_all_but.Goals.{then-ne, else-ne}

pub loop-sig-preserved : goal.loop-sig-preserved
loop-sig-preserved c =
    let but : Sig = c.args.but in
    let before : List Sig = take c.loop-sig.sig-index c.args.targets.now in
    let s : Sig = get_or c.args.targets.now c.loop-sig.sig-index (record { 0 = 0 }) in
    subst (λ ts. AddsBut ts but c.args.chunk c.args.self.now c.if-ne.self) (sym (take_more c.args.targets.now c.loop-sig.sig-index (record { 0 = 0 }) c.loop-sig-test.true))
    (elim c.if-ne.branch [
      | then-ne w ↦
          let other : eqb s.0 but.0 ≡ false = not-true (eqb s.0 but.0) (sym c.ne.ensures ∙ w.if-ne.true) in
          subst (AddsBut (before ++ s ∷ []) but c.args.chunk c.args.self.now) (sym w.self-is)
          (but-more before but s c.args.chunk c.args.self.now c.loop-sig.self w.add.new.self c.loop-sig.invariant (λ e. eqb-false s.0 but.0 other (ap (λ (x : Sig). x.0) e)) w.add.ensures)
      | else-ne w ↦
          let same : s ≡ but = ap (λ n. record { 0 = n }) (eqb-true s.0 but.0 (not-false (eqb s.0 but.0) (sym c.ne.ensures ∙ w.if-ne.false))) in
          subst (AddsBut (before ++ s ∷ []) but c.args.chunk c.args.self.now) (sym w.self-is) (but-same before but s c.args.chunk c.args.self.now c.loop-sig.self c.loop-sig.invariant same)
    ])
