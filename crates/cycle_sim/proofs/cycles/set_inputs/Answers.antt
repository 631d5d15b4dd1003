use Rattle.std.proofs.Common.{◌<◌, List, length, length-set, get_or, sym, ap, subst, ◌∙◌}
use Rattle.std.specs.List.{Contains}
use Rattle.sr_model.specs.declared.cells.Sig.{Sig}
use Rattle.sr_model.specs.Netlist.{cell_at}
use Rattle.cycle_sim.proofs.FrameSteps.{rights-more, member-right, input-within}
use Rattle.cycle_sim.proofs.cycles.set_inputs.Goals as goal

pub bounds-frame-inputs : goal.bounds-frame-inputs
bounds-frame-inputs c =
    subst (λ n. (get_or c.inputs-inputs.result.now c.loop-j.j (record { 0 = 0 })).0 < n) (sym (c.loop-j.auto.frame ∙ c.requires.frame))
    (input-within c.args.n.now c.requires.circuit c.inputs-inputs.result.now c.inputs-inputs.ensures c.loop-j.j _ c.loop-j-test.true)

pub loop-j-preserved : goal.loop-j-preserved
loop-j-preserved c = (
  length-set c.loop-j.frame (get_or c.inputs-inputs.result.now c.loop-j.j (record { 0 = 0 })).0 c.bit.result ∙ c.loop-j.invariant.0,
  λ v sim. rights-more v c.args.cycle c.loop-j.frame c.inputs-inputs.result.now c.loop-j.j (record { 0 = 0 }) c.bit.result (bounds-frame-inputs c)
      (c.bit.ensures ∙ sym (sim.inputs c.args.cycle c.loop-j.j c.requires.cycle (subst (λ (xs : List Sig). c.loop-j.j < length xs) c.inputs-inputs.ensures c.loop-j-test.true))
      ∙ ap (λ xs. v (cell_at c.args.cycle (get_or xs c.loop-j.j (record { 0 = 0 })))) (sym c.inputs-inputs.ensures))
      (c.loop-j.invariant.1 v sim),
)

pub returns-clause-inputs : goal.returns-clause-inputs
returns-clause-inputs c v sim s within listed =
    member-right v c.args.cycle c.loop-j.frame c.inputs-inputs.result.now c.loop-j.j (record { 0 = 0 }) s c.loop-j-test.false (c.loop-j.invariant.1 v sim)
    (subst (λ xs. Contains xs s) (sym c.inputs-inputs.ensures) listed)
