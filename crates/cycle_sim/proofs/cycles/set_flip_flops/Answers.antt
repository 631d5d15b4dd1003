use Rattle.std.proofs.Common.{ℕ, ◌≡◌, ◌<◌, false, List, length, length-set, get_or, sym, ap, subst, ◌∙◌}
use Rattle.std.specs.List.{Contains}
use Rattle.sr_model.specs.declared.cells.Sig.{Sig}
use Rattle.sr_model.specs.Netlist.{Valuation, cell_at}
use Rattle.cycle_sim.specs.BitTable.{BitTable, bit_in}
use Rattle.cycle_sim.specs.Simulation.{IsSimulated}
use Rattle.cycle_sim.specs.Frames.{IsState}
use Rattle.cycle_sim.proofs.FrameSteps.{rights-more, set-right, member-right, flip_flop-within, flip_flop-listed}
use Rattle.cycle_sim.proofs.cycles.set_flip_flops.Goals as goal

pub bounds-frame-flip_flops : goal.bounds-frame-flip_flops
bounds-frame-flip_flops c =
    subst (λ n. (get_or c.flip_flops-flip_flops.result.now c.loop-j.j (record { 0 = 0 })).0 < n) (sym (c.loop-j.auto.frame ∙ c.requires.frame))
    (flip_flop-within c.args.n.now.drivers c.flip_flops-flip_flops.result.now c.flip_flops-flip_flops.ensures c.loop-j.j _ c.loop-j-test.true).0

pub loop-j-preserved : goal.loop-j-preserved
loop-j-preserved c =
    let set : (s : BitTable) (cycle : ℕ) → IsState c.args.n.now s cycle c.args.state.now → (v : Valuation) → IsSimulated c.args.n.now s.count (bit_in s) v
    → get_or c.args.state.now c.loop-j.j false ≡ v (cell_at cycle (get_or c.flip_flops-flip_flops.result.now c.loop-j.j (record { 0 = 0 }))) = λ _ cycle state v sim.
    state v sim c.loop-j.j (subst (λ (xs : List Sig). c.loop-j.j < length xs) c.flip_flops-flip_flops.ensures c.loop-j-test.true)
    ∙ ap (λ xs. v (cell_at cycle (get_or xs c.loop-j.j (record { 0 = 0 })))) (sym c.flip_flops-flip_flops.ensures) in (
      length-set c.loop-j.frame (get_or c.flip_flops-flip_flops.result.now c.loop-j.j (record { 0 = 0 })).0 (get_or c.args.state.now c.loop-j.j false) ∙ c.loop-j.invariant.0,
      λ s cycle state. (
        λ v sim x right. set-right v cycle c.loop-j.frame (get_or c.flip_flops-flip_flops.result.now c.loop-j.j (record { 0 = 0 })) (get_or c.args.state.now c.loop-j.j false)
            (bounds-frame-flip_flops c) (set s cycle state v sim) x ((c.loop-j.invariant.1 s cycle state).0 v sim x right),
        λ v sim. rights-more v cycle c.loop-j.frame c.flip_flops-flip_flops.result.now c.loop-j.j (record { 0 = 0 }) (get_or c.args.state.now c.loop-j.j false)
            (bounds-frame-flip_flops c) (set s cycle state v sim) ((c.loop-j.invariant.1 s cycle state).1 v sim),
      ),
    )

pub returns-clause-flip_flops : goal.returns-clause-flip_flops
returns-clause-flip_flops c given cycle state v sim s within is =
    member-right v cycle c.loop-j.frame c.flip_flops-flip_flops.result.now c.loop-j.j (record { 0 = 0 }) s c.loop-j-test.false ((c.loop-j.invariant.1 given cycle state).1 v sim)
    (subst (λ xs. Contains xs s) (sym c.flip_flops-flip_flops.ensures) (flip_flop-listed c.args.n.now.drivers s within is))

pub returns-clause-kept : goal.returns-clause-kept
returns-clause-kept c s cycle state = (c.loop-j.invariant.1 s cycle state).0
