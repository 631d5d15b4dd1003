use Rattle.std.proofs.Common.{ℕ, ◌≡◌, ◌<◌, ◌+◌, ◌*◌, false, length, get_or, arith, sym, ap, subst, ◌∙◌}
use Rattle.std.proofs.lemmas.List.{with_items_is}
use Rattle.cycle_sim.specs.Words.{generator_at}
use Rattle.cycle_sim.proofs.Drawn.{drawn-none, next-row, row-drawn}
use Rattle.cycle_sim.proofs.drawing.stimulus.Goals as goal

pub loop-cycle-init : goal.loop-cycle-init
loop-cycle-init c = (
  c.in_ok-bits.ensures.width,
  c.in_ok-bits.ensures.count,
  c.in_ok-row.ensures.size,
  drawn-none c.args.seed (length c.inputs-inputs.result.now) c.new-generator.result c.new-generator.ensures,
  λ d j h. absurd (omega (arith, h)),
)

pub loop-cycle-preserved : goal.loop-cycle-preserved
loop-cycle-preserved c =
    let inputs : ℕ = length c.inputs-inputs.result.now in
    let row_is = with_items_is c.loop-cycle.row c.draw.new.row (c.draw.ensures.size ∙ c.deref_mut.ensures.len) in
    let long : length c.deref_mut.result.now ≡ inputs = ap length c.deref_mut.ensures.value ∙ c.loop-cycle.invariant.2 in
    let slice : c.as_slice.result.now ≡ c.draw.new.row = c.as_slice.ensures.value ∙ row_is in
    let size : length c.as_slice.result.now ≡ inputs = ap length slice ∙ c.draw.ensures.size ∙ long in
    let drawn = c.draw.ensures.drawn c.args.seed (c.loop-cycle.cycle * inputs) c.loop-cycle.invariant.3 in (
      c.set_row.ensures.width ∙ c.loop-cycle.invariant.0,
      c.set_row.ensures.count ∙ c.loop-cycle.invariant.1,
      ap length row_is ∙ c.draw.ensures.size ∙ long,
      drawn.0 ∙ ap (λ n. generator_at 1 c.args.seed (c.loop-cycle.cycle * inputs + n)) long ∙ ap (generator_at 1 c.args.seed) (next-row c.loop-cycle.cycle inputs),
      row-drawn c.args.seed inputs c.loop-cycle.cycle c.loop-cycle.bits c.set_row.new.self c.as_slice.result.now size c.loop-cycle.invariant.0 c.set_row.ensures.here c.set_row.ensures.elsewhere
          (λ j h. ap (λ xs. get_or xs j false) slice ∙ drawn.1 j (subst (λ n. j < n) (sym long) h)) c.loop-cycle.invariant.4,
    )
