use Rattle.std.proofs.Common.{◌≡◌, ◌<◌, false, length, get_or, arith, ap, subst, ◌∙◌}
use Rattle.std.proofs.lemmas.List.{with_items_is}
use Rattle.std.proofs.lemmas.List.Elements.{All-get_or}
use Rattle.sr_model.specs.declared.cells.Sig.{Sig}
use Rattle.cycle_sim.specs.BitTable.{bit_in}
use Rattle.cycle_sim.specs.Frames.{in_frame}
use Rattle.cycle_sim.proofs.FrameSteps.{state-start, kept-more}
use Rattle.cycle_sim.proofs.cycles.simulated_bits.Goals as goal

pub loop-cycle-init : goal.loop-cycle-init
loop-cycle-init c = (
  c.in_ok-frame.ensures.size ∙ c.signals.ensures.count,
  c.in_ok-state.ensures.size ∙ ap length c.flip_flops.ensures,
  c.in_ok-row.ensures.size,
  c.in_ok-bits.ensures.width,
  c.in_ok-bits.ensures.count ∙ c.cycles.ensures.value,
  λ _ v sim j h. state-start c.args.n.now c.args.s.now.count (bit_in c.args.s.now) v sim c.in_ok-state.state.items c.in_ok-state.ensures.zero j h,
  λ v sim d j h. absurd (omega (arith, h)),
)

pub next_cycle-requires-clause-state : goal.next_cycle-requires-clause-state
next_cycle-requires-clause-state c v sim j h =
    ap (λ xs. get_or xs j false) c.deref_mut-in-loop-cycle.ensures.value ∙ c.loop-cycle.invariant.5 (subst (λ n. c.loop-cycle.cycle < n) c.cycles-cycle-end.ensures.value c.loop-cycle-test.true) v sim j h

pub loop-cycle-preserved : goal.loop-cycle-preserved
loop-cycle-preserved c =
    let frame_is = with_items_is c.loop-cycle.frame c.next_cycle.new.frame (c.next_cycle.ensures.frame_size ∙ c.deref_mut.ensures.len) in
    let state_is = with_items_is c.loop-cycle.state c.next_cycle.new.state (c.next_cycle.ensures.state_size ∙ c.deref_mut-in-loop-cycle.ensures.len) in
    let row_is = with_items_is c.loop-cycle.row c.keep.new.row (c.keep.ensures.size ∙ c.deref_mut-in-loop-cycle-2.ensures.len) in
    let frame_now : c.deref.result.now ≡ c.next_cycle.new.frame = c.deref.ensures.value ∙ frame_is in
    let row_now : c.as_slice-in-loop-cycle.result.now ≡ c.keep.new.row = c.as_slice-in-loop-cycle.ensures.value ∙ row_is in
    let row_size : length c.keep.new.row ≡ length c.args.kept.now = c.keep.ensures.size ∙ ap length c.deref_mut-in-loop-cycle-2.ensures.value ∙ c.loop-cycle.invariant.2 in (
      ap length frame_is ∙ c.next_cycle.ensures.frame_size ∙ ap length c.deref_mut.ensures.value ∙ c.loop-cycle.invariant.0,
      ap length state_is ∙ c.next_cycle.ensures.state_size ∙ ap length c.deref_mut-in-loop-cycle.ensures.value ∙ c.loop-cycle.invariant.1,
      ap length row_is ∙ row_size,
      c.set_row.ensures.width ∙ c.loop-cycle.invariant.3,
      c.set_row.ensures.count ∙ c.loop-cycle.invariant.4,
      λ later v sim j h. ap (λ xs. get_or xs j false) state_is ∙ c.next_cycle.ensures.state later v sim j h,
      λ v sim. kept-more v c.loop-cycle.cycle c.loop-cycle.bits c.set_row.new.self c.deref.result.now c.as_slice-in-loop-cycle.result.now c.args.kept.now
          (ap length row_now ∙ row_size) c.loop-cycle.invariant.3 c.set_row.ensures.here c.set_row.ensures.elsewhere
          (λ j h. ap (λ xs. get_or xs j false) row_now ∙ c.keep.ensures.bits j h)
          (λ j h. ap (λ xs. in_frame xs (get_or c.args.kept.now j (record { 0 = 0 }))) frame_now
          ∙ c.next_cycle.ensures.all v sim (get_or c.args.kept.now j (record { 0 = 0 })) (All-get_or (λ (x : Sig). x.0 < length c.args.n.now.drivers) c.args.kept.now j (record { 0 = 0 }) h c.requires.kept))
          (c.loop-cycle.invariant.6 v sim),
    )

pub returns-clause-bits : goal.returns-clause-bits
returns-clause-bits c v sim cycle j early h =
    c.loop-cycle.invariant.6 v sim cycle j (omega (arith, early, c.loop-cycle.invariant.4, c.cycles-cycle-end.ensures.value, c.loop-cycle-test.false)) h
