use Rattle.std.proofs.Common.{◌≡◌, length, ap, ◌∙◌, sym, arith, true, false}
use Rattle.std.proofs.lemmas.List.{append-nil, length-map}
use Rattle.netlist.specs.Nodes.{driver_of}
use Rattle.netlist.proofs.FlipFlopList.{flip_flops_below, flip_flops-more}
use Rattle.netlist.proofs.wiring.flip_flops_of.Goals as goal
use Rattle.netlist.proofs.wiring.flip_flops_of.Goals.{then-is_flip_flop+in_ok-push, else-is_flip_flop}

pub loop-s-preserved : goal.loop-s-preserved
loop-s-preserved c pins =
    elim c.if-is_flip_flop.branch [
      | then-is_flip_flop+in_ok-push w ↦
          flip_flops-more pins c.args.nodes.now c.loop-s.s _ c.loop-s.sigs.items c.if-is_flip_flop.sigs.items true c.loop-s-test.true (sym w.if-is_flip_flop.true ∙ c.is_flip_flop.ensures pins)
          (c.loop-s.invariant pins) (ap (λ x. x.items) w.sigs-is ∙ w.in_ok-push.ensures.ok)
      | else-is_flip_flop w ↦
          flip_flops-more pins c.args.nodes.now c.loop-s.s _ c.loop-s.sigs.items c.if-is_flip_flop.sigs.items false c.loop-s-test.true (sym w.if-is_flip_flop.false ∙ c.is_flip_flop.ensures pins)
          (c.loop-s.invariant pins) (ap (λ x. x.items) w.sigs-is ∙ sym (append-nil c.loop-s.sigs.items))
    ]

pub returns : goal.returns
returns c pins =
    let all : c.loop-s.s ≡ length c.args.nodes.now = omega arith in
    c.into_vec.ensures ∙ c.loop-s.invariant pins ∙ ap (flip_flops_below pins c.args.nodes.now) (all ∙ sym (length-map c.args.nodes.now (driver_of pins)))
