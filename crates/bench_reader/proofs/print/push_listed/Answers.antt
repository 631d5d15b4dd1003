use Rattle.std.proofs.Common.{◌≡◌, ◌⊎◌, ◌<◌, ◌++◌, [], get_or, sym, ap, ◌∙◌, inl, inr, arith}
use Rattle.std.specs.Prelude.{codes}
use Rattle.std.proofs.lemmas.Option.{get_or_from_slice_get}
use Rattle.sr_model.specs.declared.cells.Sig.{Sig}
use Rattle.bench_reader.specs.Printed.{name_in}
use Rattle.bench_reader.proofs.Printing.{listed_more}
use Rattle.bench_reader.proofs.print.push_listed.Goals as goal
use Rattle.bench_reader.proofs.print.push_listed.Goals.{then-i-gt0+in_ok-extend_from_slice, else-i-gt0}

pub loop-i-preserved : goal.loop-i-preserved
loop-i-preserved c =
    let pin : Sig = get_or c.args.pins.now c.loop-i.i (record { 0 = 0 }) in
    let joint : ((0 < c.loop-i.i) × (c.if-i-gt0.text.items ≡ c.loop-i.text.items ++ codes ", ")) ⊎ ((c.loop-i.i ≡ 0) × (c.if-i-gt0.text.items ≡ c.loop-i.text.items)) =
    elim c.if-i-gt0.branch [
      | then-i-gt0+in_ok-extend_from_slice w ↦ inl (w.if-i-gt0.true, ap (λ text. text.items) w.text-is ∙ w.in_ok-extend_from_slice.ensures.items)
      | else-i-gt0 w ↦ inr (omega arith, ap (λ text. text.items) w.text-is)
    ] in
    listed_more (name_in c.args.n.now.names) c.args.pins.now c.loop-i.i (record { 0 = 0 }) c.args.text.now.items c.loop-i.text.items c.if-i-gt0.text.items
    c.extend_from_slice-in-loop-i.new.self.items (omega arith) c.loop-i.invariant joint
    (c.in_ok-extend_from_slice-2.ensures.items ∙ ap (λ t. c.if-i-gt0.text.items ++ t) (sym (get_or_from_slice_get c.args.n.now.names pin.0 c.name.result.now [] c.name.ensures.name)))
