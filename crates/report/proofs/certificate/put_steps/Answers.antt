use Rattle.std.proofs.Common.{◌≡◌, ◌++◌, ◌≤◌, ◌+◌, List, ℕ, Ok, Err, arith, length, take, drop, get_or, suc, ap, subst, sym, ◌∙◌, append_assoc}
use Rattle.std.proofs.lemmas.Result.{err_from_is_err_and}
use Rattle.std.specs.List.{flat_map}
use Rattle.sr_text.specs.Lines.{with_line_feed}
use Rattle.certificates.specs.Printed.{head_line}
use Rattle.report.specs.Buffers.{Puts}
use Rattle.report.proofs.Buffered.{puts_fault, puts_more, puts_then, step_text}
use Rattle.report.proofs.Joined.{texts_behind, texts_more}
use Rattle.report.proofs.certificate.put_steps.Goals as goal

pub returns-in_err-end-clause-puts : goal.returns-in_err-end-clause-puts
returns-in_err-end-clause-puts g c =
    let text = step_text c.args.n.now.names in
    let steps = c.args.steps.now in
    let so_far : List ℕ = with_line_feed head_line ++ flat_map text (take c.loop-step.step-index steps) in
    let p = err_from_is_err_and c.from_residual.result c.from_residual.ensures.1 in
    let fault : Puts g.K.Sink.written g.K.Sink.room g.K.Sink.faults c.args.out.now c.write_if_full.new.out (Err c.in_err-end.field-0.0) c.loop-step.bytes so_far =
    subst (λ r. Puts g.K.Sink.written g.K.Sink.room g.K.Sink.faults c.args.out.now c.write_if_full.new.out r c.loop-step.bytes so_far) c.in_err-end.was
    (puts_then g.K.Sink.written g.K.Sink.room g.K.Sink.faults c.args.out.now c.loop-step.out c.write_if_full.new.out c.loop-step.end c.write_if_full.result c.loop-step.bytes so_far c.loop-step.invariant.1 c.write_if_full.ensures.puts) in
    subst (λ r. Puts g.K.Sink.written g.K.Sink.room g.K.Sink.faults c.args.out.now c.write_if_full.new.out r c.loop-step.bytes (with_line_feed head_line ++ flat_map text steps)) (sym (p.1 ∙ ap Err p.2))
    (puts_fault g.K.Sink.written g.K.Sink.room g.K.Sink.faults c.args.out.now c.write_if_full.new.out c.in_err-end.field-0.0 c.loop-step.bytes c.loop-step.bytes so_far (flat_map text (drop c.loop-step.step-index steps)) _
    (texts_behind text (with_line_feed head_line) steps c.loop-step.step-index) fault)

pub loop-step-preserved : goal.loop-step-preserved
loop-step-preserved g c =
    let text = step_text c.args.n.now.names in
    let steps = c.args.steps.now in
    let so_far : List ℕ = with_line_feed head_line ++ flat_map text (take c.loop-step.step-index steps) in
    let put : Puts g.K.Sink.written g.K.Sink.room g.K.Sink.faults c.args.out.now c.write_if_full.new.out (Ok c.in_ok-end.end) c.loop-step.bytes so_far =
    puts_then g.K.Sink.written g.K.Sink.room g.K.Sink.faults c.args.out.now c.loop-step.out c.write_if_full.new.out c.loop-step.end (Ok c.in_ok-end.end) c.loop-step.bytes so_far c.loop-step.invariant.1 c.in_ok-end.ensures.puts in
    let more = puts_more g.K.Sink.written g.K.Sink.room g.K.Sink.faults c.args.out.now c.write_if_full.new.out c.in_ok-end.end c.put_step-end.result c.loop-step.bytes c.put_step-end.new.bytes so_far _ put c.put_step-end.ensures.within c.put_step-end.ensures.text in (
      c.put_step-end.ensures.size ∙ c.loop-step.invariant.0,
      subst (Puts g.K.Sink.written g.K.Sink.room g.K.Sink.faults c.args.out.now c.write_if_full.new.out (Ok c.put_step-end.result) c.put_step-end.new.bytes)
          (append_assoc (with_line_feed head_line) (flat_map text (take c.loop-step.step-index steps)) _ ∙ ap (λ xs. with_line_feed head_line ++ xs) (sym (texts_more text steps c.loop-step.step-index _ c.loop-step-test.true))) more,
    )
