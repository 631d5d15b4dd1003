use Rattle.std.proofs.Common.{◌≡◌, ◌++◌, List, ℕ, Ok, Err, ap, subst, sym, ◌∙◌}
use Rattle.std.proofs.lemmas.Result.{err_from_is_err_and}
use Rattle.std.specs.List.{flat_map}
use Rattle.plain_close.specs.declared.log.Step.{Step}
use Rattle.sr_text.specs.Lines.{with_line_feed}
use Rattle.certificates.specs.Logs.{facts_of}
use Rattle.certificates.specs.Printed.{cert_text, head_line, last_line}
use Rattle.report.specs.Buffers.{Puts}
use Rattle.report.specs.Writes.{Writes}
use Rattle.report.proofs.Buffered.{log_parts, puts_failed, puts_more, puts_then, puts_written, step_text}
use Rattle.report.proofs.certificate.write_certificate.Goals as goal

pub returns : goal.returns
returns g c =
    let names = c.args.n.now.names in
    let steps = c.args.log.now.steps.items in
    let lines : List ℕ = with_line_feed head_line ++ flat_map (step_text names) steps in
    let last : List ℕ = with_line_feed (last_line names c.args.log.now.clash) in
    let put : Puts g.K.Sink.written g.K.Sink.room g.K.Sink.faults c.args.out.now c.put_steps.new.out (Ok c.in_ok-put.put) c.put_steps.new.bytes lines =
    subst (λ (xs : List Step). Puts g.K.Sink.written g.K.Sink.room g.K.Sink.faults c.args.out.now c.put_steps.new.out (Ok c.in_ok-put.put) c.put_steps.new.bytes (with_line_feed head_line ++ flat_map (step_text names) xs)) c.as_slice.ensures c.in_ok-put.ensures.puts in
    let started : Puts g.K.Sink.written g.K.Sink.room g.K.Sink.faults c.args.out.now c.write_if_full.new.out (Ok c.in_ok-start.start) c.put_steps.new.bytes lines =
    puts_then g.K.Sink.written g.K.Sink.room g.K.Sink.faults c.args.out.now c.put_steps.new.out c.write_if_full.new.out c.in_ok-put.put (Ok c.in_ok-start.start) c.put_steps.new.bytes lines put c.in_ok-start.ensures.puts in
    let whole : Puts g.K.Sink.written g.K.Sink.room g.K.Sink.faults c.args.out.now c.write_if_full.new.out (Ok c.put_last-end.result) c.put_last-end.new.bytes (cert_text names (facts_of steps) c.args.log.now.clash) =
    subst (Puts g.K.Sink.written g.K.Sink.room g.K.Sink.faults c.args.out.now c.write_if_full.new.out (Ok c.put_last-end.result) c.put_last-end.new.bytes) (sym (log_parts names steps c.args.log.now.clash))
    (puts_more g.K.Sink.written g.K.Sink.room g.K.Sink.faults c.args.out.now c.write_if_full.new.out c.in_ok-start.start c.put_last-end.result c.put_steps.new.bytes c.put_last-end.new.bytes lines last started c.put_last-end.ensures.within c.put_last-end.ensures.text) in
    puts_written g.K.Sink.written g.K.Sink.room g.K.Sink.faults c.args.out.now c.write_if_full.new.out c.write_text.new.out c.put_last-end.result c.write_text.result c.put_last-end.new.bytes (cert_text names (facts_of steps) c.args.log.now.clash) whole c.write_text.ensures

pub returns-in_err-put : goal.returns-in_err-put
returns-in_err-put g c =
    let names = c.args.n.now.names in
    let steps = c.args.log.now.steps.items in
    let p = err_from_is_err_and c.from_residual.result c.from_residual.ensures.1 in
    puts_failed g.K.Sink.written g.K.Sink.room g.K.Sink.faults c.args.out.now c.put_steps.new.out c.from_residual.result c.in_err-put.field-0.0 p.0 c.put_steps.new.bytes
    (with_line_feed head_line ++ flat_map (step_text names) steps) (with_line_feed (last_line names c.args.log.now.clash)) (cert_text names (facts_of steps) c.args.log.now.clash)
    p.1 (log_parts names steps c.args.log.now.clash)
    (subst (λ (xs : List Step). Puts g.K.Sink.written g.K.Sink.room g.K.Sink.faults c.args.out.now c.put_steps.new.out (Err c.in_err-put.field-0.0) c.put_steps.new.bytes (with_line_feed head_line ++ flat_map (step_text names) xs)) c.as_slice.ensures c.in_err-put.ensures.puts)

pub returns-in_err-start : goal.returns-in_err-start
returns-in_err-start g c =
    let names = c.args.n.now.names in
    let steps = c.args.log.now.steps.items in
    let p = err_from_is_err_and c.from_residual-in_err-start.result c.from_residual-in_err-start.ensures.1 in
    puts_failed g.K.Sink.written g.K.Sink.room g.K.Sink.faults c.args.out.now c.write_if_full.new.out c.from_residual-in_err-start.result c.in_err-start.field-0.0 p.0 c.put_steps.new.bytes
    (with_line_feed head_line ++ flat_map (step_text names) steps) (with_line_feed (last_line names c.args.log.now.clash)) (cert_text names (facts_of steps) c.args.log.now.clash)
    p.1 (log_parts names steps c.args.log.now.clash)
    (puts_then g.K.Sink.written g.K.Sink.room g.K.Sink.faults c.args.out.now c.put_steps.new.out c.write_if_full.new.out c.in_ok-put.put (Err c.in_err-start.field-0.0) c.put_steps.new.bytes (with_line_feed head_line ++ flat_map (step_text names) steps)
    (subst (λ (xs : List Step). Puts g.K.Sink.written g.K.Sink.room g.K.Sink.faults c.args.out.now c.put_steps.new.out (Ok c.in_ok-put.put) c.put_steps.new.bytes (with_line_feed head_line ++ flat_map (step_text names) xs)) c.as_slice.ensures c.in_ok-put.ensures.puts)
    c.in_err-start.ensures.puts)
