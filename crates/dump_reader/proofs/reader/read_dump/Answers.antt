use Rattle.std.proofs.Common.{refl, ◌∙◌, ap, subst, length, List, [], ◌∷◌, ◌++◌}
use Rattle.std.proofs.lemmas.Result.{err_from_is_err_and}
use Rattle.dump_reader.specs.declared.dump.Tri.{Tri}
use Rattle.dump_reader.specs.Recording.{row_of}
use Rattle.sr_text.specs.Lines.{rest_of, past}
use Rattle.dump_reader.specs.Reading.{ReadsCycles, IsCyclesRefusal}
use Rattle.dump_reader.proofs.ReadSoFar.{all_read, starts, more, row_refused, cycles_refused, states_full}
use Rattle.dump_reader.proofs.SameRows.{spells_recording}
use Rattle.dump_reader.proofs.reader.read_dump.Goals as goal

pub returns-in_err-cycles-clause-refusal : goal.returns-in_err-cycles-clause-refusal
returns-in_err-cycles-clause-refusal c =
    let p = err_from_is_err_and c.from_residual-in_err-cycles.result c.from_residual-in_err-cycles.ensures.1 in
    rw (p.1, p.2)
    (cycles_refused c.args.n.now.names (length c.args.n.now.drivers) c.args.bytes.now (past c.read_head.new.lines) (rest_of c.new-lines.result) (rest_of c.read_head.new.lines) c.in_err-cycles.field-0.0
    c.new-lines.ensures.left (c.read_head.ensures.past ∙ c.new-lines.ensures.past) c.in_ok-read_head.ensures.head
    (subst (λ n. IsCyclesRefusal n (past c.read_head.new.lines) (rest_of c.read_head.new.lines) c.in_err-cycles.field-0.0) c.signals.ensures.count c.in_err-cycles.ensures.refusal))

pub loop-line-init : goal.loop-line-init
loop-line-init c =
    starts c.args.n.now.names (length c.args.n.now.drivers) c.args.bytes.now (rest_of c.new-lines.result) (rest_of c.read_head.new.lines) (rest_of c.read_cycles.new.lines) c.in_ok-cycles.cycles c.new-dump.result
    c.new-lines.ensures.left c.in_ok-read_head.ensures.head
    (subst (λ n. ReadsCycles n c.in_ok-cycles.cycles (rest_of c.read_head.new.lines) (rest_of c.read_cycles.new.lines)) c.signals.ensures.count c.in_ok-cycles.ensures.cycles) c.new-dump.ensures.cycles c.new-dump.ensures.rows

pub returns-in_err-sig-clause-refusal : goal.returns-in_err-sig-clause-refusal
returns-in_err-sig-clause-refusal c =
    let p = err_from_is_err_and c.from_residual-in_err-sig.result c.from_residual-in_err-sig.ensures.1 in
    rw (p.1, p.2)
    (row_refused c.args.n.now.names (length c.args.n.now.drivers) c.args.bytes.now c.loop-line.dump c.in-Some.line c.in-Some.text.now (rest_of c.loop-line.lines) (rest_of c.next.new.self) c.in_err-sig.field-0.0
    c.loop-line.invariant c.in-Some.ensures.first c.in_err-sig.ensures.refusal)

pub add_row-requires-clause-full : goal.add_row-requires-clause-full
add_row-requires-clause-full c =
    ap (λ (cells : List Tri). length cells) c.as_slice.ensures.value ∙ states_full c.args.n.now.names c.loop-line.dump.cycles c.in-Some.text.now c.in_ok-sig.sig c.read_row.new.cells.items c.in_ok-sig.ensures.row

pub loop-line-preserved : goal.loop-line-preserved
loop-line-preserved c =
    more c.args.n.now.names (length c.args.n.now.drivers) c.args.bytes.now c.loop-line.dump c.add_row.new.self c.in-Some.line c.in-Some.text.now (rest_of c.loop-line.lines) (rest_of c.next.new.self)
    (row_of c.in_ok-sig.sig c.read_row.new.cells.items) c.loop-line.invariant c.in-Some.ensures.first c.in_ok-sig.ensures.row c.in_ok-sig.ensures.new_signal c.add_row.ensures.cycles
    (c.in_ok-add_row.ensures.rows ∙ ap (λ (cells : List Tri). c.loop-line.dump.rows ++ row_of c.in_ok-sig.sig cells ∷ []) c.as_slice.ensures.value)

pub returns-clause-signals : goal.returns-clause-signals
returns-clause-signals c =
    (spells_recording c.args.n.now c.args.bytes.now c.loop-line.dump c.signals.ensures.circuit
    (all_read c.args.n.now.names (length c.args.n.now.drivers) c.args.bytes.now c.loop-line.dump (rest_of c.loop-line.lines) c.loop-line.invariant (c.in_default.ensures.none refl).0)).1
