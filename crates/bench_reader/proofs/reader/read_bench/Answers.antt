use Rattle.std.proofs.Common.{◌∙◌, ◌∷◌, [], ℕ, List, map, refl, sym, ap, subst}
use Rattle.std.proofs.lemmas.List.{map-append}
use Rattle.std.proofs.lemmas.Result.{err_from_is_err_and}
use Rattle.sr_model.specs.Declaration.{declaration_of, declarations_of}
use Rattle.sr_model.specs.declared.statements.Numbered.{Numbered}
use Rattle.sr_text.specs.Lines.{rest_of}
use Rattle.bench_reader.specs.Grammar.{StateEach}
use Rattle.bench_reader.proofs.Lines.{read_more, refusal_of, whole_read}
use Rattle.bench_reader.proofs.Statements.{spelled_are}
use Rattle.bench_reader.proofs.reader.read_bench.Goals as goal

pub loop-line-init : goal.loop-line-init
loop-line-init c = ([], sym c.new-lines.ensures.left, subst (λ (items : List Numbered). StateEach [] (map (λ s. (s.line, declaration_of s.statement)) items)) (sym c.new-statements.ensures.items) tt)

pub returns-in_err-statement-clause-refusal : goal.returns-in_err-statement-clause-refusal
returns-in_err-statement-clause-refusal c =
    let p = err_from_is_err_and c.from_residual.result c.from_residual.ensures.1 in
    rw (p.1, p.2) (refusal_of c.args.bytes.now c.in-Some.text.now c.in-Some.line (declarations_of c.loop-line.statements) (rest_of c.loop-line.lines) (rest_of c.next.new.self) c.in_err-statement.field-0.0
    c.loop-line.invariant c.in-Some.ensures.first c.in_err-statement.ensures.refusal)

pub loop-line-preserved : goal.loop-line-preserved
loop-line-preserved c =
    let stated : Numbered → ℕ × _ = λ s. (s.line, declaration_of s.statement) in
    let next : Numbered = record { line = c.in-Some.line; statement = c.in_ok-statement.statement } in
    read_more c.args.bytes.now c.in-Some.text.now c.in-Some.line (declaration_of c.in_ok-statement.statement) (declarations_of c.loop-line.statements) (declarations_of c.push.new.self)
    (rest_of c.loop-line.lines) (rest_of c.next.new.self) c.loop-line.invariant c.in-Some.ensures.first c.in_ok-statement.ensures.statement
    (ap (λ (items : List Numbered). map stated items) c.in_ok-push.ensures.ok ∙ map-append stated c.loop-line.statements.items (next ∷ []))

pub returns-clause-statements : goal.returns-clause-statements
returns-clause-statements c =
    whole_read c.args.bytes.now (declarations_of c.loop-line.statements) (rest_of c.loop-line.lines) c.loop-line.invariant (c.in_default.ensures.none refl).0

pub returns-clause-each : goal.returns-clause-each
returns-clause-each c = spelled_are c.args.bytes.now c.loop-line.statements (returns-clause-statements c)
