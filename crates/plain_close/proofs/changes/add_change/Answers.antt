use Rattle.std.proofs.Common.{not, refl}
use Rattle.std.specs.Prelude.{nat_eq}
use Rattle.std.proofs.lemmas.Bool.{eqb-true, not-false, or_parts}
use Rattle.unroll.specs.Problem.{block_at}
use Rattle.plain_close.proofs.AddingChange.{adds-new, adds-nothing, both-before}
use Rattle.plain_close.proofs.changes.add_change.Goals as goal

pub returns-then-fresh-eq0 : goal.returns-then-fresh-eq0
returns-then-fresh-eq0 c =
    adds-nothing c.args.p.now c.requires.problem c.args.chunk c.args.change c.requires.change c.new_in_chunk-fresh.result c.args.planes.now c.new_in_chunk-fresh.ensures.known c.args.added c.if-fresh-eq0.true
    c.requires.of c.args.worklist.now c.requires.worklist

pub returns : goal.returns
returns c =
    let found = c.new_in_chunk-fresh.ensures.new c.if-fresh-eq0.false in
    adds-new c.args.p.now c.requires.problem c.args.chunk c.args.change c.requires.change c.new_in_chunk-fresh.result c.args.planes.now c.new_in_chunk-fresh.ensures.known c.args.added
    c.add_in_chunk.new.self c.add_in_chunk.ensures.of c.add_in_chunk.ensures.joins c.args.worklist.now c.wake.new.worklist
    (c.wake.ensures c.args.p.now c.requires.problem c.requires.worklist c.requires.change.inside) found.0 found.1 _ refl
    (λ h.
    let no = or_parts c.args.added.clash (not (nat_eq c.both-both.result 0)) h in (
      no.0,
      both-before c.args.p.now (block_at c.args.p.now c.args.change.sig c.args.chunk) c.args.change.words c.args.planes.now c.add_in_chunk.new.self c.add_in_chunk.ensures.joins c.word_in_chunk.result
          c.both-both.result c.word_in_chunk.ensures c.both-both.ensures (eqb-true c.both-both.result 0 (not-false (nat_eq c.both-both.result 0) no.1)),
    ))
