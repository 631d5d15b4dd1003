use Rattle.std.proofs.Common.{◌<◌, ap, subst, ◌∙◌, length}
use Rattle.netlist.specs.Circuit.{Circuit}
use Rattle.plain_close.proofs.Waking.{wakes-then}
use Rattle.plain_close.proofs.Adding.{chunk-more, no_later-in}
use Rattle.plain_close.proofs.plain_closer.add_chunk.Goals as goal

pub word_in_chunk-requires-clause-inside : goal.word_in_chunk-requires-clause-inside
word_in_chunk-requires-clause-inside c =
    (subst (λ n. c.loop-number.number < n) (c.signals-number-end.ensures.count ∙ ap (λ (x : Circuit). length x.drivers) c.net.ensures.net) c.loop-number-test.true, c.requires.chunk)

pub join-requires-clause-no_later : goal.join-requires-clause-no_later
join-requires-clause-no_later c =
    no_later-in c.args.p.now c.args.added.now (record { sig = record { 0 = c.loop-number.number }; chunk = c.args.chunk }) c.word_in_chunk.result c.requires.added
    (subst (λ n. c.loop-number.number < n) (c.signals-number-end.ensures.count ∙ ap (λ (x : Circuit). length x.drivers) c.net.ensures.net) c.loop-number-test.true, c.requires.chunk) c.word_in_chunk.ensures

pub loop-number-preserved : goal.loop-number-preserved
loop-number-preserved c = (
  wakes-then c.args.p.now c.args.planes.now c.loop-number.planes c.join.new.planes c.args.worklist.now c.loop-number.worklist c.join.new.worklist c.loop-number.invariant.0 c.join.ensures.wakes,
  chunk-more c.args.p.now c.args.added.now c.args.chunk c.loop-number.number c.args.planes.now c.loop-number.planes c.join.new.planes c.word_in_chunk.result c.loop-number.invariant.1
      c.word_in_chunk.ensures c.join.ensures.joins,
)
