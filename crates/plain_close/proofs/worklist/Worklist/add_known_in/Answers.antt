use Rattle.std.proofs.Common.{◌≡◌, ◌<◌, ◌+◌, ap, arith, length, subst, sym, ◌∙◌}
use Rattle.netlist.specs.Circuit.{Circuit}
use Rattle.unroll.specs.Problem.{IsInside, signals_in}
use Rattle.plain_close.specs.declared.worklist.Worklist.{Worklist}
use Rattle.plain_close.specs.Worklist.{StirsChunk}
use Rattle.plain_close.proofs.Stirring.{stirs-none, stirs-woken, stirs-unknown}
use Rattle.plain_close.proofs.worklist.Worklist.add_known_in.Goals.{then-known-ne0, else-known-ne0}
use Rattle.plain_close.proofs.worklist.Worklist.add_known_in.Goals as goal

pub loop-number-init : goal.loop-number-init
loop-number-init c = stirs-none c.args.p.now c.args.planes.now c.args.chunk c.args.self.now c.requires.of

pub word_in_chunk-requires-clause-inside : goal.word_in_chunk-requires-clause-inside
word_in_chunk-requires-clause-inside c =
    (subst (λ n. c.loop-number.number < n) (c.signals-number-end.ensures.count ∙ ap (λ (x : Circuit). length x.drivers) c.net.ensures.net) c.loop-number-test.true, c.requires.chunk)

pub wake-requires : goal.wake-requires
wake-requires c = record { of = (c.args.p.now, c.requires.problem, c.loop-number.invariant.of, (subst (λ n. c.loop-number.number < n) (c.signals-number-end.ensures.count ∙ ap (λ (x : Circuit). length x.drivers) c.net.ensures.net) c.loop-number-test.true, c.requires.chunk)) }

pub loop-number-preserved : goal.loop-number-preserved
loop-number-preserved c =
    elim c.if-known-ne0.branch [
      | then-known-ne0 w ↦
          let inside : IsInside c.args.p.now (record { sig = record { 0 = c.loop-number.number }; chunk = c.args.chunk }) = (subst (λ n. c.loop-number.number < n) (c.signals-number-end.ensures.count ∙ ap (λ (x : Circuit). length x.drivers) c.net.ensures.net) c.loop-number-test.true, c.requires.chunk) in
          subst (λ (q : Worklist). StirsChunk c.args.p.now c.args.planes.now c.args.chunk (c.loop-number.number + 1) c.args.self.now q) (sym w.self-is)
          (stirs-woken c.args.p.now c.args.planes.now c.args.chunk c.loop-number.number c.args.self.now c.loop-number.self c.loop-number.invariant c.word_in_chunk.result c.word_in_chunk.ensures
          c.known-known.result c.known-known.ensures c.requires.problem inside w.wake.new.self (w.wake.ensures c.args.p.now c.requires.problem c.loop-number.invariant.of inside))
      | else-known-ne0 w ↦
          subst (λ (q : Worklist). StirsChunk c.args.p.now c.args.planes.now c.args.chunk (c.loop-number.number + 1) c.args.self.now q) (sym w.self-is)
          (stirs-unknown c.args.p.now c.args.planes.now c.args.chunk c.loop-number.number c.args.self.now c.loop-number.self c.loop-number.invariant c.word_in_chunk.result c.word_in_chunk.ensures
          c.known-known.result c.known-known.ensures w.if-known-ne0.false)
    ]

pub returns : goal.returns
returns c =
    subst (λ n. StirsChunk c.args.p.now c.args.planes.now c.args.chunk n c.args.self.now c.loop-number.self) last c.loop-number.invariant
  where
    last : c.loop-number.number ≡ signals_in c.args.p.now
    last = omega (arith, c.loop-number-test.false, c.loop-number.auto.number-end, c.signals-number-end.ensures.count ∙ ap (λ (x : Circuit). length x.drivers) c.net.ensures.net)
