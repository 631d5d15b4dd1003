use Rattle.std.proofs.Common.{List, ap, ◌∙◌, refl}
use Rattle.unroll.specs.declared.words.PinWord.{PinWord}
use Rattle.gate_rules.specs.Forced.{bit_at_place}
use Rattle.unroll.specs.Problem.{bit_of}
use Rattle.certificates.proofs.AtPlace.{answer-absent, answer-listed}
use Rattle.certificates.proofs.known.Known.is_out.Goals as goal

pub returns-in-Some : goal.returns-in-Some
returns-in-Some c =
    answer-listed c.args.p.now c.args.self.now.blocks.items c.as_slice.result.now c.args.self.now.out.items c.args.l c.block-block.result c.as_slice.ensures c.block-block.ensures.block c.in-Some.place
    c.has.result c.in-Some.ensures.within c.in-Some.ensures.at
    (c.has.ensures ∙ ap (λ (words : List PinWord). bit_at_place words c.in-Some.place c.args.l.bit (bit_of c.args.l.cell)) c.as_slice-in-Some.ensures)

pub returns-in-None : goal.returns-in-None
returns-in-None c =
    answer-absent c.args.p.now c.args.self.now.blocks.items c.as_slice.result.now c.args.self.now.out.items c.args.l c.block-block.result c.as_slice.ensures c.block-block.ensures.block
    (c.in-None.ensures.none refl)
