use Rattle.std.proofs.Common.{◌≡◌, length, get_or, sym, ap, ◌∙◌, arith}
use Rattle.std.proofs.lemmas.Bool.{eqb-true}
use Rattle.unroll.specs.Bits.{no_words}
use Rattle.gate_rules.specs.Forced.{words_of}
use Rattle.gate_rules.proofs.FlipFlopWords.{words-found, words-none}
use Rattle.gate_rules.proofs.flip_flops.words_beside.Goals as goal

pub returns-then-eq : goal.returns-then-eq
returns-then-eq c =
    let items = c.as_slice-other-items.result.now in
    let words = c.as_slice-words.result.now in
    let same : items ≡ c.args.blocks.now.items = c.as_slice-other-items.ensures in
    let also : words ≡ c.args.view.now.items = c.as_slice-words.ensures in
    let size : length words ≡ length items = ap length also ∙ c.requires ∙ sym (ap length same) in
    words-found items words c.args.block (record { 0 = 0 }) no_words c.loop-place.place size c.loop-place-test.true c.loop-place.invariant
    (eqb-true (get_or items c.loop-place.place (record { 0 = 0 })).0 c.args.block.0 (sym c.eq.ensures ∙ c.if-eq.true))
    ∙ ap (λ bs. words_of bs words c.args.block) same ∙ ap (λ ws. words_of c.args.blocks.now.items ws c.args.block) also

pub returns : goal.returns
returns c =
    let items = c.as_slice-other-items.result.now in
    let words = c.as_slice-words.result.now in
    let same : items ≡ c.args.blocks.now.items = c.as_slice-other-items.ensures in
    let also : words ≡ c.args.view.now.items = c.as_slice-words.ensures in
    let size : length words ≡ length items = ap length also ∙ c.requires ∙ sym (ap length same) in
    c.none.ensures.words ∙ words-none items words c.args.block (record { 0 = 0 }) size (λ k below. c.loop-place.invariant k (omega arith))
    ∙ ap (λ bs. words_of bs words c.args.block) same ∙ ap (λ ws. words_of c.args.blocks.now.items ws c.args.block) also
