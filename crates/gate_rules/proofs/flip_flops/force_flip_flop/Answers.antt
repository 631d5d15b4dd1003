use Rattle.std.proofs.Common.{ℕ, ◌≡◌, ◌<◌, ◌↔◌, ◌&&◌, Bool, length, bit_and, get_or, sym, subst, ap, ◌∙◌, arith}
use Rattle.std.specs.Prelude.{IsTrue}
use Rattle.std.proofs.lemmas.List.{length-set}
use Rattle.sr_model.specs.Closure.{lit}
use Rattle.unroll.specs.Bits.{is_set, word_for}
use Rattle.unroll.specs.Problem.{cell_of}
use Rattle.unroll.specs.Tasks.{task_at}
use Rattle.unroll.proofs.lemmas.Words.{is_set_and}
use Rattle.netlist.specs.Wiring.{driver_at}
use Rattle.gate_rules.specs.Forced.{ForcedInCycles, view_has}
use Rattle.gate_rules.specs.FlipFlopBits.{data_pin, is_bit_of}
use Rattle.gate_rules.proofs.AndLikeSet.{set_next}
use Rattle.gate_rules.proofs.FlipFlopBlocks.{block-forced}
use Rattle.gate_rules.proofs.flip_flops.force_flip_flop.Goals as goal

pub loop-place-preserved : goal.loop-place-preserved
loop-place-preserved c =
    let words = c.loop-place.out.items in
    let blocks = c.as_slice-block-items.result.now in
    let place = c.loop-place.place in
    let same : blocks ≡ c.args.blocks.now.items = c.as_slice-block-items.ensures in
    let within : place < length words = omega (arith, c.loop-place.invariant.size, ap length same, c.loop-place-test.true) in
    record {
      size = ap length c.set.ensures.items ∙ length-set words place c.words_for.result ∙ c.loop-place.invariant.size;
      room = c.set.ensures.room ∙ c.loop-place.invariant.room;
      done = set_next
          (λ j word. (i : ℕ) (bit : Bool) → i < 64 → is_set (word_for bit word) i ≡ is_bit_of c.new-cells.result (get_or blocks j (record { 0 = 0 })) (word_for bit c.shared-shared.result) i)
          words c.set.new.self.items place c.words_for.result within c.set.ensures.items c.loop-place.invariant.done c.words_for.ensures;
    }

pub returns-clause-forced : goal.returns-clause-forced
returns-clause-forced c j i bit below within =
    let u = c.args.p.now in
    let target = c.args.at.sig in
    let pin = data_pin (driver_at c.args.p.now.circuit.drivers c.args.at.sig.0) in
    let view = c.args.view.now.items in
    let items = c.args.blocks.now.items in
    let blocks = c.as_slice-block-items.result.now in
    let cells = c.new-cells.result in
    let shared = word_for bit c.shared-shared.result in
    let b = get_or items j (record { 0 = 0 }) in
    let same : blocks ≡ items = c.as_slice-block-items.ensures in
    let done = c.loop-place.invariant.done j (omega (arith, ap length same, below)) i bit within ∙ ap (λ bs. is_bit_of cells (get_or bs j (record { 0 = 0 })) shared i) same in
    subst (λ set. IsTrue set ↔ ForcedInCycles u (task_at u target c.args.at.chunk) c.args.mask (view_has u items view) (lit (cell_of u b i) bit)) (sym done)
    (block-forced u target pin c.args.at.chunk c.requires.inside.1 cells c.new-cells.ensures.pin c.new-cells.ensures.own c.new-cells.ensures.next
    (bit_and c.valid_next_bits.result c.args.mask) c.args.mask
    (λ k h. is_set_and c.valid_next_bits.result c.args.mask k ∙ ap (λ b. b && is_set c.args.mask k) (c.valid_next_bits.ensures k h)) items view bit shared (λ k h. c.shared-shared.ensures k bit h) c.new-cells.ensures.driver b i within)
