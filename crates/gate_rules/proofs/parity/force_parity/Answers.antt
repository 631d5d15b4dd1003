use Rattle.std.proofs.Common.{◌≡◌, ℕ, ◌<◌, ◌&&◌, ◌↔◌, Bool, true, List, length, get_or, set, arith, sym, ap, ◌∙◌}
use Rattle.std.proofs.Math.Bool.{and-true, and-false}
use Rattle.std.proofs.lemmas.List.{length-set}
use Rattle.sr_model.specs.Closure.{Forces, passing, lit}
use Rattle.unroll.specs.declared.words.PinWord.{PinWord}
use Rattle.unroll.specs.Bits.{is_set, word_for}
use Rattle.gate_rules.specs.Lanes.{words_at_place}
use Rattle.gate_rules.specs.OddPlaces.{counts, counted, place_bit, parity_bit}
use Rattle.gate_rules.proofs.ParityExact.{parity_exact}
use Rattle.gate_rules.proofs.AndLikeSet.{set_next, all_invalid}
use Rattle.gate_rules.proofs.parity.force_parity.Goals as goal

pub loop-j-preserved : goal.loop-j-preserved
loop-j-preserved c =
    let inverted : Bool = c.args.inverted in
    let target : ℕ = c.args.target in
    let odd : List Bool = c.args.odd.now in
    let view : List PinWord = c.args.view.now in
    let valid : ℕ = c.args.valid in
    let j : ℕ = c.loop-j.j in
    let out : List PinWord = c.loop-j.out.items in
    let words : PinWord = c.within.result in
    let size : length c.loop-j.out.items ≡ length view = c.loop-j.invariant.size in
    let items : c.set.new.self.items ≡ set out j words = c.set.ensures.items in
    let here : (lane : ℕ) (bit : Bool) → lane < 64 → is_set (word_for bit words) lane ≡ (parity_bit inverted target odd view lane j bit && is_set valid lane) = λ lane bit within.
    c.within.ensures bit lane ∙ ap (λ b. b && is_set valid lane)
    (c.literals_at-literals.ensures lane (counted target odd view) bit within (c.odd_bits_of-tally.ensures.tally lane within)
    ∙ ap (λ b. place_bit inverted lane (counted target odd view) b c.odd_bits_of-tally.result.lone (words_at_place view j) bit) c.place_counts.ensures
    ∙ ap (λ b. place_bit inverted lane (counted target odd view) (counts target odd j) b (words_at_place view j) bit) c.odd_bits_of-tally.ensures.lone) in
    record {
      size = ap length items ∙ length-set out j words ∙ size;
      room = c.set.ensures.room ∙ c.loop-j.invariant.room;
      done = set_next (λ k w. (lane : ℕ) (bit : Bool) → lane < 64 → is_set (word_for bit w) lane ≡ (parity_bit inverted target odd view lane k bit && is_set valid lane))
          out c.set.new.self.items j words (omega arith) items c.loop-j.invariant.done here;
    }

pub returns-clause-forced : goal.returns-clause-forced
returns-clause-forced c = λ lane i cells known within valid xor_like at odd_is j d bit hj.
    let view : List PinWord = c.args.view.now in
    let rule : Bool = parity_bit c.args.inverted c.args.target c.args.odd.now c.args.view.now lane j bit in
    let size : length c.args.view.now ≡ length cells = at.size in
    let formula : is_set (word_for bit (words_at_place c.loop-j.out.items j)) lane ≡ parity_bit c.args.inverted c.args.target c.args.odd.now c.args.view.now lane j bit =
    c.loop-j.invariant.done j (omega arith) lane bit within ∙ ap (λ b. rule && b) valid ∙ and-true rule in
    let exact : (parity_bit c.args.inverted c.args.target c.args.odd.now c.args.view.now lane j bit ≡ true) ↔ Forces i (passing known) (lit (get_or cells j d) bit) =
    parity_exact c.args.inverted c.args.target c.args.odd.now i cells known lane c.args.view.now xor_like at odd_is d j hj bit in
    (λ h. exact.0 (sym formula ∙ h), λ f. formula ∙ exact.1 f)

pub returns-clause-invalid : goal.returns-clause-invalid
returns-clause-invalid c = λ lane j bit within invalid.
    let size : length c.loop-j.out.items ≡ length c.args.view.now = c.loop-j.invariant.size in
    all_invalid c.loop-j.out.items c.loop-j.j lane bit (omega arith) (λ k below. c.loop-j.invariant.done k below lane bit within ∙ ap (λ b. parity_bit c.args.inverted c.args.target c.args.odd.now c.args.view.now lane k bit && b) invalid ∙ and-false (parity_bit c.args.inverted c.args.target c.args.odd.now c.args.view.now lane k bit)) j
