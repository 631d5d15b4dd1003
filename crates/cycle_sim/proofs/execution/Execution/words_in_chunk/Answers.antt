use Rattle.std.proofs.Common.{ℕ, ◌≡◌, ◌*◌, ◌+◌, ◌-◌, ◌<◌, ◌≤◌, ◌⊎◌, Bool, inl, inr, arith, sym, subst, ap, ◌∙◌}
use Rattle.sr_model.specs.Netlist.{cell_at}
use Rattle.cycle_sim.specs.BitTable.{BitTable, bit_in}
use Rattle.cycle_sim.specs.Simulation.{bits_of}
use Rattle.cycle_sim.proofs.RowWords.{HasFirst, has-none, zero-more, one-more, has-all}
use Rattle.cycle_sim.proofs.execution.Execution.words_in_chunk.Goals.{then-bit, else-bit}
use Rattle.cycle_sim.proofs.execution.Execution.words_in_chunk.Goals as goal

pub loop-i-init : goal.loop-i-init
loop-i-init c = let f : ℕ → Bool = (λ i. bits_of c.args.self.now (cell_at (64 * c.args.at.chunk + i) c.args.at.sig)) in subst (HasFirst f 0) (sym c.none-words.ensures.words) (has-none f)

pub loop-i-preserved : goal.loop-i-preserved
loop-i-preserved c =
    let f : ℕ → Bool = (λ i. bits_of c.args.self.now (cell_at (64 * c.args.at.chunk + i) c.args.at.sig)) in
    let few : c.loop-i.i < 64 = omega (arith, c.loop-i-test.true, c.count_in_word-i-end.ensures.few) in
    let found : c.bit.result ≡ f c.loop-i.i = c.bit.ensures ∙ ap (λ (t : BitTable). bit_in t (64 * c.args.at.chunk + c.loop-i.i) c.args.at.sig.0) c.self.view_is in
    elim c.if-bit.branch [
      | then-bit w ↦ subst (HasFirst f (c.loop-i.i + 1)) (sym w.words-is) (one-more f c.loop-i.i c.loop-i.words few c.loop-i.invariant (sym found ∙ w.if-bit.true))
      | else-bit w ↦ subst (HasFirst f (c.loop-i.i + 1)) (sym w.words-is) (zero-more f c.loop-i.i c.loop-i.words few c.loop-i.invariant (sym found ∙ w.if-bit.false))
    ]

pub returns : goal.returns
returns c =
    let count : c.count.result ≡ c.args.self.now.count = c.count.ensures ∙ ap (λ (t : BitTable). t.count) c.self.view_is in
    has-all (bits_of c.args.self.now) c.args.self.now.count (64 * c.args.at.chunk) c.loop-i.i c.args.at.sig c.loop-i.words (end c.count_in_word-i-end.ensures.all)
    (omega (arith, c.loop-i.auto.i-end, c.count_in_word-i-end.ensures.within, count)) c.loop-i.invariant
  where
    end : (64 ≤ c.count_in_word-i-end.result) ⊎ (c.count.result - 64 * c.args.at.chunk ≤ c.count_in_word-i-end.result) → (64 ≤ c.loop-i.i) ⊎ (c.args.self.now.count - 64 * c.args.at.chunk ≤ c.loop-i.i)
    end (inl all) = inl (omega (arith, all, c.loop-i-test.false))
    end (inr none) = let count : c.count.result ≡ c.args.self.now.count = c.count.ensures ∙ ap (λ (t : BitTable). t.count) c.self.view_is in inr (omega (arith, none, c.loop-i-test.false, count))
