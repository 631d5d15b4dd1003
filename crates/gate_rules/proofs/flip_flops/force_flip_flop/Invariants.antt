use Rattle.std.proofs.Common.{ℕ, ◌≡◌, ◌<◌, Bool, length, get_or}
use Rattle.unroll.specs.Bits.{is_set, word_for}
use Rattle.gate_rules.specs.Lanes.{words_at_place}
use Rattle.gate_rules.specs.FlipFlopBits.{is_bit_of}
use Rattle.gate_rules.proofs.flip_flops.force_flip_flop.Given as goal

abbrev pub invariant-loop-place : goal.invariant-loop-place
invariant-loop-place l = record {
  size : length l.out.items ≡ length l.blocks.items;
  room : l.out.room ≡ l.initial.out.room;
  done : (j : ℕ) → j < l.place → (i : ℕ) (bit : Bool) → i < 64 → is_set (word_for bit (words_at_place l.out.items j)) i ≡ is_bit_of l.cells (get_or l.block-items j (record { 0 = 0 })) (word_for bit l.shared) i;
}
