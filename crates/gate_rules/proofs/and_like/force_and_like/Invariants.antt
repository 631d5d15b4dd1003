use Rattle.std.proofs.Common.{ℕ, ◌≡◌, ◌<◌, Bool, false, length}
use Rattle.unroll.specs.Bits.{is_set, word_for}
use Rattle.gate_rules.specs.Lanes.{words_at_place}
use Rattle.gate_rules.specs.AndLikeBits.{WordForced}
use Rattle.gate_rules.proofs.and_like.force_and_like.Given as goal

abbrev pub invariant-loop-place : goal.invariant-loop-place
invariant-loop-place l = record {
  size : length l.out.items ≡ length l.view;
  room : l.out.room ≡ l.initial.out.room;
  forced : (j : ℕ) → j < l.place → WordForced l.gate.pins l.gate.target l.target l.valid l.view j (words_at_place l.out.items j);
  invalid : (j lane : ℕ) (bit : Bool) → j < l.place → lane < 64 → is_set l.valid lane ≡ false → is_set (word_for bit (words_at_place l.out.items j)) lane ≡ false;
}
