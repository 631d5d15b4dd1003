use Rattle.std.proofs.Common.{◌≡◌, ◌<◌, ◌&&◌, ℕ, Bool, length}
use Rattle.unroll.specs.Bits.{is_set, word_for}
use Rattle.gate_rules.specs.Lanes.{words_at_place}
use Rattle.gate_rules.specs.OddPlaces.{parity_bit}
use Rattle.gate_rules.proofs.parity.force_parity.Given as goal

abbrev pub invariant-loop-j : goal.invariant-loop-j
invariant-loop-j l = record {
  size : length l.out.items ≡ length l.view;
  room : l.out.room ≡ l.initial.out.room;
  done : (k : ℕ) → k < l.j → (lane : ℕ) (bit : Bool) → lane < 64
      → is_set (word_for bit (words_at_place l.out.items k)) lane ≡ (parity_bit l.inverted l.target l.odd l.view lane k bit && is_set l.valid lane);
}
