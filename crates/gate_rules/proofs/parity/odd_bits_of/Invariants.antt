use Rattle.std.proofs.Common.{◌≡◌, ◌<◌, ℕ, map}
use Rattle.gate_rules.specs.Lanes.{words_at_place}
use Rattle.gate_rules.specs.OddPlaces.{counting, is_lone, IsOddBits}
use Rattle.gate_rules.proofs.parity.odd_bits_of.Given as goal

abbrev pub invariant-loop-j : goal.invariant-loop-j
invariant-loop-j l = record {
  tally : (lane : ℕ) → lane < 64 → IsOddBits lane (map (words_at_place l.view) (counting l.target l.odd l.j)) l.tally;
  lone : l.tally.lone ≡ is_lone l.target l.odd l.j;
}
